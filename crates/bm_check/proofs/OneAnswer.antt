-- A report has at most one answer.
use Rattle.std.proofs.Common.{◌≡◌, ℕ, zero, suc, ◌<◌, ◌⊎◌, inl, inr, List, length, refl, ap, sym, ◌∙◌, arith, subst}
use Rattle.std.specs.Prelude.{reverse, take}
use Rattle.std.proofs.lemmas.Bool.{cases_lt}
use Rattle.bm_core.specs.Accounts.{Routes, Rules}
use Rattle.bm_core.specs.Runs.{IsRun, Run}
use Rattle.bm_core.specs.declared.events.Event.{Event}
use Rattle.bm_core.specs.declared.events.History.{History}
use Rattle.bm_core.specs.declared.events.Stage.{Stage}
use Rattle.bm_trace.specs.Report.{text}
use Rattle.bm_check.proofs.Answering.{no_difference, run_begins, same_history}
use Rattle.bm_check.proofs.Reports.{good_begin, one_reading}
use Rattle.bm_check.specs.Answers.{DifferAt, IsAccounted, IsAnswered, IsBadTo, IsLeast, IsNoRunTo, IsRead}
use Rattle.bm_check.specs.Lines.{lines}
use Rattle.bm_check.specs.declared.answer.Answer.{Answer}
use Rattle.bm_check.specs.declared.answer.Answer.TheVariants.{NotAccount, NotLine, NotRun, NotSame, Yes}

-- only one number is the least
one_least : (P : ℕ → Type 0) (m n : ℕ) → IsLeast P m → IsLeast P n → m ≡ n
one_least P m n is also = elim (cases_lt m n) [
  | inl less ↦ absurd (also.1 m less is.0)
  | inr above ↦ elim (cases_lt n m) [ inl more ↦ absurd (is.1 n more also.0) | inr below ↦ omega (arith, above, below) ]
]

module _ (R : Routes) (F : Rules) (stage : Stage) (trace : List ℕ) where
  -- a report is read in one way
  one_history : (h k : History) → h.stage ≡ stage → k.stage ≡ stage → IsRead trace h → IsRead trace k → h ≡ k
  one_history h k here there read also =
      same_history h k (here ∙ sym there) (one_reading h.events k.events (lines trace) read also)

  -- what has a bad line isn't read
  unread : {P : Type 0} → (n : ℕ) (h : History) → IsLeast (IsBadTo (lines trace)) n → IsRead trace h → P
  unread n h bad read = absurd (bad.0 (good_begin h.events (lines trace) n read))

  -- what stops isn't a run
  stopped : {P : Type 0} → (i : ℕ) (h k : History) → h.stage ≡ stage → k.stage ≡ stage → IsRead trace h → IsRead trace k
      → IsLeast (IsNoRunTo stage h.events) i → IsRun k → P
  stopped i h k here there read also stops run =
      let events = ap (λ (x : History). x.events) (one_history k h there here also read)
      in let begun : Run stage (reverse (take i k.events)) =
      run_begins stage k.events i (subst (λ (x : Stage). Run x (reverse k.events)) there run.run)
      in absurd (stops.0 (subst (λ (x : List Event). Run stage (reverse (take i x))) events begun))

  unaccounted : {P : Type 0} → (h k : History) → h.stage ≡ stage → k.stage ≡ stage → IsRead trace h → IsRead trace k
      → (IsAccounted R F h → ⊥) → IsAccounted R F k → P
  unaccounted h k here there read also none account =
      absurd (none (subst (λ (x : History). IsAccounted R F x) (one_history k h there here also read) account))

  differs : {P : Type 0} → (n : ℕ) (h k : History) → h.stage ≡ stage → k.stage ≡ stage → IsRead trace h → IsRead trace k
      → IsLeast (DifferAt trace (text h)) n → text k ≡ trace → P
  differs n h k here there read also differ is =
      let same = ap text (one_history h k here there read also) ∙ is
      in absurd (no_difference trace n (subst (λ (t : List ℕ). DifferAt trace t n) same differ.0))

  pub one_answer : (a b : Answer) → IsAnswered R F stage trace a → IsAnswered R F stage trace b → a ≡ b
  one_answer (NotLine m) (NotLine n) is also = ap NotLine (one_least (IsBadTo (lines trace)) m n is also)
  one_answer (NotLine m) (NotRun j) is also = unread m also.0 is also.2
  one_answer (NotLine m) NotAccount is also = unread m also.0 is also.2
  one_answer (NotLine m) (NotSame n) is also = unread m also.0 is also.2
  one_answer (NotLine m) (Yes e) is also = unread m also.0 is also.2
  one_answer (NotRun i) (NotLine n) is also = unread n is.0 also is.2
  one_answer (NotRun i) (NotRun j) is also =
      let events = ap (λ (x : History). x.events) (one_history also.0 is.0 also.1 is.1 also.2 is.2)
      in ap NotRun (one_least (IsNoRunTo stage is.0.events) i j is.3
      (subst (λ (x : List Event). IsLeast (IsNoRunTo stage x) j) events also.3))
  one_answer (NotRun i) NotAccount is also = stopped i is.0 also.0 is.1 also.1 is.2 also.2 is.3 also.3
  one_answer (NotRun i) (NotSame n) is also = stopped i is.0 also.0 is.1 also.1 is.2 also.2 is.3 also.3
  one_answer (NotRun i) (Yes e) is also = stopped i is.0 also.0 is.1 also.1 is.2 also.2 is.3 also.3
  one_answer NotAccount (NotLine n) is also = unread n is.0 also is.2
  one_answer NotAccount (NotRun j) is also = stopped j also.0 is.0 also.1 is.1 also.2 is.2 also.3 is.3
  one_answer NotAccount NotAccount is also = refl
  one_answer NotAccount (NotSame n) is also = unaccounted is.0 also.0 is.1 also.1 is.2 also.2 is.4 also.4
  one_answer NotAccount (Yes e) is also = unaccounted is.0 also.0 is.1 also.1 is.2 also.2 is.4 also.4
  one_answer (NotSame m) (NotLine n) is also = unread n is.0 also is.2
  one_answer (NotSame m) (NotRun j) is also = stopped j also.0 is.0 also.1 is.1 also.2 is.2 also.3 is.3
  one_answer (NotSame m) NotAccount is also = unaccounted also.0 is.0 also.1 is.1 also.2 is.2 also.4 is.4
  one_answer (NotSame m) (NotSame n) is also =
      let same = one_history also.0 is.0 also.1 is.1 also.2 is.2
      in ap NotSame (one_least (DifferAt trace (text is.0)) m n is.5
      (subst (λ (x : History). IsLeast (DifferAt trace (text x)) n) same also.5))
  one_answer (NotSame m) (Yes e) is also = differs m is.0 also.0 is.1 also.1 is.2 also.2 is.5 also.5
  one_answer (Yes d) (NotLine n) is also = unread n is.0 also is.2
  one_answer (Yes d) (NotRun j) is also = stopped j also.0 is.0 also.1 is.1 also.2 is.2 also.3 is.3
  one_answer (Yes d) NotAccount is also = unaccounted also.0 is.0 also.1 is.1 also.2 is.2 also.4 is.4
  one_answer (Yes d) (NotSame n) is also = differs n also.0 is.0 also.1 is.1 also.2 is.2 also.5 is.5
  one_answer (Yes d) (Yes e) is also =
      let same = one_history is.0 also.0 is.1 also.1 is.2 also.2
      in ap Yes (sym is.6 ∙ ap (λ (x : History). length x.events) same ∙ also.6)
