-- A report has one answer, and the report of a run that is accounted for has Yes.
use Rattle.std.proofs.Common.{◌≡◌, ℕ, zero, suc, ◌≤◌, ◌==◌, inl, inr, List, [], ◌∷◌, length, refl, ap, sym, ◌∙◌}
use Rattle.std.proofs.Common.{arith, subst}
use Rattle.std.specs.Prelude.{drop, reverse, take}
use Rattle.std.proofs.lemmas.Bool.{cases_Bool, cases_lt}
use Rattle.bm_core.specs.Accounts.{Routes, Rules}
use Rattle.bm_core.specs.Runs.{IsRun, Run}
use Rattle.bm_core.specs.declared.events.Event.{Event}
use Rattle.bm_core.specs.declared.events.History.{History}
use Rattle.bm_core.specs.declared.events.Stage.{Stage}
use Rattle.bm_trace.specs.Report.{text}
use Rattle.bm_trace.specs.Types.{AreEvents}
use Rattle.bm_check.proofs.Copying.{reverse_split}
use Rattle.bm_check.proofs.Itself.{reads_itself, run_older}
use Rattle.bm_check.proofs.Ordering.{take_all}
use Rattle.bm_check.proofs.Reports.{few_events, good_begin, one_reading}
use Rattle.bm_check.specs.Answers.{DifferAt, IsAccounted, IsAnswered, IsLeast, IsNoRunTo, IsRead}
use Rattle.bm_check.specs.Lines.{AreLinesOf, lines, put_first}
use Rattle.bm_check.specs.declared.answer.Answer.{Answer}
use Rattle.bm_check.specs.declared.answer.Answer.TheVariants.{NotAccount, NotLine, NotRun, NotSame, Yes}

-- BOUNDS

put_few : (c : ℕ) (ls : List (List ℕ)) (n : ℕ) → length ls ≤ n → length (put_first c ls) ≤ suc n
put_few c [] n few = omega arith
put_few c (l ∷ ls) n few = omega (arith, few)

lines_few : (trace : List ℕ) → length (lines trace) ≤ length trace
lines_few [] = omega arith
lines_few (c ∷ trace) = elim (cases_Bool (c == 10)) [
  | inl feed ↦ let few = lines_few trace in rw feed (omega (arith, few))
  | inr other ↦ rw other (put_few c (lines trace) (length trace) (lines_few trace))
]

pub events_few : (events : List Event) (trace : List ℕ) → AreLinesOf events (lines trace) → length events ≤ length trace
events_few events trace read =
    let a = few_events events (lines trace) read in let b = lines_few trace in omega (arith, a, b)

pub stop_few : (stage : Stage) (events : List Event) (n : ℕ) → IsLeast (IsNoRunTo stage events) n → n ≤ length events
stop_few stage events n least = elim (cases_lt (length events) n) [
  | inl longer ↦
      absurd (least.1 (length events) longer
      (λ run.
      least.0 (subst (λ (x : List Event). Run stage (reverse x))
      (take_all events (length events) (omega arith) ∙ sym (take_all events n (omega (arith, longer)))) run)))
  | inr within ↦ within
]

-- ONE ANSWER

pub run_begins : (stage : Stage) (events : List Event) (n : ℕ) → Run stage (reverse events)
    → Run stage (reverse (take n events))
run_begins stage events n run =
    run_older stage (drop n events) (reverse (take n events))
    (subst (λ (x : List Event). Run stage x) (reverse_split n events []) run)

pub same_history : (h k : History) → h.stage ≡ k.stage → h.events ≡ k.events → h ≡ k
same_history h k stage events = λ i. record { stage = stage i; events = events i }

-- a text doesn't differ from itself
pub no_difference : (trace : List ℕ) (n : ℕ) → DifferAt trace trace n → ⊥
no_difference trace zero differ = differ
no_difference trace (suc i) differ = differ refl

-- the report of a run that is accounted for has no other answer
pub only_answer : (R : Routes) (F : Rules) (stage : Stage) (trace : List ℕ) (h : History) → h.stage ≡ stage
    → AreEvents h.events → IsRun h → IsAccounted R F h → text h ≡ trace → (a : Answer)
    → IsAnswered R F stage trace a → a ≡ Yes (length h.events)
only_answer R F stage trace h here fits run account is = by where
  own : IsRead trace h
  own = subst (λ (t : List ℕ). AreLinesOf h.events (lines t)) is (reads_itself h run fits)

  other : (k : History) → k.stage ≡ stage → IsRead trace k → k ≡ h
  other k there read = same_history k h (there ∙ sym here) (one_reading k.events h.events (lines trace) read own)

  by : (a : Answer) → IsAnswered R F stage trace a → a ≡ Yes (length h.events)
  by (NotLine n) least = absurd (least.0 (good_begin h.events (lines trace) n own))
  by (NotRun n) found =
      let same = other found.0 found.1 found.2
      in let events = ap (λ (k : History). k.events) same
      in let begun : Run stage (reverse (take n h.events)) =
      run_begins stage h.events n (subst (λ (x : Stage). Run x (reverse h.events)) here run.run)
      in absurd (found.3.0 (subst (λ (x : List Event). Run stage (reverse (take n x))) (sym events) begun))
  by NotAccount found =
      absurd (found.4 (subst (λ (k : History). IsAccounted R F k) (sym (other found.0 found.1 found.2)) account))
  by (NotSame n) found =
      let same = ap text (other found.0 found.1 found.2) ∙ is
      in absurd (no_difference trace n (subst (λ (t : List ℕ). DifferAt trace t n) same found.5.0))
  by (Yes e) found =
      let events = ap (λ (k : History). k.events) (other found.0 found.1 found.2)
      in ap Yes (sym found.6 ∙ ap length events)
