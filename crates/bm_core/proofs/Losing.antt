-- Each sending's copies arrive or are lost: what an account says of them, counted.
use Rattle.std.proofs.Common.{◌≡◌, ℕ, zero, suc, ◌+◌, ◌<◌, ◌≤◌, Bool, true, false, ◌&&◌, ◌==◌, inl, inr}
use Rattle.std.proofs.Common.{if◌then◌else◌, List, [], ◌∷◌, Option, Some, None, refl, ap, ◌∙◌, subst, arith}
use Rattle.std.specs.Prelude.{IfSome}
use Rattle.std.proofs.lemmas.Bool.{cases_lt, and_parts, eq-eqb, eqb-true, ne_eqb}
use Rattle.bm_base.specs.declared.fate.Fate.{Fate}
use Rattle.bm_base.specs.declared.label.Hop.{Hop}
use Rattle.bm_base.specs.declared.label.Hop.TheVariants.{Direct, Chained, Twice}
use Rattle.bm_base.specs.Labels.{same_hop}
use Rattle.bm_core.specs.declared.events.What.{What}
use Rattle.bm_core.specs.declared.events.What.TheVariants.{Publish, Switch, Steer, Lose, Arrive, Close, Retire, Sync}
use Rattle.bm_core.specs.declared.events.Event.{Event}
use Rattle.bm_core.specs.declared.events.Stage.{Stage}
use Rattle.bm_core.specs.Past.{Sending, is_sending, sending_of, sends}
use Rattle.bm_core.specs.Runs.{MayCome, Run}
use Rattle.bm_core.specs.Accounts.{Routes, Rules, IsAccountOf, AreAnswered, before, copyless_at, counts}
use Rattle.bm_core.specs.Accounts.{fate_now, arrives, loses, lost_at, sent_copies}
use Rattle.bm_core.specs.Ends.{AreLost, IsSingle}

abbrev pub once : Bool → ℕ
once b = if b then 1 else 0

-- SUMS OVER CLOCKS

-- g 0 + .. + g (n - 1)
abbrev sum_to : ℕ → (ℕ → ℕ) → ℕ
sum_to zero g = 0
sum_to (suc n) g = sum_to n g + g n

sum_none : (n : ℕ) → sum_to n (λ c. 0) ≡ 0
sum_none zero = refl
sum_none (suc n) = let old = sum_none n in omega arith

sum_plus : (n : ℕ) (g h : ℕ → ℕ) → sum_to n (λ c. g c + h c) ≡ sum_to n g + sum_to n h
sum_plus zero g h = refl
sum_plus (suc n) g h = let old = sum_plus n g h in omega arith

sum_same : (n : ℕ) (g h : ℕ → ℕ) → ((c : ℕ) → g c ≡ h c) → sum_to n g ≡ sum_to n h
sum_same zero g h same = refl
sum_same (suc n) g h same = let old = sum_same n g h same in let here = same n in omega arith

sum_first : (n : ℕ) (g : ℕ → ℕ) → sum_to (suc n) g ≡ g 0 + sum_to n (λ c. g (suc c))
sum_first zero g = omega arith
sum_first (suc n) g = let old = sum_first n g in omega arith

sum_past : (n x : ℕ) → n ≤ x → sum_to n (λ c. once (x == c)) ≡ 0
sum_past zero x above = refl
sum_past (suc n) x above =
    let old = sum_past n x (omega arith)
    in let here : once (x == n) ≡ 0 = ap once (ne_eqb x n (λ e. absurd (omega arith)))
    in omega arith

-- a clock below n is one of these once
sum_one : (n x : ℕ) → x < n → sum_to n (λ c. once (x == c)) ≡ 1
sum_one zero x below = absurd (omega arith)
sum_one (suc n) x below = elim (cases_lt x n) [
  | inl before ↦
      let old = sum_one n x before
      in let here : once (x == n) ≡ 0 = ap once (ne_eqb x n (λ e. absurd (omega arith)))
      in omega arith
  | inr last ↦
      let none = sum_past n x last
      in let here : once (x == n) ≡ 1 = ap once (eq-eqb x n (omega arith))
      in omega arith
]

sum_test : (n x : ℕ) (b : Bool) → x < n → sum_to n (λ c. once (b && x == c)) ≡ once b
sum_test n x true below = sum_one n x below
sum_test n x false below = sum_none n

sum_tests : (n x : ℕ) (a b : Bool) → x < n → sum_to n (λ c. once (a && (b && x == c))) ≡ once (a && b)
sum_tests n x true b below = sum_test n x b below
sum_tests n x false b below = sum_none n

-- above all clocks
abbrev top : List Event → ℕ
top [] = 0
top (e ∷ past) = suc (e.clock.0 + top past)

lost_sum : (n : ℕ) (all : List Event) (k : ℕ) (hop : Hop) → top all ≤ n
    → sum_to n (λ c. lost_at all k hop c) ≡ counts all (λ what. loses what k hop)
lost_sum n [] k hop high = sum_none n
lost_sum n (e ∷ past) k hop high =
    let old = lost_sum n past k hop (omega arith)
    in let here = sum_test n e.clock.0 (loses e.what k hop) (omega arith)
    in let plus = sum_plus n (λ c. once (loses e.what k hop && e.clock.0 == c)) (λ c. lost_at past k hop c)
    in omega arith

-- how many sendings have a fate without copies
abbrev copyless : List Fate → List Event → ℕ → Hop → ℕ
copyless fates [] k hop = 0
copyless fates (e ∷ past) k hop =
    once (sends e.what k hop && (fate_now fates).copies == 0) + copyless (before fates) past k hop

copyless_sum : (n : ℕ) (fates : List Fate) (all : List Event) (k : ℕ) (hop : Hop) → top all ≤ n
    → sum_to n (λ c. copyless_at fates all k hop c) ≡ copyless fates all k hop
copyless_sum n fates [] k hop high = sum_none n
copyless_sum n fates (e ∷ past) k hop high =
    let old = copyless_sum n (before fates) past k hop (omega arith)
    in let here = sum_tests n e.clock.0 (sends e.what k hop) ((fate_now fates).copies == 0) (omega arith)
    in let plus =
    sum_plus n (λ c. once (sends e.what k hop && ((fate_now fates).copies == 0 && e.clock.0 == c)))
    (λ c. copyless_at (before fates) past k hop c)
    in omega arith

-- no Lose has the clock 0
later_loss : (stage : Stage) (past : List Event) (clock : ℕ) (what : What) (k : ℕ) (hop : Hop)
    → MayCome stage past clock what → (loses what k hop && clock == 0) ≡ false
later_loss stage past clock (Lose packet came) k hop may =
    let later : (clock == 0) ≡ false = ne_eqb clock 0 (λ e. let a = may.1 in absurd (omega arith))
    in rw later (none (loses (Lose packet came) k hop)) where
      none : (b : Bool) → (b && false) ≡ false
      none true = refl
      none false = refl
later_loss stage past clock (Publish v) k hop may = refl
later_loss stage past clock (Switch m v) k hop may = refl
later_loss stage past clock (Steer packet m) k hop may = refl
later_loss stage past clock (Arrive packet came server verdict) k hop may = refl
later_loss stage past clock (Close server flow closed) k hop may = refl
later_loss stage past clock (Retire server h at result) k hop may = refl
later_loss stage past clock Sync k hop may = refl

none_first : (stage : Stage) (all : List Event) (k : ℕ) (hop : Hop) → Run stage all → lost_at all k hop 0 ≡ 0
none_first stage [] k hop run = refl
none_first stage (e ∷ past) k hop run =
    let old = none_first stage past k hop run.1
    in let here : once (loses e.what k hop && e.clock.0 == 0) ≡ 0 =
    ap once (later_loss stage past e.clock.0 e.what k hop run.0.may)
    in omega arith

-- as many are lost as have a fate without copies
lost_copyless : (stage : Stage) (fates : List Fate) (all : List Event) (k : ℕ) (hop : Hop) → Run stage all
    → ((clock : ℕ) → lost_at all k hop (suc clock) ≡ copyless_at fates all k hop clock)
    → counts all (λ what. loses what k hop) ≡ copyless fates all k hop
lost_copyless stage fates all k hop run lost =
    let n = top all
    in let whole = lost_sum (suc n) all k hop (omega arith)
    in let parts = sum_first n (λ c. lost_at all k hop c)
    in let none = none_first stage all k hop run
    in let same = sum_same n (λ c. lost_at all k hop (suc c)) (λ c. copyless_at fates all k hop c) lost
    in let sent = copyless_sum n fates all k hop (omega arith)
    in omega arith

-- SENDINGS

sent_here : (s : Bool) (copies : ℕ) → once s ≤ (if s then copies else 0) + once (s && copies == 0)
sent_here true zero = omega arith
sent_here true (suc n) = omega arith
sent_here false copies = omega arith

-- a sending has copies, or it is one without
sent_any : (fates : List Fate) (all : List Event) (k : ℕ) (hop : Hop)
    → counts all (λ what. sends what k hop) ≤ sent_copies fates all k hop + copyless fates all k hop
sent_any fates [] k hop = omega arith
sent_any fates (e ∷ past) k hop =
    let old = sent_any (before fates) past k hop
    in let here = sent_here (sends e.what k hop) (fate_now fates).copies
    in omega arith

copyless_here : (s none : Bool) → once (s && none) ≤ once s
copyless_here true true = omega arith
copyless_here true false = omega arith
copyless_here false none = omega arith

copyless_few : (fates : List Fate) (all : List Event) (k : ℕ) (hop : Hop)
    → copyless fates all k hop ≤ counts all (λ what. sends what k hop)
copyless_few fates [] k hop = omega arith
copyless_few fates (e ∷ past) k hop =
    let old = copyless_few (before fates) past k hop
    in let here = copyless_here (sends e.what k hop) ((fate_now fates).copies == 0)
    in omega arith

no_copies_here : (s : Bool) (copies : ℕ) → once s ≤ once (s && copies == 0) → (if s then copies else 0) ≡ 0
no_copies_here true zero all_of = refl
no_copies_here true (suc n) all_of =
    let some : (suc n == 0) ≡ false = ne_eqb (suc n) 0 (λ e. absurd (omega arith))
    in let none : 1 ≤ once (true && false) = rw some at all_of
    in absurd (omega arith)
no_copies_here false copies all_of = refl

-- where each sending is without copies, none was sent
no_copies : (fates : List Fate) (all : List Event) (k : ℕ) (hop : Hop)
    → counts all (λ what. sends what k hop) ≤ copyless fates all k hop → sent_copies fates all k hop ≡ 0
no_copies fates [] k hop all_of = refl
no_copies fates (e ∷ past) k hop all_of =
    let few = copyless_few (before fates) past k hop
    in let few_here = copyless_here (sends e.what k hop) ((fate_now fates).copies == 0)
    in let old = no_copies (before fates) past k hop (omega arith)
    in let here = no_copies_here (sends e.what k hop) (fate_now fates).copies (omega arith)
    in omega arith

hop_is : (a b : Hop) → same_hop a b ≡ true → a ≡ b
hop_is Direct Direct e = refl
hop_is Chained Chained e = refl
hop_is Twice Twice e = refl
hop_is _ _ e = absurd (cc)

-- a sending's fate is one that the rule may give
fate_of : (F : Rules) (sent : Option Sending) (fate : Fate) (k : ℕ) (hop : Hop) → is_sending sent k hop ≡ true
    → IfSome sent (λ s. F s.packet s.hop fate) → F k hop fate
fate_of F None fate k hop is gives = absurd (cc)
fate_of F (Some s) fate k hop is gives =
    let p = and_parts (s.packet == k) (same_hop s.hop hop) is
    in subst (λ (n : ℕ). F n hop fate) (eqb-true s.packet k p.0)
    (subst (λ (h : Hop). F s.packet h fate) (hop_is s.hop hop p.1) gives)

single_here : (s : Bool) (copies : ℕ) → (s ≡ true → copies ≤ 1)
    → once s ≡ (if s then copies else 0) + once (s && copies == 0)
single_here true zero few = refl
single_here true (suc zero) few = refl
single_here true (suc (suc n)) few = let no = few refl in absurd (omega arith)
single_here false copies few = refl

-- a sending has one copy, or it is one without
sent_single : (R : Routes) (F : Rules) (stage : Stage) (fates : List Fate) (all : List Event) (k : ℕ) (hop : Hop)
    → IsSingle F k → AreAnswered R F stage fates all
    → counts all (λ what. sends what k hop) ≡ sent_copies fates all k hop + copyless fates all k hop
sent_single R F stage fates [] k hop single answered = refl
sent_single R F stage fates (e ∷ past) k hop single answered =
    let old = sent_single R F stage (before fates) past k hop single answered.1
    in let here =
    single_here (sends e.what k hop) (fate_now fates).copies
    (λ is. single hop (fate_now fates) (fate_of F (sending_of e.what) (fate_now fates) k hop is answered.0.1))
    in omega arith

copyless_all_here : (s : Bool) (copies : ℕ) → (s ≡ true → copies ≡ 0) → once (s && copies == 0) ≡ once s
copyless_all_here true zero none = refl
copyless_all_here true (suc n) none = let no = none refl in absurd (omega arith)
copyless_all_here false copies none = refl

-- where the rule gives no copies, each sending is without
copyless_all : (R : Routes) (F : Rules) (stage : Stage) (fates : List Fate) (all : List Event) (k : ℕ) (hop : Hop)
    → ((fate : Fate) → F k hop fate → fate.copies ≡ 0) → AreAnswered R F stage fates all
    → copyless fates all k hop ≡ counts all (λ what. sends what k hop)
copyless_all R F stage fates [] k hop none answered = refl
copyless_all R F stage fates (e ∷ past) k hop none answered =
    let old = copyless_all R F stage (before fates) past k hop none answered.1
    in let here =
    copyless_all_here (sends e.what k hop) (fate_now fates).copies
    (λ is. none (fate_now fates) (fate_of F (sending_of e.what) (fate_now fates) k hop is answered.0.1))
    in omega arith

-- WHAT AN ACCOUNT SAYS

module _ (R : Routes) (F : Rules) (stage : Stage) (fates : List Fate) (all : List Event) (run : Run stage all)
    (account : IsAccountOf R F stage fates all) (k : ℕ) where
  losses : (hop : Hop) → counts all (λ what. loses what k hop) ≡ copyless fates all k hop
  losses hop = lost_copyless stage fates all k hop run (account.lost k hop)

  -- each sending's copies arrive, or it is lost
  pub come_or_lost : (hop : Hop)
      → counts all (λ what. sends what k hop)
      ≤ counts all (λ what. arrives what k hop) + counts all (λ what. loses what k hop)
  come_or_lost hop =
      let came = account.arrived k hop
      in let lost = losses hop
      in let sent = sent_any fates all k hop
      in omega arith

  -- one by one, where each has one copy at most
  pub each_comes_or_lost : IsSingle F k → (hop : Hop)
      → counts all (λ what. sends what k hop)
      ≡ counts all (λ what. arrives what k hop) + counts all (λ what. loses what k hop)
  each_comes_or_lost single hop =
      let came = account.arrived k hop
      in let lost = losses hop
      in let sent = sent_single R F stage fates all k hop single account.answered
      in omega arith

  pub are_lost : (hop : Hop) → AreLost F all k hop
  are_lost hop =
      let came = account.arrived k hop
      in let lost = losses hop
      in let few' = copyless_few fates all k hop
      in record {
        few = omega arith;
        all_lost = λ without. lost ∙ copyless_all R F stage fates all k hop without account.answered;
        none = λ all_of. came ∙ no_copies fates all k hop (omega arith);
      }
