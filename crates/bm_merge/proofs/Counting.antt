-- The merged notes are accounted for.
use Rattle.std.proofs.Common.{◌≡◌, ℕ, suc, ◌+◌, ◌≤◌, Bool, true, false, cond, ◌&&◌, List, [], ◌∷◌, ◌++◌, refl, sym}
use Rattle.std.proofs.Common.{ap, ◌∙◌, subst, arith, leb, ltb, eqb}
use Rattle.std.specs.Prelude.{IfSome}
use Rattle.std.specs.List.{AllByRecursion}
use Rattle.std.proofs.lemmas.Bool.{le-leb, le-ltb, and_right}
use Rattle.bm_base.specs.declared.label.Hop.{Hop}
use Rattle.bm_core.specs.declared.events.What.{What}
use Rattle.bm_core.specs.declared.events.Stage.{Stage}
use Rattle.bm_core.specs.Past.{sending_of, sends, newest}
use Rattle.bm_core.specs.Runs.Actor.{Controller}
use Rattle.bm_core.specs.Accounts as acc
use Rattle.bm_core.specs.Accounts.{Routes, Rules, IsRouted, AreAnswered, counts, arrives, loses}
use Rattle.bm_core.specs.Accounts.{sent_copies, AreSent, copyless_at, lost_at, is_sync, IsAccountOf}
use Rattle.bm_merge.specs.Notes.{Note, NotedLog, events_of, plain, all_notes, total, many}
use Rattle.bm_merge.proofs.Promised.{fates_of, notes_by_clock, ArePromised}
use Rattle.bm_merge.proofs.Placed.{key, key_clock}
use Rattle.bm_merge.proofs.Agreeing.{newest_in_log}
use Rattle.bm_merge.proofs.Noting.{total_by_clock, total_none, total_most, counts_notes, each_so, each_always}
use Rattle.bm_merge.proofs.Noting.{moved_note}
use Rattle.bm_merge.proofs.Placing.{IsStood, AreWhole, IsPlace, place_of, are_whole}

-- what only lower clocks have stands before
pub only_below : (R : Routes) (F : Rules) (stage : Stage) (logs : List NotedLog) (x past : List Note) (n : Note)
    (f : Note → ℕ) → IsPlace R F stage logs x n past
    → ((y : Note) → n.event.clock.0 ≤ y.event.clock.0 → f y ≡ 0) → total f past ≡ total f (all_notes logs)
only_below R F stage logs x past n f at none =
    let newer : total f x ≡ 0 =
    total_none f x
    (each_so (λ y. key stage n.event ≤ key stage y.event) (λ y. f y ≡ 0) x
    (λ y h. none y (key_clock stage n.event y.event h)) at.over)
    in let here : f n ≡ 0 = none n (omega arith)
    in let sum : total f x + (f n + total f past) ≡ total f (all_notes logs) = at.sums f
    in omega arith

-- COPIES

pub copies_notes : (x : List Note) (k : ℕ) (hop : Hop)
    → sent_copies (fates_of x) (events_of x) k hop ≡ total (λ n. cond (sends n.event.what k hop) n.fate.copies 0) x
copies_notes [] k hop = refl
copies_notes (n ∷ x) k hop =
    ap (λ (m : ℕ). cond (sends n.event.what k hop) n.fate.copies 0 + m) (copies_notes x k hop)

copyless_notes : (x : List Note) (k : ℕ) (hop : Hop) (clock : ℕ)
    → copyless_at (fates_of x) (events_of x) k hop clock
    ≡ many (λ n. sends n.event.what k hop && (eqb n.fate.copies 0 && eqb n.event.clock.0 clock)) x
copyless_notes [] k hop clock = refl
copyless_notes (n ∷ x) k hop clock =
    ap (λ (m : ℕ). cond (sends n.event.what k hop && (eqb n.fate.copies 0 && eqb n.event.clock.0 clock)) 1 0 + m)
    (copyless_notes x k hop clock)

lost_notes : (x : List Note) (k : ℕ) (hop : Hop) (clock : ℕ)
    → lost_at (events_of x) k hop clock ≡ many (λ n. loses n.event.what k hop && eqb n.event.clock.0 clock) x
lost_notes [] k hop clock = refl
lost_notes (n ∷ x) k hop clock =
    ap (λ (m : ℕ). cond (loses n.event.what k hop && eqb n.event.clock.0 clock) 1 0 + m) (lost_notes x k hop clock)

pub not_lower : (t : Bool) (a c k : ℕ) → c ≤ a → cond (t && ltb a c) k 0 ≡ 0
not_lower t a c k h = let is : (t && ltb a c) ≡ false = and_right t _ (le-ltb a c h) in rw is refl

less_step : (t low : Bool) (k : ℕ) → cond (t && low) k 0 ≤ cond t k 0
less_step true true k = omega arith
less_step true false k = omega arith
less_step false low k = omega arith

with_clock : (t : Bool) (a c : ℕ) → a ≤ c → cond t 1 0 ≤ cond (t && leb a c) 1 0
with_clock true a c h = let is = le-leb a c h in rw is (omega arith)
with_clock false a c h = omega arith

sent_here : (R : Routes) (F : Rules) (stage : Stage) (logs : List NotedLog) (x past : List Note) (n : Note)
    → ArePromised R F stage logs → IsPlace R F stage logs x n past
    → (k : ℕ) (hop : Hop)
    → counts (events_of (n ∷ past)) (λ what. arrives what k hop)
    ≤ sent_copies (fates_of past) (events_of past) k hop
sent_here R F stage logs x past n p at k hop =
    let c = n.event.clock.0
    in let came : Note → ℕ = λ y. cond (arrives y.event.what k hop && leb y.event.clock.0 n.event.clock.0) 1 0
    in let gone : Note → ℕ =
    λ y. cond (sends y.event.what k hop && ltb y.event.clock.0 n.event.clock.0) y.fate.copies 0
    in let are : counts (events_of (n ∷ past)) (λ what. arrives what k hop)
    ≡ total (λ y. cond (arrives y.event.what k hop) 1 0) (n ∷ past) =
    counts_notes (λ what. arrives what k hop) (n ∷ past)
    in let low : total (λ y. cond (arrives y.event.what k hop) 1 0) (n ∷ past) ≤ total came (n ∷ past) =
    total_most (λ y. cond (arrives y.event.what k hop) 1 0) came (n ∷ past) (
      with_clock (arrives n.event.what k hop) _ _ (omega arith),
      each_so (λ y. key stage y.event ≤ key stage n.event) (λ y. cond (arrives y.event.what k hop) 1 0 ≤ came y) past
          (λ y h. with_clock (arrives y.event.what k hop) _ _ (key_clock stage y.event n.event h)) at.under,
    )
    in let sum : total came x + (came n + total came past) ≡ total came (all_notes logs) = at.sums came
    in let most : total came (all_notes logs) ≤ total gone (all_notes logs) = p.sent k hop n.event.clock.0
    in let back : total gone past ≡ total gone (all_notes logs) =
    only_below R F stage logs x past n gone at (λ y h. not_lower (sends y.event.what k hop) _ _ y.fate.copies h)
    in let all : total gone past ≤ total (λ y. cond (sends y.event.what k hop) y.fate.copies 0) past =
    total_most gone (λ y. cond (sends y.event.what k hop) y.fate.copies 0) past
    (each_always (λ y. gone y ≤ cond (sends y.event.what k hop) y.fate.copies 0)
    (λ y. less_step (sends y.event.what k hop) _ y.fate.copies) past)
    in let is : sent_copies (fates_of past) (events_of past) k hop
    ≡ total (λ y. cond (sends y.event.what k hop) y.fate.copies 0) past = copies_notes past k hop
    in let split : total came (n ∷ past) ≡ came n + total came past = refl
    in omega arith

sent_below : (R : Routes) (F : Rules) (stage : Stage) (logs : List NotedLog) (x past : List Note)
    → ArePromised R F stage logs → AreWhole R F stage logs (x ++ past) → AreSent (fates_of past) (events_of past)
sent_below R F stage logs x [] p are = tt
sent_below R F stage logs x (n ∷ past) p are = (
  sent_here R F stage logs x past n p (place_of R F stage logs x past n p.agree are),
  sent_below R F stage logs (x ++ n ∷ []) past p
      (subst (λ (l : List Note). AreWhole R F stage logs l) (sym (moved_note x past n)) are),
)

-- ANSWERS

answered : (R : Routes) (F : Rules) (stage : Stage) (x : List Note)
    → AllByRecursion
    (λ n. IsRouted R stage n.event.what × IfSome (sending_of n.event.what) (λ s. F s.packet s.hop n.fate)) x
    → AreAnswered R F stage (fates_of x) (events_of x)
answered R F stage [] all = tt
answered R F stage (n ∷ x) all = (all.0, answered R F stage x all.1)

-- THE ACCOUNT

counted : (logs : List NotedLog) (test : What → Bool)
    → counts (events_of (notes_by_clock (all_notes logs))) test ≡ many (λ n. test n.event.what) (all_notes logs)
counted logs test =
    counts_notes test (notes_by_clock (all_notes logs))
    ∙ total_by_clock (λ n. cond (test n.event.what) 1 0) (all_notes logs)

pub account : (R : Routes) (F : Rules) (stage : Stage) (logs : List NotedLog) → ArePromised R F stage logs
    → IsAccountOf R F stage (fates_of (notes_by_clock (all_notes logs))) (events_of (notes_by_clock (all_notes logs)))
account R F stage logs p =
    let are = are_whole R F stage logs p
    in record {
      steered = λ k. counted logs (λ what. acc.steers_packet what k) ∙ p.steered k;
      answered = answered R F stage (notes_by_clock (all_notes logs))
          (each_so (IsStood R F stage (plain logs) (all_notes logs))
          (λ n. IsRouted R stage n.event.what × IfSome (sending_of n.event.what) (λ s. F s.packet s.hop n.fate))
          (notes_by_clock (all_notes logs))
          (λ n s. (s.told.routed, s.told.fate)) are.stood);
      lost = λ k hop clock.
          lost_notes (notes_by_clock (all_notes logs)) k hop (suc clock)
          ∙ total_by_clock (λ n. cond (loses n.event.what k hop && eqb n.event.clock.0 (suc clock)) 1 0)
          (all_notes logs)
          ∙ p.lost k hop clock
          ∙ sym (total_by_clock
          (λ n. cond (sends n.event.what k hop && (eqb n.fate.copies 0 && eqb n.event.clock.0 clock)) 1 0)
          (all_notes logs))
          ∙ sym (copyless_notes (notes_by_clock (all_notes logs)) k hop clock);
      sent = sent_below R F stage logs [] (notes_by_clock (all_notes logs)) p are;
      arrived = λ k hop.
          counted logs (λ what. arrives what k hop)
          ∙ p.arrived k hop
          ∙ sym (total_by_clock (λ n. cond (sends n.event.what k hop) n.fate.copies 0) (all_notes logs))
          ∙ sym (copies_notes (notes_by_clock (all_notes logs)) k hop);
      commands = record {
        changes =
            sym (newest_in_log stage (events_of (notes_by_clock (all_notes logs))))
            ∙ ap newest (are.whole.part Controller ∙ are.whole.posts) ∙ p.changes;
        closes = λ s f. counted logs (λ what. acc.closes_flow what s f) ∙ p.closes s f;
        retires = λ s h below. counted logs (λ what. acc.retires_shard what s h) ∙ p.retires s h below;
        no_other = λ s h over. counted logs (λ what. acc.retires_shard what s h) ∙ p.no_other s h over;
        syncs = counted logs is_sync ∙ p.syncs;
      };
    }
