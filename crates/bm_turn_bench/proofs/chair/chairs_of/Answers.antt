use Rattle.std.proofs.Common.{◌≡◌, ◌+◌, ◌∷◌, ◌++◌, [], List, All, length, length-append, subst, sym, ap, ◌∙◌, arith}
use Rattle.std.specs.Arc.{arc_value}
use Rattle.std.specs.Vec.Iter.{into_iter_items}
use Rattle.bm_rows.proofs.Places.{all_tail}
use Rattle.bm_turnstile.specs.Sittings.{Sitting}
use Rattle.bm_turn_bench.specs.declared.tally.Made.{Made}
use Rattle.bm_turn_bench.proofs.chair.chairs_of.Goals as goal

abbrev S : Type 0
S = Sitting (Unit {0}) Made

all_first : (P : S → Type 0) (l xs : List S) (x : S) → l ≡ x ∷ xs → All P l → P x
all_first P l xs x e all = let h = subst (All P) e all in h 0 x (omega arith)

one_more : {A : Type 0} (xs xs' : List A) (x : A) → xs' ≡ xs ++ x ∷ [] → length xs' ≡ length xs + 1
one_more {A = A} xs xs' x e = ap (λ (l : List A). length l) e ∙ length-append xs (x ∷ [])

pub invariant_of-push : goal.invariant_of-push
invariant_of-push c =
    let i = c.loop-seat.invariant in
    let rest = into_iter_items c.loop-seat.seat-iterator in
    let others = into_iter_items c.next.new.self in
    let split = c.in-Some.ensures.steps.0 in
    let table = arc_value c.args.turnstile.now in
    record {
      own = all_first (λ s. s.table ≡ table) rest others c.in-Some.seat split i.own ∙ sym c.in_ok-turnstile.ensures;
      counted = all_first (λ s. s.turns ≡ 0) rest others c.in-Some.seat split i.new;
    }

pub loop-seat-preserved : goal.loop-seat-preserved
loop-seat-preserved c =
    let i = c.loop-seat.invariant in
    let rest : List S = into_iter_items c.loop-seat.seat-iterator in
    let others : List S = into_iter_items c.next.new.self in
    let split = c.in-Some.ensures.steps in
    let table = arc_value c.args.turnstile.now in
    record {
      own = all_tail (λ (s : S). s.table ≡ table) rest others c.in-Some.seat split.0 i.own;
      new = all_tail (λ (s : S). s.turns ≡ 0) rest others c.in-Some.seat split.0 i.new;
      long = omega (arith, i.long, split.1, one_more _ _ _ c.in_ok-push.ensures.items);
    }
