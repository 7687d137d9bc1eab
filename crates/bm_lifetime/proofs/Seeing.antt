-- What the changes of a plan, from the last one back, say of each bucket.
use Rattle.std.proofs.Common.{◌≡◌, ℕ, zero, suc, ◌+◌, ◌<◌, true, false, cond, inl, inr, List, [], ◌∷◌}
use Rattle.std.proofs.Common.{◌≤◌, get_or, None, Option, Some, drop, is_some, length, refl, sym, ap, ◌∙◌, arith, eqb, ltb}
use Rattle.std.proofs.Math.ListN.{set}
use Rattle.std.specs.Prelude.{slice_get}
use Rattle.std.specs.Option.{option_map}
use Rattle.std.proofs.lemmas.Bool.{cases_Bool, cases_eq, eq-eqb, ne_eqb}
use Rattle.std.proofs.lemmas.Option.{same_Some, slice_get-get_or, slice_get_cases}
use Rattle.bm_table.proofs.EntryLemmas.{change_rises}
use Rattle.bm_table.proofs.Gets.{length_from_gets, slice_get-set_other, slice_get-set_same}
use Rattle.bm_table.specs.declared.plan.Change.{Change}
use Rattle.bm_table.specs.declared.plan.Move.{Move}
use Rattle.bm_table.specs.Planned.{Planned}
use Rattle.bm_table.specs.Plans.{IsPlan, MovesRise}
use Rattle.bm_table.specs.Tables.{next_change, target}
use Rattle.bm_lifetime.specs.declared.seen.Moved.{Moved}
use Rattle.bm_lifetime.specs.declared.seen.Seen.{Seen}
use Rattle.bm_lifetime.specs.Inside.Seen.{IsSeen, after_moves, seen_of, with_move}
use Rattle.bm_lifetime.specs.Lifetime.{moves_from}

-- MOVES OF ONE CHANGE

-- moves of higher buckets say nothing of this one
below_moves : (at : Moved) (buckets low b : ℕ) (moves : List Move) (s : Seen) → MovesRise buckets low moves → b < low
    → after_moves at moves b s ≡ s
below_moves at buckets low b [] s rise below = refl
below_moves at buckets low b (m ∷ moves) s rise below =
    let t : eqb m.bucket b ≡ false = ne_eqb _ _ (λ same. omega (arith, rise.0))
    in rw t (below_moves at buckets (m.bucket + 1) b moves s rise.2 (omega (arith, rise.0)))

-- moves whose buckets rise say one thing of each
risen_moves : (at : Moved) (buckets low b : ℕ) (moves : List Move) (s : Seen) → MovesRise buckets low moves
    → after_moves at moves b s ≡ cond (is_some (target moves b)) (with_move at s) s
risen_moves at buckets low b [] s rise = refl
risen_moves at buckets low b (m ∷ moves) s rise = elim (cases_eq m.bucket b) [
  | inl same ↦
      let t : eqb m.bucket b ≡ true = eq-eqb _ _ same
      in rw t (below_moves at buckets (m.bucket + 1) b moves (with_move at s) rise.2 (omega arith))
  | inr other ↦
      let t : eqb m.bucket b ≡ false = ne_eqb _ _ other
      in rw t (risen_moves at buckets (m.bucket + 1) b moves s rise.2)
]

-- a list in which a bucket's place has a move more
pub written : (at : Moved) (bucket b : ℕ) (seen : List Seen) (new d : Seen) → bucket < length seen
    → new ≡ with_move at (get_or seen bucket d)
    → slice_get (set seen bucket new) b ≡ option_map (λ s. cond (eqb bucket b) (with_move at s) s) (slice_get seen b)
written at bucket b seen new d below is = elim (cases_eq bucket b) [
  | inl same ↦
      let t : eqb bucket b ≡ true = eq-eqb _ _ same
      in rw (sym same, eq-eqb bucket bucket refl)
      (slice_get-set_same seen bucket new below
      ∙ (ap (λ (s : Seen). Some s) is
      ∙ sym (ap (option_map (with_move at)) (slice_get-get_or seen bucket d below))))
  | inr other ↦
      let t : eqb bucket b ≡ false = ne_eqb _ _ other
      in rw t (slice_get-set_other seen bucket b new other ∙ sym (unchanged (slice_get seen b)))
] where
  unchanged : (o : Option Seen) → option_map (λ (s : Seen). s) o ≡ o
  unchanged None = refl
  unchanged (Some s) = refl

-- and one that has no such place
pub unwritten : (at : Moved) (bucket b : ℕ) (seen : List Seen) → length seen ≤ bucket
    → slice_get seen b ≡ option_map (λ s. cond (eqb bucket b) (with_move at s) s) (slice_get seen b)
unwritten at bucket b seen beyond = elim (slice_get_cases seen b).1 [
  | inl there ↦
      let below = there.1
      in let t : eqb bucket b ≡ false = ne_eqb _ _ (λ same. omega arith)
      in rw (there.2, t) refl
  | inr none ↦ rw none.1 refl
]

-- ONE CHANGE MORE

drop_here : {X : Type 0} (xs : List X) (i : ℕ) (x : X) → slice_get xs i ≡ Some x → drop i xs ≡ x ∷ drop (suc i) xs
drop_here [] i x is = absurd (cc)
drop_here (y ∷ xs) zero x is = ap (λ z. z ∷ xs) (same_Some _ _ is)
drop_here (y ∷ xs) (suc i) x is = drop_here xs i x is

-- a move before the others
moved_first : (x : Moved) (moves : List Moved) → with_move x (seen_of moves) ≡ seen_of (x ∷ moves)
moved_first x [] = refl
moved_first x (y ∷ []) = refl
moved_first x (y ∷ z ∷ moves) = refl

abbrev of_change : ℕ → Change → Moved
of_change n c = record { change = n; moment = c.moment.0 }

seen_more : (lag b n : ℕ) (c : Change) (changes : List Change) → ltb 0 (c.moment.0 + lag) ≡ true
    → seen_of (moves_from lag b n (c ∷ changes))
    ≡ cond (is_some (target c.moves b)) (with_move (of_change n c) (seen_of (moves_from lag b (suc n) changes)))
    (seen_of (moves_from lag b (suc n) changes))
seen_more lag b n c changes late = elim (cases_Bool (is_some (target c.moves b))) [
  | inl moves ↦ rw (moves, late) (sym (moved_first (of_change n c) (moves_from lag b (suc n) changes)))
  | inr stays ↦ rw stays refl
]

seen_same : (lag b n : ℕ) (c : Change) (changes : List Change) → ltb 0 (c.moment.0 + lag) ≡ false
    → moves_from lag b n (c ∷ changes) ≡ moves_from lag b (suc n) changes
seen_same lag b n c changes early = elim (cases_Bool (is_some (target c.moves b))) [
  | inl moves ↦ rw (moves, early) refl
  | inr stays ↦ rw stays refl
]

-- after the moves of a change that packets may come before
pub noted : (lag buckets left : ℕ) (plan : Planned) (c : Change) (old new : List Seen) → IsPlan plan
    → next_change plan left ≡ Some c → ltb 0 (c.moment.0 + lag) ≡ true
    → ((b : ℕ) → slice_get new b ≡ option_map (after_moves (of_change (suc left) c) c.moves b) (slice_get old b))
    → IsSeen lag buckets (suc (suc left)) (drop (suc left) plan.changes) old
    → IsSeen lag buckets (suc left) (drop left plan.changes) new
noted lag buckets left plan c old new kept is late each seen = record {
  count = length_from_gets (λ b. after_moves (of_change (suc left) c) c.moves b) old new each ∙ seen.count;
  each = λ b below.
      let start = seen_of (moves_from lag b (suc (suc left)) (drop (suc left) plan.changes))
      in let one : after_moves (of_change (suc left) c) c.moves b start
      ≡ seen_of (moves_from lag b (suc left) (c ∷ drop (suc left) plan.changes)) =
      risen_moves (of_change (suc left) c) plan.buckets 0 b c.moves start (change_rises plan kept left c is)
      ∙ sym (seen_more lag b (suc left) c (drop (suc left) plan.changes) late)
      in each b
      ∙ (ap (option_map (after_moves (of_change (suc left) c) c.moves b)) (seen.each b below)
      ∙ (ap (λ (s : Seen). Some s) one
      ∙ ap (λ (cs : List Change). Some (seen_of (moves_from lag b (suc left) cs)))
      (sym (drop_here plan.changes left c is))));
}

-- a change that all packets come after says nothing
pub skipped : (lag buckets left : ℕ) (plan : Planned) (c : Change) (seen : List Seen)
    → next_change plan left ≡ Some c → ltb 0 (c.moment.0 + lag) ≡ false
    → IsSeen lag buckets (suc (suc left)) (drop (suc left) plan.changes) seen
    → IsSeen lag buckets (suc left) (drop left plan.changes) seen
skipped lag buckets left plan c seen is early old = record {
  count = old.count;
  each = λ b below.
      old.each b below
      ∙ ap (λ (ms : List Moved). Some (seen_of ms))
      (sym (seen_same lag b (suc left) c (drop (suc left) plan.changes) early)
      ∙ ap (λ (cs : List Change). moves_from lag b (suc left) cs) (sym (drop_here plan.changes left c is)));
}
