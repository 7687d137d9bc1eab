-- The steps of a board keep its rule.
use Rattle.std.proofs.Common.{◌≡◌, ◌≢◌, ℕ, zero, suc, ◌+◌, List, [], ◌∷◌, ◌++◌, length, set, Option, Some}
use Rattle.std.proofs.Common.{None, refl, sym, ap, ◌∙◌, subst, arith, length-append, ⊎_elim, inl, inr}
use Rattle.std.specs.Prelude.{option_map}
use Rattle.std.proofs.lemmas.Bool.{cases_lt}
use Rattle.std.proofs.lemmas.Option.{slice_get_past}
use Rattle.std.specs.List.{slice_get}
use mathlib.Core.Option.{some}
use lib.ListN.{get_elem?}
use Rattle.atomic_table.proofs.Lists.{at_set, at_snoc}
use Rattle.logbook.specs.Pages.{Book}
use Rattle.bm_base.specs.declared.label.Entry.{Entry}
use Rattle.bm_table.specs.declared.plan.Change.{Change}
use Rattle.bm_table.specs.Planned.{Planned}
use Rattle.bm_table.specs.Entries.{IsTable, after_moves}
use Rattle.bm_table.specs.Plans.{IsPlan}
use Rattle.bm_table.specs.Tables.{next_change}
use Rattle.bm_table.proofs.EntryLemmas.{next_table}
use Rattle.bm_publish.specs.declared.shown.Shown.{Shown}
use Rattle.bm_publish.specs.Posts.{Posted, last_version, with_post}
use Rattle.bm_publish.specs.Inside.Boards.{changed_from, IsRight, IsOn, Keeps, Sees, Knows}

-- A CHANGE IN PLACE

pub changed-get : (change : Change) (b : ℕ) (entries : List Entry) (i : ℕ)
    → slice_get (changed_from change b entries) i ≡ option_map (after_moves change.moment.0 change.moves (b + i))
    (slice_get entries i)
changed-get change b [] i = refl
changed-get change b (e ∷ entries) zero =
    ap (λ k. Some (after_moves change.moment.0 change.moves k e)) (let r : b ≡ b + 0 = omega arith in r)
changed-get change b (e ∷ entries) (suc i) =
    changed-get change (suc b) entries i
    ∙ ap (λ k. option_map (after_moves change.moment.0 change.moves k) (slice_get entries i))
    (let r : suc b + i ≡ b + suc i = omega arith in r)

-- lists with the same elements are the same
same_gets : (xs ys : List Entry) → ((i : ℕ) → slice_get xs i ≡ slice_get ys i) → xs ≡ ys
same_gets [] [] h = refl
same_gets [] (y ∷ ys) h = absurd (let e : None ≡ Some y = h 0 in cc)
same_gets (x ∷ xs) [] h = absurd (let e : Some x ≡ None = h 0 in cc)
same_gets (x ∷ xs) (y ∷ ys) h =
    let e : Some x ≡ Some y = h 0 in
    let head : x ≡ y = cc in
    let rest : xs ≡ ys = same_gets xs ys (λ i. h (suc i)) in cc (head, rest)

-- what the change makes of the entries, place by place
pub changed_all : (change : Change) (old new : List Entry)
    → ((b : ℕ) → slice_get new b ≡ option_map (after_moves change.moment.0 change.moves b) (slice_get old b))
    → new ≡ changed_from change 0 old
changed_all change old new each =
    same_gets new (changed_from change 0 old)
    (λ i. each i
    ∙ sym (changed-get change 0 old i
    ∙ ap (λ k. option_map (after_moves change.moment.0 change.moves k) (slice_get old i))
    (let r : 0 + i ≡ i = omega arith in r)))

-- a change without moves changes nothing
pub changed-idle : (change : Change) (b : ℕ) (entries : List Entry) → change.moves ≡ []
    → changed_from change b entries ≡ entries
changed-idle change b [] idle = refl
changed-idle change b (e ∷ entries) idle = rw (idle, changed-idle change (suc b) entries idle) refl

-- the next change makes the table of the next version
pub next_right : (change : Change) (entries : List Entry) (p : Posted) (clock : ℕ) → IsPlan p.plan
    → next_change p.plan (last_version p) ≡ Some change
    → IsRight entries p → IsRight (changed_from change 0 entries) (with_post p clock)
next_right change entries p clock plan next right =
    let more : length (p.clocks ++ clock ∷ []) ≡ length p.clocks + 1 = length-append p.clocks (clock ∷ []) in
    let moves : (b : ℕ)
    → slice_get (changed_from change 0 entries) b ≡ option_map (after_moves change.moment.0 change.moves b)
    (slice_get entries b) =
    λ b. changed-get change 0 entries b
    ∙ ap (λ k. option_map (after_moves change.moment.0 change.moves k) (slice_get entries b))
    (let r : 0 + b ≡ b = omega arith in r) in
    subst (λ v. IsTable p.plan v (changed_from change 0 entries)) (sym more)
    (next_table p.plan plan (length p.clocks) change next entries (changed_from change 0 entries) moves right)

-- one table has one list of entries
pub same_table : (plan : Planned) (v : ℕ) (xs ys : List Entry) → IsTable plan v xs → IsTable plan v ys → xs ≡ ys
same_table plan v xs ys a b = same_gets xs ys (λ i. elim (cases_lt i plan.buckets) [
  | inl below ↦ a.each i below ∙ sym (b.each i below)
  | inr past ↦ slice_get_past xs i (omega (arith, a.count)) ∙ sym (slice_get_past ys i (omega (arith, b.count)))
])

-- the same table and the same posts
pub same_shown : (x y : Shown) → x.table ≡ y.table → x.snapshot ≡ y.snapshot → x ≡ y
same_shown x y table snapshot i = record { table = table i; snapshot = snapshot i }

-- THE RULE

-- a seat sees what is shown, where what was shown before is of the same board
pub turns : (seat : ℕ) (v : Option Posted) (x y : List Entry) (p q : Posted) → q.board ≡ p.board
    → (IsRight x p → IsRight y q)
    → (views : List (Option Posted)) → Keeps x p views → get_elem? views seat ≡ some v → (w : Option Posted)
    × Keeps y q (set views seat w) × Sees y q v w
turns seat v x y p q same goes views h at = (
  Some q,
  record {
    right = goes h.right;
    each = λ j u e. ⊎_elim
        (λ (t : (j ≡ seat) × (Some q ≡ u)). subst (IsOn q.board) t.1 refl)
        (λ (t : (j ≢ seat) × (get_elem? views j ≡ some u)). subst (λ b. IsOn b u) (sym same) (h.each j u t.1))
        (at_set views seat j (Some q) u e);
  },
  record { right = goes h.right; snapshot = refl; board = subst (λ b. IsOn b v) (sym same) (h.each seat v at) },
)

-- a new seat has no view
pub admits : (x : List Entry) (p : Posted) (views : List (Option Posted)) → Keeps x p views
    → Keeps x p (views ++ None ∷ [])
admits x p views h = record {
  right = h.right;
  each = λ j u e. ⊎_elim (λ (t : get_elem? views j ≡ some u). h.each j u t)
      (λ (t : None ≡ u). subst (IsOn p.board) t tt) (at_snoc views None u j e);
}

-- one seat's view becomes another that is on the board
put : (x : List Entry) (p : Posted) (views : List (Option Posted)) (seat : ℕ) (v : Option Posted) → Keeps x p views
    → IsOn p.board v → Keeps x p (set views seat v)
put x p views seat v h on = record {
  right = h.right;
  each = λ j u e. ⊎_elim
      (λ (t : (j ≡ seat) × (v ≡ u)). subst (IsOn p.board) t.1 on)
      (λ (t : (j ≢ seat) × (get_elem? views j ≡ some u)). h.each j u t.1)
      (at_set views seat j v u e);
}

-- a seat gives a new one its view
pub forks : (seat : ℕ) (v : Option Posted) (x : List Entry) (p : Posted) (views : List (Option Posted))
    → Keeps x p views → get_elem? views seat ≡ some v → Keeps x p (set views seat v ++ v ∷ [])
forks seat v x p views h at =
    let on : IsOn p.board v = h.each seat v at in
    let kept : Keeps x p (set views seat v) = put x p views seat v h on in
    record {
      right = h.right;
      each = λ j u e. ⊎_elim (λ (t : get_elem? (set views seat v) j ≡ some u). kept.each j u t)
          (λ (t : v ≡ u). subst (IsOn p.board) t on) (at_snoc (set views seat v) v u j e);
    }

-- a seat takes over another's view
pub merges : (seat other : ℕ) (v w : Option Posted) (x : List Entry) (p : Posted) (views : List (Option Posted))
    → Keeps x p views → get_elem? views seat ≡ some v
    → ¬ (other ≡ seat) → get_elem? (set views seat w) other ≡ some w → Keeps x p (set (set views seat w) other None)
merges seat other v w x p views h at apart there =
    let on : IsOn p.board w = ⊎_elim
    (λ (t : (other ≡ seat) × (w ≡ w)). absurd (apart t.0))
    (λ (t : (other ≢ seat) × (get_elem? views other ≡ some w)). h.each other w t.1)
    (at_set views seat other w w there) in
    put x p (set views seat w) other None (put x p views seat w h on) tt

-- a seat that sees this knows the board
pub sees_knows : (x : List Entry) (p : Posted) (v w : Option Posted) → Sees x p v w → Knows p.board w
sees_knows x p v w h = (p, h.snapshot, refl)

-- what a seat that knew a board sees is of that board
pub sees_same : (board : Book) (x : List Entry) (p : Posted) (v w : Option Posted) → Knows board v → Sees x p v w
    → p.board ≡ board
sees_same board x p v w k h = let on : IsOn p.board (Some k.0) = subst (IsOn p.board) k.1 h.board in sym on ∙ k.2
