-- What the moves of a bucket say of its entries, and how often it moves.
use Rattle.std.proofs.Common.{◌≡◌, ℕ, zero, suc, ◌+◌, ◌-◌, ◌<◌, ◌≤◌, ◌==◌, true, false, inl, inr, List, [], ◌∷◌, ◌++◌}
use Rattle.std.proofs.Common.{length, get_or, Option, Some, None, is_some, refl, sym, ap, ◌∙◌, arith, subst, leb}
use Rattle.std.proofs.Common.{append-nil, append_assoc}
use Rattle.std.specs.Prelude.{if◌then◌else◌, nat_lt}
use Rattle.std.proofs.lemmas.Bool.{cases_Bool, cases_lt, le-leb}
use Rattle.std.proofs.lemmas.Bool.Decides.{nat_tests}
use Rattle.std.proofs.lemmas.Grind.{common_steps}
use Rattle.std.proofs.lemmas.List.{get_or_append_left}
use Rattle.std.proofs.lemmas.Option.{slice_get_past}
use Rattle.std.specs.List.Sorted.{IsPartitionedBy}
use Rattle.bm_base.specs.declared.ids.ServerId.{ServerId}
use Rattle.bm_base.specs.declared.label.Entry.{Entry}
use Rattle.bm_table.specs.declared.plan.Change.{Change}
use Rattle.bm_table.specs.declared.plan.Move.{Move}
use Rattle.bm_table.specs.Planned.{Planned}
use Rattle.bm_table.specs.Tables.{brings, change_moment, moved, moves, moves_next, next_change, table, target}
use Rattle.bm_table.proofs.Tables.{moves_before}
use Rattle.bm_state.specs.declared.moves.BucketMove.{BucketMove}
use Rattle.bm_state.specs.Moves.{bucket_moves, with_move}
use Rattle.bm_state.specs.Inside.Moves.{AreBelow, AreFrom, IsSplit, entry_at, is_last, no_move, older_at, past_at}
use Rattle.bm_state.specs.Inside.Moves.{server_at, with_moves}

-- WHERE A LIST IS SPLIT

low_at : (v : ℕ) (low rest : List BucketMove) (i : ℕ) (d : BucketMove) → AreBelow v low → i < length low
    → (get_or (low ++ rest) i d).change < v
low_at v [] rest i d b h = absurd (omega arith)
low_at v (x ∷ low) rest zero d b h = b.0
low_at v (x ∷ low) rest (suc i) d b h = low_at v low rest i d b.1 (omega arith)

from_at : (v : ℕ) (rest : List BucketMove) (i : ℕ) (d : BucketMove) → AreFrom v rest → i < length rest
    → v ≤ (get_or rest i d).change
from_at v [] i d b h = absurd (omega arith)
from_at v (x ∷ rest) zero d b h = b.0
from_at v (x ∷ rest) (suc i) d b h = from_at v rest i d b.1 (omega arith)

high_at : (v : ℕ) (low rest : List BucketMove) (i : ℕ) (d : BucketMove) → AreFrom v rest → length low ≤ i
    → i < length (low ++ rest) → v ≤ (get_or (low ++ rest) i d).change
high_at v [] rest i d b h l = from_at v rest i d b l
high_at v (x ∷ low) rest zero d b h l = absurd (omega arith)
high_at v (x ∷ low) rest (suc i) d b h l = high_at v low rest i d b (omega arith) (omega arith)

pub parted : (v : ℕ) (whole low : List BucketMove) → IsSplit v whole low
    → IsPartitionedBy (λ (m : BucketMove). nat_lt m.change v) whole
parted v whole low s i j d le below t =
    let is = s.whole_is
    in elim (cases_lt j (length low)) [
      | inl under ↦
          let a : (get_or (low ++ s.rest) i d).change < v = low_at v low s.rest i d s.below (omega arith)
          in rw is (grind (arith, nat_tests))
      | inr over ↦
          let b : j < length (low ++ s.rest) = rw is at below
          in let a : v ≤ (get_or (low ++ s.rest) j d).change = high_at v low s.rest j d s.above over b
          in let t' : nat_lt (get_or (low ++ s.rest) j d).change v ≡ true = rw is at t
          in absurd (grind (arith, nat_tests))
    ]

-- the place between those below and the others is the number of those below
pub ranked : (v : ℕ) (whole low : List BucketMove) (r : ℕ) → IsSplit v whole low → r ≤ length whole
    → ((i : ℕ) (d : BucketMove) → i < r → nat_lt (get_or whole i d).change v ≡ true)
    → ((i : ℕ) (d : BucketMove) → r ≤ i → i < length whole → nat_lt (get_or whole i d).change v ≡ false)
    → r ≡ length low
ranked v whole low r s few under over =
    let is = s.whole_is
    in elim (cases_lt r (length low)) [
      | inl short ↦
          let l : length low ≤ length whole = rw is (grind (arith, common_steps))
          in let a : (get_or (low ++ s.rest) r no_move).change < v = low_at v low s.rest r no_move s.below short
          in let o : nat_lt (get_or whole r no_move).change v ≡ false = over r no_move (omega arith) (omega (arith, l, short))
          in let o' : nat_lt (get_or (low ++ s.rest) r no_move).change v ≡ false = rw is at o
          in absurd (grind (arith, nat_tests))
      | inr enough ↦ elim (cases_lt (length low) r) [
        | inl long ↦
            let u : nat_lt (get_or whole (length low) no_move).change v ≡ true = under (length low) no_move long
            in let u' : nat_lt (get_or (low ++ s.rest) (length low) no_move).change v ≡ true = rw is at u
            in let few' : r ≤ length (low ++ s.rest) = rw is at few
            in let a : v ≤ (get_or (low ++ s.rest) (length low) no_move).change =
            high_at v low s.rest (length low) no_move s.above (omega arith) (omega (arith, few', long))
            in absurd (grind (arith, nat_tests))
        | inr other ↦ omega (arith, enough, other)
      ]
    ]

below_more : (v : ℕ) (xs : List BucketMove) → AreBelow v xs → AreBelow (suc v) xs
below_more v [] b = tt
below_more v (x ∷ xs) b = let h = b.0 in (omega (arith, h), below_more v xs b.1)

below_last : (v : ℕ) (to : ServerId) (xs : List BucketMove) → AreBelow v xs
    → AreBelow (suc v) (xs ++ record { change = v; to = to } ∷ [])
below_last v to [] b = (omega arith, tt)
below_last v to (x ∷ xs) b = let h = b.0 in (omega (arith, h), below_last v to xs b.1)

below_with : (v : ℕ) (to : Option ServerId) (xs : List BucketMove) → AreBelow v xs → AreBelow (suc v) (with_move v to xs)
below_with v None xs b = below_more v xs b
below_with v (Some to) xs b = below_last v to xs b

moves_below : (plan : Planned) (b v : ℕ) → AreBelow v (bucket_moves plan b v)
moves_below plan b zero = tt
moves_below plan b (suc v) = below_with v (brings (next_change plan v) b) (bucket_moves plan b v) (moves_below plan b v)

-- BUILDING

not_last : (v : ℕ) (xs : List BucketMove) → AreBelow v xs → is_last xs v ≡ false
not_last v [] b = refl
not_last v (x ∷ xs) b =
    let a : (get_or ((x ∷ xs) ++ []) (suc (length xs) - 1) no_move).change < v =
    low_at v (x ∷ xs) [] (suc (length xs) - 1) no_move b (omega arith)
    in let a' : (get_or (x ∷ xs) (suc (length xs) - 1) no_move).change < v = rw (append-nil (x ∷ xs)) at a
    in grind (arith, nat_tests)

length_last : (x : BucketMove) (xs : List BucketMove) → length (xs ++ x ∷ []) ≡ suc (length xs)
length_last x [] = refl
length_last x (y ∷ xs) = ap suc (length_last x xs)

last_of : (x : BucketMove) (xs : List BucketMove) → get_or (xs ++ x ∷ []) (length xs) no_move ≡ x
last_of x [] = refl
last_of x (y ∷ xs) = last_of x xs

is_last_of : (x : BucketMove) (xs : List BucketMove) → is_last (xs ++ x ∷ []) x.change ≡ true
is_last_of x xs =
    let n : suc (length xs) - 1 ≡ length xs = omega arith
    in rw (length_last x xs, n, last_of x xs) (grind (arith, nat_tests))

with_last : (v b : ℕ) (moves : List Move) (xs : List BucketMove) → is_last xs v ≡ true → with_moves v moves b xs ≡ xs
with_last v b [] xs l = refl
with_last v b (m ∷ moves) xs l =
    elim (cases_Bool (m.bucket == b)) [
      | inl here ↦ rw (here, l) (with_last v b moves xs l)
      | inr other ↦ rw other (with_last v b moves xs l)
    ]

with_target : (v b : ℕ) (moves : List Move) (xs : List BucketMove) → AreBelow v xs
    → with_moves v moves b xs ≡ with_move v (target moves b) xs
with_target v b [] xs l = refl
with_target v b (m ∷ moves) xs l =
    elim (cases_Bool (m.bucket == b)) [
      | inl here ↦
          rw (here, not_last v xs l)
          (with_last v b moves (xs ++ record { change = v; to = m.to } ∷ [])
          (is_last_of (record { change = v; to = m.to }) xs))
      | inr other ↦ rw other (with_target v b moves xs l)
    ]

pub moves_more : (plan : Planned) (v : ℕ) (c : Change) (old new : ℕ → List BucketMove) → next_change plan v ≡ Some c
    → ((q : ℕ) → old q ≡ bucket_moves plan q v)
    → ((q : ℕ) → new q ≡ with_moves v c.moves q (old q)) → (q : ℕ) → new q ≡ bucket_moves plan q (suc v)
moves_more plan v c old new is o n q =
    n q ∙ ap (λ xs. with_moves v c.moves q xs) (o q)
    ∙ with_target v q c.moves (bucket_moves plan q v) (moves_below plan q v)
    ∙ sym (rw is refl)

pub moves_same : (plan : Planned) (v : ℕ) (old : ℕ → List BucketMove) → next_change plan v ≡ None
    → ((q : ℕ) → old q ≡ bucket_moves plan q v) → (q : ℕ) → old q ≡ bucket_moves plan q (suc v)
moves_same plan v old is o q = rw is (o q)

-- LOOKING UP

from_last : (v x : ℕ) (to : ServerId) (xs : List BucketMove) → AreFrom v xs → v ≤ x
    → AreFrom v (xs ++ record { change = x; to = to } ∷ [])
from_last v x to [] b h = (h, tt)
from_last v x to (y ∷ xs) b h = (b.0, from_last v x to xs b.1 h)

split_more : (v x : ℕ) (to : Option ServerId) (whole low : List BucketMove) → IsSplit v whole low → v ≤ x
    → IsSplit v (with_move x to whole) low
split_more v x None whole low s h = s
split_more v x (Some to) whole low s h = record {
  rest = s.rest ++ record { change = x; to = to } ∷ [];
  whole_is =
      ap (λ w. w ++ record { change = x; to = to } ∷ []) s.whole_is
      ∙ append_assoc low s.rest (record { change = x; to = to } ∷ []);
  below = s.below;
  above = from_last v x to s.rest s.above h;
}

split_end : (plan : Planned) (b v : ℕ) → IsSplit v (bucket_moves plan b v) (bucket_moves plan b v)
split_end plan b v = record {
  rest = [];
  whole_is = sym (append-nil (bucket_moves plan b v));
  below = moves_below plan b v;
  above = tt;
}

split_moves : (plan : Planned) (b v n : ℕ) → v ≤ n → IsSplit v (bucket_moves plan b n) (bucket_moves plan b v)
split_moves plan b v zero h =
    let e : v ≡ 0 = omega arith
    in subst (λ x. IsSplit v (bucket_moves plan b x) (bucket_moves plan b v)) e (split_end plan b v)
split_moves plan b v (suc n) h =
    elim (cases_lt n v) [
      | inl all ↦
          let e : v ≡ suc n = omega arith
          in subst (λ x. IsSplit v (bucket_moves plan b x) (bucket_moves plan b v)) e (split_end plan b v)
      | inr some ↦
          split_more v n (brings (next_change plan n) b) (bucket_moves plan b n) (bucket_moves plan b v)
          (split_moves plan b v n some) some
    ]

moves_past : (plan : Planned) (b v : ℕ) → length plan.changes ≤ v
    → bucket_moves plan b v ≡ bucket_moves plan b (length plan.changes)
moves_past plan b zero h = let e : 0 ≡ length plan.changes = omega arith in ap (λ x. bucket_moves plan b x) e
moves_past plan b (suc v) h =
    elim (cases_lt v (length plan.changes)) [
      | inl last ↦ let e : suc v ≡ length plan.changes = omega arith in ap (λ x. bucket_moves plan b x) e
      | inr past ↦ rw (slice_get_past plan.changes v past) (moves_past plan b v past)
    ]

pub split_all : (plan : Planned) (b v : ℕ)
    → IsSplit v (bucket_moves plan b (length plan.changes)) (bucket_moves plan b v)
split_all plan b v =
    elim (cases_lt (length plan.changes) v) [
      | inl past ↦
          subst (λ xs. IsSplit v xs (bucket_moves plan b v)) (moves_past plan b v (omega arith)) (split_end plan b v)
      | inr within ↦ split_moves plan b v (length plan.changes) within
    ]

-- HOW OFTEN

one_more : (v : ℕ) (to : Option ServerId) (xs : List BucketMove)
    → length (with_move v to xs) ≡ (if is_some to then suc (length xs) else length xs)
one_more v None xs = refl
one_more v (Some to) xs = length_last (record { change = v; to = to }) xs

-- how often the bucket moved between two versions
moves_between : (plan : Planned) (b w v : ℕ) → w ≤ v
    → moves plan b w v + length (bucket_moves plan b w) ≡ length (bucket_moves plan b v)
moves_between plan b w zero h =
    let e : w ≡ 0 = omega arith
    in let c : length (bucket_moves plan b w) ≡ length (bucket_moves plan b 0) =
    ap (λ x. length (bucket_moves plan b x)) e
    in omega (arith, c)
moves_between plan b w (suc v) h =
    elim (cases_lt v w) [
      | inl last ↦
          let e : w ≡ suc v = omega arith
          in let c : length (bucket_moves plan b w) ≡ length (bucket_moves plan b (suc v)) =
          ap (λ x. length (bucket_moves plan b x)) e
          in let z : moves plan b w (suc v) ≡ 0 = moves_before plan b w (suc v) (omega arith)
          in omega (arith, c, z)
      | inr since ↦
          let l : leb w v ≡ true = le-leb w v since
          in let i = moves_between plan b w v since
          in let more = one_more v (brings (next_change plan v) b) (bucket_moves plan b v)
          in elim (cases_Bool (moves_next plan v b)) [
            | inl goes ↦
                let one : length (bucket_moves plan b (suc v)) ≡ suc (length (bucket_moves plan b v)) = rw goes at more
                in rw (l, goes) (omega (arith, i, one))
            | inr stays ↦
                let none : length (bucket_moves plan b (suc v)) ≡ length (bucket_moves plan b v) = rw stays at more
                in rw (l, stays) (omega (arith, i, none))
          ]
    ]

pub counted : (plan : Planned) (b w v high low : ℕ) → w ≤ v → high ≡ length (bucket_moves plan b v)
    → low ≡ length (bucket_moves plan b w) → (low ≤ high) × (high - low ≡ moves plan b w v)
counted plan b w v high low h is_high is_low =
    let i = moves_between plan b w v h in (omega (arith, i, is_high, is_low), omega (arith, i, is_high, is_low))

-- ENTRIES

server_of_first : (plan : Planned) (b : ℕ) (low rest : List BucketMove) (n : ℕ) → n ≤ length low
    → server_at plan b (low ++ rest) n ≡ server_at plan b low n
server_of_first plan b low rest zero few = refl
server_of_first plan b low rest (suc n) few =
    ap (λ (m : BucketMove). m.to) (get_or_append_left low rest no_move n (omega arith))

past_of_first : (plan : Planned) (b : ℕ) (low rest : List BucketMove) (n : ℕ) → n ≤ length low
    → past_at plan b (low ++ rest) n ≡ past_at plan b low n
past_of_first plan b low rest zero few = refl
past_of_first plan b low rest (suc n) few =
    let server = server_of_first plan b low rest n (omega arith)
    in let same : get_or (low ++ rest) n no_move ≡ get_or low n no_move =
    get_or_append_left low rest no_move n (omega arith)
    in λ i. Some (record {
      server = server i;
      stamp = record { 0 = change_moment (next_change plan (same i).change) };
    })

older_of_first : (plan : Planned) (b : ℕ) (low rest : List BucketMove) (n : ℕ) → n ≤ length low
    → older_at plan b (low ++ rest) n ≡ older_at plan b low n
older_of_first plan b low rest zero few = refl
older_of_first plan b low rest (suc n) few = past_of_first plan b low rest n (omega arith)

entry_of_first : (plan : Planned) (b : ℕ) (low rest : List BucketMove) (n : ℕ) → n ≤ length low
    → entry_at plan b (low ++ rest) n ≡ entry_at plan b low n
entry_of_first plan b low rest n few =
    let cur = server_of_first plan b low rest n few
    in let prev = past_of_first plan b low rest n few
    in let older = older_of_first plan b low rest n few
    in λ i. record { cur = cur i; prev = prev i; older = older i }

-- one move more changes the entry as the table does
entry_more : (plan : Planned) (b v : ℕ) (to : Option ServerId) (xs : List BucketMove)
    → moved (entry_at plan b xs (length xs)) (change_moment (next_change plan v)) to
    ≡ entry_at plan b (with_move v to xs) (length (with_move v to xs))
entry_more plan b v None xs = refl
entry_more plan b v (Some to) xs =
    let x : BucketMove = record { change = v; to = to }
    in let last = last_of x xs
    in let server = server_of_first plan b xs (x ∷ []) (length xs) (omega arith)
    in let prev = past_of_first plan b xs (x ∷ []) (length xs) (omega arith)
    in (λ i. record {
      cur = (sym last i).to;
      prev = Some (record {
        server = sym server i;
        stamp = record { 0 = change_moment (next_change plan (sym last i).change) };
      });
      older = sym prev i;
    })
    ∙ ap (λ n. entry_at plan b (xs ++ x ∷ []) n) (sym (length_last x xs))

table_is : (plan : Planned) (b v : ℕ)
    → table plan v b ≡ entry_at plan b (bucket_moves plan b v) (length (bucket_moves plan b v))
table_is plan b zero = refl
table_is plan b (suc v) =
    ap (λ (e : Entry). moved e (change_moment (next_change plan v)) (brings (next_change plan v) b)) (table_is plan b v)
    ∙ entry_more plan b v (brings (next_change plan v) b) (bucket_moves plan b v)

-- the entry in a version's table, among all moves of the bucket
pub entry_in : (plan : Planned) (b v n : ℕ) (whole : List BucketMove)
    → whole ≡ bucket_moves plan b (length plan.changes) → n ≡ length (bucket_moves plan b v)
    → entry_at plan b whole n ≡ table plan v b
entry_in plan b v n whole is count =
    let s = split_all plan b v
    in (λ i. entry_at plan b ((is ∙ s.whole_is) i) (count i))
    ∙ entry_of_first plan b (bucket_moves plan b v) s.rest (length (bucket_moves plan b v)) (omega arith)
    ∙ sym (table_is plan b v)
