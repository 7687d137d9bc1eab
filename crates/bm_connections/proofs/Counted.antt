-- The servers of buckets, and how many buckets each has.
use Rattle.std.proofs.Common.{◌≡◌, ℕ, suc, ◌+◌, ◌<◌, ◌≤◌, true, false, eqb, List, [], ◌∷◌, ◌++◌, Option, Some, None}
use Rattle.std.proofs.Common.{length, inl, inr, refl, ap, sym, ◌∙◌, arith, add-one, get_or, drop, take, map, filter}
use Rattle.std.specs.Prelude.{unwrap_or}
use Rattle.std.specs.List.{range_with_len}
use Rattle.std.proofs.Math.ListN.{set}
use Rattle.std.proofs.lemmas.Bool.{cases_eq, cases_lt, eq-eqb, ne_eqb}
use Rattle.std.proofs.lemmas.List.{drop_all, drop_more, get_or_past, get_or-set_same, get_or-set_other, length-set}
use Rattle.std.proofs.lemmas.List.{length-take-le}
use Rattle.std.proofs.lemmas.List.FromFn.{filter_of_map_range_with_len_more, get_or-map-range_with_len}
use Rattle.std.proofs.lemmas.List.FromFn.{length-map-range_with_len, map-range_with_len_more}
use Rattle.std.proofs.lemmas.List.Sums.{count_by-le-length}
use Rattle.bm_base.specs.declared.ids.ServerId.{ServerId}
use Rattle.bm_connections.specs.declared.owned.OwnedCount.{OwnedCount}
use Rattle.bm_connections.specs.declared.owned.Owners.TheInside.{Inside}
use Rattle.bm_connections.specs.Inside.Owned.{all_gone, gone, owning, AreCounted, IsOwning}
use Rattle.bm_connections.specs.Owned.{owned_below, owned_by, owned_count, owners_at, owns_some}
use Rattle.bm_connections.specs.Owning.{Owning}
use Rattle.bm_table.proofs.EntryLemmas.{change_rises}
use Rattle.bm_table.specs.Planned.{Planned}
use Rattle.bm_table.specs.Plans.{MovesRise, IsPlan}
use Rattle.bm_table.specs.Tables.{brings, change_moment, moved, next_change, table, target}
use Rattle.bm_base.specs.declared.label.Entry.{Entry}
use Rattle.bm_table.specs.declared.plan.Change.{Change}
use Rattle.bm_table.specs.declared.plan.Move.{Move}

-- COUNTS

-- a count is at most the number of buckets that were gone through
pub count-room : (owners : List ServerId) (counts : List ℕ) (i : ℕ) → i ≤ length owners
    → AreCounted (take i owners) counts → (place : ℕ) → get_or counts place 0 ≤ i
count-room owners counts i le counted place = elim (cases_lt place (length counts)) [
  | inl within ↦
      omega (arith, counted place within, count_by-le-length (λ s. eqb s.0 place) (take i owners), length-take-le i owners le)
  | inr past ↦ omega (arith, get_or_past counts place 0 past)
]

-- the count of one server more
pub owned-more : (owners : List ServerId) (n buckets : ℕ) (old new : List OwnedCount) → buckets ≡ owned_by owners n
    → new ≡ old ++ filter owns_some (record { server = record { 0 = n }; buckets = buckets } ∷ [])
    → old ≡ owned_below n owners → new ≡ owned_below (n + 1) owners
owned-more owners n buckets old new counted now so_far =
    now ∙ rw (so_far, counted) (sym (filter_of_map_range_with_len_more owns_some (owned_count owners) 0 n n (omega arith)))

-- the count of a server is kept
pub counted-at : (o : Inside) (now : Owning) → owning o ≡ now → IsOwning o → (n x : ℕ) → n < length o.counts.items
    → x ≡ get_or o.counts.items n 0 → x ≡ owned_by now.owners n
counted-at o now same is n x lt read =
    read ∙ is.counted n lt ∙ ap (λ (v : Owning). owned_by v.owners n) same

-- the bucket that comes next opens on its server
pub opening-more : (plan : Planned) (b : ℕ) (s : ServerId) (old new : List ServerId) → s ≡ (table plan 0 b).cur
    → new ≡ old ++ s ∷ [] → old ≡ map (λ k. (table plan 0 k).cur) (range_with_len 0 b)
    → new ≡ map (λ k. (table plan 0 k).cur) (range_with_len 0 (b + 1))
opening-more plan b s old new is now so_far =
    now ∙ rw (so_far, is) (sym (map-range_with_len_more (λ k. (table plan 0 k).cur) 0 b b (omega arith)))

-- MOVES

-- one move more
pub gone-more : (moves : List Move) (i : ℕ) (d : Move) (old new total : List ServerId) → i < length moves
    → new ≡ gone (get_or moves i d) old → all_gone (drop i moves) old ≡ total
    → all_gone (drop (i + 1) moves) new ≡ total
gone-more moves i d old new total lt now so_far =
    ap (all_gone (drop (i + 1) moves)) now
    ∙ sym (ap (λ (ms : List Move). all_gone ms old) (drop_more moves i d lt)) ∙ so_far

pub gone-end : (moves : List Move) (i : ℕ) (owners total : List ServerId) → length moves ≤ i
    → all_gone (drop i moves) owners ≡ total → owners ≡ total
gone-end moves i owners total le so_far =
    sym (ap (λ (ms : List Move). all_gone ms owners) (drop_all i moves le)) ∙ so_far

length-all_gone : (moves : List Move) (owners : List ServerId) → length (all_gone moves owners) ≡ length owners
length-all_gone [] owners = refl
length-all_gone (m ∷ moves) owners = length-all_gone moves (gone m owners) ∙ length-set owners m.bucket m.to

-- moves of higher buckets don't have this one
no_target : (buckets low b : ℕ) (moves : List Move) → MovesRise buckets low moves → b < low → target moves b ≡ None
no_target buckets low b [] rise h = refl
no_target buckets low b (m ∷ moves) rise h =
    let t : eqb m.bucket b ≡ false = ne_eqb _ _ (λ same. omega (arith, rise.0))
    in rw t (no_target buckets (m.bucket + 1) b moves rise.2 (omega (arith, rise.0)))

-- the server of a bucket after these moves
gone-target : (buckets low b : ℕ) (moves : List Move) (owners : List ServerId) (d : ServerId)
    → MovesRise buckets low moves → length owners ≡ buckets
    → get_or (all_gone moves owners) b d ≡ unwrap_or (target moves b) (get_or owners b d)
gone-target buckets low b [] owners d rise count = refl
gone-target buckets low b (m ∷ moves) owners d rise count =
    let later = gone-target buckets (m.bucket + 1) b moves (gone m owners) d rise.2
    (length-set owners m.bucket m.to ∙ count) in
    elim (cases_eq m.bucket b) [
      | inl same ↦
          let t : eqb m.bucket b ≡ true = eq-eqb _ _ same in
          let none : target moves b ≡ None = no_target buckets (m.bucket + 1) b moves rise.2 (omega arith) in
          let here : get_or (set owners m.bucket m.to) m.bucket d ≡ m.to =
          get_or-set_same owners m.bucket m.to d (omega (arith, rise.1, count)) in
          let there : get_or (gone m owners) b d ≡ m.to =
          ap (λ (k : ℕ). get_or (set owners m.bucket m.to) k d) (sym same) ∙ here in
          later ∙ ap (λ (o : Option ServerId). unwrap_or o (get_or (gone m owners) b d)) none ∙ there ∙ rw t refl
      | inr other ↦
          let t : eqb m.bucket b ≡ false = ne_eqb _ _ other in
          let there : get_or (gone m owners) b d ≡ get_or owners b d =
          get_or-set_other owners m.bucket b m.to d (λ e. other (sym e)) in
          later ∙ ap (λ (s : ServerId). unwrap_or (target moves b) s) there ∙ rw t refl
    ]

-- lists with the same items
same-items : (d : ServerId) (xs ys : List ServerId) → length xs ≡ length ys
    → ((b : ℕ) → b < length xs → get_or xs b d ≡ get_or ys b d) → xs ≡ ys
same-items d [] [] count each = refl
same-items d [] (y ∷ ys) count each = absurd (omega (arith, count))
same-items d (x ∷ xs) [] count each = absurd (omega (arith, count))
same-items d (x ∷ xs) (y ∷ ys) count each =
    let head : x ≡ y = each 0 (omega arith) in
    let tail : xs ≡ ys = same-items d xs ys (omega (arith, count)) (λ b lt. each (suc b) (omega (arith, lt))) in
    ap (λ (z : ServerId). z ∷ xs) head ∙ ap (λ (zs : List ServerId). y ∷ zs) tail

moved-cur : (e : Entry) (at : ℕ) (to : Option ServerId) → (moved e at to).cur ≡ unwrap_or to e.cur
moved-cur e at None = refl
moved-cur e at (Some to) = refl

-- a plan's next change makes the servers of the next version
pub owners-next : (plan : Planned) (v : ℕ) (c : Change) → IsPlan plan → next_change plan v ≡ Some c
    → all_gone c.moves (owners_at plan v) ≡ owners_at plan (v + 1)
owners-next plan v c kept is =
    let d : ServerId = record { 0 = 0 } in
    let cur : ℕ → ℕ → ServerId = λ w b. (table plan w b).cur in
    let old : length (owners_at plan v) ≡ plan.buckets = length-map-range_with_len (cur v) 0 plan.buckets in
    let new : length (owners_at plan (v + 1)) ≡ plan.buckets = length-map-range_with_len (cur (v + 1)) 0 plan.buckets in
    let made : length (all_gone c.moves (owners_at plan v)) ≡ plan.buckets =
    length-all_gone c.moves (owners_at plan v) ∙ old in
    same-items d (all_gone c.moves (owners_at plan v)) (owners_at plan (v + 1)) (made ∙ sym new) (λ b lt.
    let below : b < plan.buckets = omega (arith, lt, made) in
    let before : get_or (owners_at plan v) b d ≡ cur v b =
    get_or-map-range_with_len (cur v) 0 plan.buckets b b d below (omega arith) in
    let after : get_or (owners_at plan (v + 1)) b d ≡ cur (v + 1) b =
    get_or-map-range_with_len (cur (v + 1)) 0 plan.buckets b b d below (omega arith) in
    let brought : brings (next_change plan v) b ≡ target c.moves b =
    ap (λ (o : Option Change). brings o b) is in
    let step : cur (v + 1) b ≡ unwrap_or (target c.moves b) (cur v b) =
    ap (λ (w : ℕ). cur w b) (add-one v)
    ∙ moved-cur (table plan v b) (change_moment (next_change plan v)) (brings (next_change plan v) b)
    ∙ ap (λ (o : Option ServerId). unwrap_or o (cur v b)) brought in
    gone-target plan.buckets 0 b c.moves (owners_at plan v) d (change_rises plan kept v c is) old
    ∙ ap (λ (s : ServerId). unwrap_or (target c.moves b) s) before ∙ sym step ∙ sym after)
