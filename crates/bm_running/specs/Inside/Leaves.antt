-- The buckets that left servers, as they are kept.
use Rattle.std.specs.Prelude.{◌≡◌, ℕ, suc, zero, ◌<◌, ◌≤◌, Bool, false, ◌&&◌, ◌||◌, nat_le, nat_lt}
use Rattle.std.specs.Prelude.{if◌then◌else◌, is_some, List, [], ◌∷◌, ◌++◌, length, Option, Some, None, Vec}
use Rattle.std.specs.BTreeMap as tree
use Rattle.std.specs.BTreeSet as set
use Rattle.std.specs.Ordering.{nat_cmp}
use Rattle.bm_base.specs.declared.ids.ServerId.{ServerId}
use Rattle.bm_table.specs.declared.plan.Move.{Move}
use Rattle.bm_table.specs.Inside.Leaves.{IsLeast}
use Rattle.bm_table.specs.Planned.{Planned}
use Rattle.bm_table.specs.Tables.{change_moment, is_drained, moves_next, next_change, same_server, table}
use Rattle.bm_table.specs.Tables.{target}
use Rattle.bm_running.specs.declared.leaves.Leave.{Leave}
use Rattle.bm_running.specs.declared.leaves.Leaves.{Leaves}

-- the first of these buckets that left at this moment or later
abbrev pub first_since : List Leave → ℕ → Option ℕ
first_since [] since = None
first_since (l ∷ leaves) since =
    if nat_le since l.moment then Some l.bucket else first_since leaves since

-- the moments never decrease, from a moment on, and the buckets rise, from a bucket on
abbrev pub Rises : ℕ → ℕ → List Leave → Type 0
Rises moment bucket [] = Unit {0}
Rises moment bucket (l ∷ leaves) =
    (moment ≤ l.moment) × (bucket ≤ l.bucket) × Rises l.moment (suc l.bucket) leaves

-- those up to the first that isn't below a bucket
abbrev pub below : ℕ → List Leave → List Leave
below b [] = []
below b (l ∷ leaves) = if nat_lt l.bucket b then l ∷ below b leaves else []

-- one more, in place of those that aren't below it
abbrev pub with_leave : Leave → List Leave → List Leave
with_leave l leaves = below l.bucket leaves ++ l ∷ []

-- none left later than at this moment
abbrev pub AreEarly : ℕ → List Leave → Type 0
AreEarly moment [] = Unit {0}
AreEarly moment (l ∷ leaves) = (l.moment ≤ moment) × AreEarly moment leaves

-- by one of the first n changes the bucket left the server at this moment or later
abbrev pub left_since : Planned → ℕ → ServerId → ℕ → ℕ → Bool
left_since plan zero s since b = false
left_since plan (suc n) s since b =
    (moves_next plan n b && same_server (table plan n b).cur s
    && nat_le since (change_moment (next_change plan n)))
    || left_since plan n s since b

-- the same with these moves of the next change
abbrev pub left_by : Planned → ℕ → List Move → ServerId → ℕ → ℕ → Bool
left_by plan n moves s since b =
    (is_some (target moves b) && same_server (table plan n b).cur s
    && nat_le since (change_moment (next_change plan n)))
    || left_since plan n s since b

-- the list of the server of this number, after the first n changes and these moves of the next
pub record AreLeft (plan : Planned) (n : ℕ) (moves : List Move) (s : ℕ) (leaves : List Leave) : Type
    0 where
  pub rises : Rises 0 0 leaves
  pub early : (v : ℕ) → n ≤ v → v < length plan.changes
      → AreEarly (change_moment (next_change plan v)) leaves
  pub least : (since : ℕ)
      → IsLeast (left_by plan n moves (record { 0 = s }) since) (first_since leaves since)

-- the items of the list, or none
abbrev pub listed : {A : Type 0} → Option (Vec Leave A) → List Leave
listed None = []
listed (Some v) = v.items

-- the server is among those that are drained
abbrev pub is_kept : Leaves → ServerId → Bool
is_kept leaves s = set.contains nat_cmp leaves.drained s.0

-- this is kept after the first n changes
pub record KeepsLeaves (plan : Planned) (n : ℕ) (leaves : Leaves) : Type 0 where
  pub drained_of_each : (s : ServerId) → is_kept leaves s ≡ is_drained plan n s
  pub left_of_each : (s : ℕ) → AreLeft plan n [] s (listed (tree.get nat_cmp leaves.left s))
