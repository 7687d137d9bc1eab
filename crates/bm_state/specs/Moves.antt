-- The moves of each bucket, as they are kept.
use Rattle.std.specs.Prelude.{◌≡◌, ℕ, zero, suc, List, [], ◌∷◌, ◌++◌, length, Option, Some, None, Vec}
use Rattle.std.specs.BTreeMap as tree
use Rattle.std.specs.Ordering.{nat_cmp}
use Rattle.bm_base.specs.declared.ids.ServerId.{ServerId}
use Rattle.bm_table.specs.Planned.{Planned}
use Rattle.bm_table.specs.Tables.{brings, next_change}
use Rattle.bm_state.specs.declared.moves.BucketMove.{BucketMove}
use Rattle.bm_state.specs.declared.moves.Moves.{Moves}

-- one move more, if the change of this number brings the bucket to a server
abbrev pub with_move : ℕ → Option ServerId → List BucketMove → List BucketMove
with_move v None moves = moves
with_move v (Some to) moves = moves ++ record { change = v; to = to } ∷ []

-- the moves of the bucket by the first n changes, in order
abbrev pub bucket_moves : Planned → ℕ → ℕ → List BucketMove
bucket_moves plan b zero = []
bucket_moves plan b (suc v) = with_move v (brings (next_change plan v) b) (bucket_moves plan b v)

-- the items of the list, or none
abbrev pub listed : {A : Type 0} → Option (Vec BucketMove A) → List BucketMove
listed None = []
listed (Some v) = v.items

-- all moves of each bucket are kept
abbrev pub AreMoves : Planned → Moves → Type 0
AreMoves plan moves =
    (b : ℕ) → listed (tree.get nat_cmp moves.lists b) ≡ bucket_moves plan b (length plan.changes)
