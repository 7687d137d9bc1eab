-- How the moves of a bucket are kept and found, and what they say of its entry.
use Rattle.std.specs.Prelude.{◌≡◌, ℕ, zero, suc, ◌-◌, ◌<◌, ◌≤◌, ◌==◌, nat_lt, ◌&&◌, if◌then◌else◌}
use Rattle.std.specs.Prelude.{Bool, List, [], ◌∷◌, ◌++◌, length, slice_index_or, Option, Some, None}
use Rattle.bm_base.specs.declared.ids.ServerId.{ServerId}
use Rattle.bm_base.specs.declared.label.Entry.{Entry}
use Rattle.bm_base.specs.declared.label.Past.{Past}
use Rattle.bm_table.specs.declared.plan.Move.{Move}
use Rattle.bm_table.specs.Planned.{Planned}
use Rattle.bm_table.specs.Tables.{change_moment, next_change, opening}
use Rattle.bm_state.specs.declared.moves.BucketMove.{BucketMove}

-- what stands in place of a move that isn't there
abbrev pub no_move : BucketMove
no_move = record { change = 0; to = record { 0 = 0 } }

-- the last move is by the change of this number
abbrev pub is_last : List BucketMove → ℕ → Bool
is_last moves v =
    nat_lt 0 (length moves) && (slice_index_or moves (length moves - 1) no_move).change == v

-- one move more, unless the change has one already
abbrev pub add_once : ℕ → ServerId → List BucketMove → List BucketMove
add_once v to moves =
    if is_last moves v then moves else moves ++ record { change = v; to = to } ∷ []

-- a bucket's list after these moves of change v
abbrev pub with_moves : ℕ → List Move → ℕ → List BucketMove → List BucketMove
with_moves v [] b before = before
with_moves v (m ∷ moves) b before =
    with_moves v moves b (if m.bucket == b then add_once v m.to before else before)

-- each is by a change below v
abbrev pub AreBelow : ℕ → List BucketMove → Type 0
AreBelow v [] = Unit {0}
AreBelow v (m ∷ moves) = (m.change < v) × AreBelow v moves

-- none is by a change below v
abbrev pub AreFrom : ℕ → List BucketMove → Type 0
AreFrom v [] = Unit {0}
AreFrom v (m ∷ moves) = (v ≤ m.change) × AreFrom v moves

-- the list is those by changes below v, and then the others
pub record IsSplit (v : ℕ) (whole low : List BucketMove) : Type 0 where
  pub rest : List BucketMove
  pub whole_is : whole ≡ low ++ rest
  pub below : AreBelow v low
  pub above : AreFrom v rest

-- the bucket's server after the first n of these moves
abbrev pub server_at : Planned → ℕ → List BucketMove → ℕ → ServerId
server_at plan b moves zero = (opening plan b).cur
server_at plan b moves (suc n) = (slice_index_or moves n no_move).to

-- the server before the last of them
abbrev pub past_at : Planned → ℕ → List BucketMove → ℕ → Option Past
past_at plan b moves zero = None
past_at plan b moves (suc n) = Some (record {
  server = server_at plan b moves n;
  stamp = record { 0 = change_moment (next_change plan (slice_index_or moves n no_move).change) };
})

-- the server before the last two of them
abbrev pub older_at : Planned → ℕ → List BucketMove → ℕ → Option Past
older_at plan b moves zero = None
older_at plan b moves (suc n) = past_at plan b moves n

-- the bucket's entry after them
abbrev pub entry_at : Planned → ℕ → List BucketMove → ℕ → Entry
entry_at plan b moves n = record {
  cur = server_at plan b moves n;
  prev = past_at plan b moves n;
  older = older_at plan b moves n;
}
