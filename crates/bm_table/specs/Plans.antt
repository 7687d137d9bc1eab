-- What holds of each plan, and which changes it refuses.
use Rattle.std.specs.Prelude.{◌≡◌, ◌≢◌, ℕ, ◌+◌, ◌-◌, ◌<◌, ◌≤◌, ◌&&◌, nat_le, nat_lt, if◌then◌else◌}
use Rattle.std.specs.Prelude.{List, [], ◌∷◌, ◌++◌, length, map, All, IfSome, sum_by, Option, Some}
use Rattle.std.specs.Prelude.{None}
use Rattle.std.specs.List.{range_with_len}
use Rattle.std.specs.Option.{option_map}
use Rattle.bm_base.specs.declared.ids.Moment.{Moment}
use Rattle.bm_base.specs.declared.ids.ServerId.{ServerId}
use Rattle.bm_table.specs.declared.plan.Change.{Change}
use Rattle.bm_table.specs.declared.plan.Limit.TheVariants.{Changes, Moves}
use Rattle.bm_table.specs.declared.plan.Move.{Move}
use Rattle.bm_table.specs.declared.plan.PlanFault.{PlanFault}
use Rattle.bm_table.specs.declared.plan.PlanFault.TheVariants.{StampFell, BadBucket, SameServer}
use Rattle.bm_table.specs.declared.plan.PlanFault.TheVariants.{TooMany, Memory}
use Rattle.bm_table.specs.Planned.{Planned}
use Rattle.bm_table.specs.Settings.{IsWithin, RiseFrom}
use Rattle.bm_table.specs.Tables.{brings, change_moment, next_change, same_server, table}

-- the plan with one more change
abbrev pub with_change : Planned → Change → Planned
with_change plan change = record plan { changes = plan.changes ++ change ∷ [] }

-- the server of a bucket after all changes
abbrev pub server_now : Planned → ℕ → ServerId
server_now plan b = (table plan (length plan.changes) b).cur

-- the server of each bucket after all changes
abbrev pub owners_now : Planned → List ServerId
owners_now plan = map (server_now plan) (range_with_len 0 plan.buckets)

-- the moves' buckets rise, from low on, and are below the number of buckets
abbrev pub MovesRise : ℕ → ℕ → List Move → Type 0
MovesRise buckets low [] = Unit {0}
MovesRise buckets low (m ∷ moves) =
    (low ≤ m.bucket) × (m.bucket < buckets) × MovesRise buckets (m.bucket + 1) moves

-- how many moves all changes have together
abbrev pub total_moves : List Change → ℕ
total_moves changes = sum_by (λ c. length c.moves) changes

pub record IsPlan (plan : Planned) : Type 0 where
  pub buckets : IsWithin 1 65536 plan.buckets
  pub servers : 0 < length plan.servers
  pub rising : RiseFrom 0 plan.servers
  -- stamps never decrease
  pub stamps : (v w : ℕ) → v ≤ w → w < length plan.changes
      → change_moment (next_change plan v) ≤ change_moment (next_change plan w)
  -- each move changes its bucket's server
  pub changes : (v b : ℕ) → IfSome (brings (next_change plan v) b) (λ to. to ≢ (table plan v b).cur)
  -- the buckets of a change rise
  pub places : All (λ c. MovesRise plan.buckets 0 c.moves) plan.changes
  pub count : length plan.changes ≤ 4096
  pub moves : total_moves plan.changes ≤ 1000000

-- the moment of the last change, or 0
abbrev pub last_moment : Planned → ℕ
last_moment plan = change_moment (next_change plan (length plan.changes - 1))

-- the first bucket that isn't below the number of buckets, or is below `low`, or isn't above the
-- one before it
abbrev pub bad_bucket : ℕ → ℕ → List Move → Option ℕ
bad_bucket buckets low [] = None
bad_bucket buckets low (m ∷ moves) =
    if nat_le low m.bucket && nat_lt m.bucket buckets then bad_bucket buckets (m.bucket + 1) moves
    else Some m.bucket

-- the first bucket that is already at the server to which it is moved
abbrev pub bucket_already_there : (ℕ → ServerId) → List Move → Option ℕ
bucket_already_there server [] = None
bucket_already_there server (m ∷ moves) =
    if same_server (server m.bucket) m.to then Some m.bucket else bucket_already_there server moves

abbrev pub first_fault : List (Option PlanFault) → Option PlanFault
first_fault [] = None
first_fault (None ∷ faults) = first_fault faults
first_fault (Some fault ∷ faults) = Some fault

-- a moment below that of the last change
abbrev pub late_fault : Planned → Moment → Option PlanFault
late_fault plan at = if nat_lt at.0 (last_moment plan) then Some StampFell else None

-- the limits of a plan to which a change with this many moves is added
abbrev pub limit_faults : Planned → ℕ → List (Option PlanFault)
limit_faults plan count =
    (if nat_lt (length plan.changes) 4096 then None else Some (TooMany Changes))
    ∷ (if nat_le (total_moves plan.changes + count) 1000000 then None else Some (TooMany Moves))
    ∷ []

-- why the plan refuses a change at this moment with this many moves, whatever the moves are
abbrev pub limit_refusal : Planned → Moment → ℕ → Option PlanFault
limit_refusal plan at count = first_fault (late_fault plan at ∷ limit_faults plan count)

-- why the plan refuses the change, apart from `Memory`
abbrev pub refusal : Planned → Change → Option PlanFault
refusal plan change = first_fault (
    late_fault plan change.moment
    ∷ option_map BadBucket (bad_bucket plan.buckets 0 change.moves)
    ∷ option_map SameServer (bucket_already_there (server_now plan) change.moves)
    ∷ limit_faults plan (length change.moves))

-- `Memory` comes only if there is no other reason to refuse
abbrev pub IsRefusal : Planned → Change → PlanFault → Type 0
IsRefusal plan change Memory = refusal plan change ≡ None
IsRefusal plan change fault = refusal plan change ≡ Some fault
