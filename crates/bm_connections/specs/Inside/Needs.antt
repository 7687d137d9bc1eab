-- What the code keeps of the needs of packets while it goes through events.
use Rattle.std.specs.Prelude.{◌≡◌, ℕ, suc, ◌<◌, ◌^◌, List, Option, Some, None, unwrap_or}
use Rattle.std.specs.Prelude.{if◌then◌else◌}
use Rattle.std.specs.BTreeMap as tree
use Rattle.std.specs.Ordering.{nat_cmp}
use Rattle.bm_base.specs.contracts.flow.FlowOrd.TheImpl as flow_order
use Rattle.bm_base.specs.Segments.{same_flow}
use Rattle.bm_base.specs.declared.capture.Record.{Record}
use Rattle.bm_base.specs.declared.flow.Flow.{Flow}
use Rattle.bm_base.specs.declared.ids.Moment.{Moment}
use Rattle.bm_base.specs.declared.ids.ServerId.{ServerId}
use Rattle.bm_core.specs.declared.events.Event.{Event}
use Rattle.bm_core.specs.declared.events.Stage.{Stage}
use Rattle.bm_state.specs.contracts.shard_key.ShardKeyOrd.TheImpl as key_order
use Rattle.bm_state.specs.declared.shard_key.ShardKey.{ShardKey}
use Rattle.bm_state.specs.Holders.{KeepsHolders}
use Rattle.bm_state.specs.Inside.Retirements.{same_key}
use Rattle.bm_state.specs.Owners.{KeepsOwners}
use Rattle.bm_state.specs.ShardKeys.{key_at}
use Rattle.bm_connections.specs.declared.last_seen.LastSeen.{LastSeen}
use Rattle.bm_connections.specs.declared.followed.Followed.{Followed}
use Rattle.bm_connections.specs.declared.all_needs.AllNeeds.{AllNeeds}
use Rattle.bm_connections.specs.declared.needs.LongestNeeds.{LongestNeeds}
use Rattle.bm_connections.specs.declared.needed.NeededServer.{NeededServer}
use Rattle.bm_connections.specs.declared.needs.Need.{Need}
use Rattle.bm_connections.specs.declared.unretired.FirstRetirements.{FirstRetirements}
use Rattle.bm_connections.specs.declared.unretired.Unretired.{Unretired}
use Rattle.bm_connections.specs.Late.{longest_wait}
use Rattle.bm_connections.specs.Needed.{as_server, first_moment, longest_of_change}
use Rattle.bm_connections.specs.Needed.{longest_of_server, retired_at, without_retirements}
use Rattle.bm_connections.specs.Seen.{last_seen, records_of}
use Rattle.bm_connections.specs.Thrice.{longest_of_third}
use Rattle.bm_connections.specs.Inside.Stamps.{KnowsStamps}

-- NEEDS

-- the need that is kept under the number
abbrev pub need_in : LongestNeeds → ℕ → Option Need
need_in l n = tree.get nat_cmp l.needs n

-- the server, if a need is kept under its number
abbrev pub server_in : LongestNeeds → ServerId → List NeededServer
server_in l s = as_server s (need_in l s.0)

-- RECORDS

-- what is kept of the flow
abbrev pub last_in : LastSeen → Flow → Option Moment
last_in l f = tree.get (flow_order.ghosts).cmp l.moments f

-- what is kept of a flow after a packet of this one
abbrev pub put_last : Flow → Moment → Flow → Option Moment → Option Moment
put_last f moment q before = if same_flow f q then Some moment else before

-- the moment that is kept, or 0
abbrev pub moment_in : LastSeen → Flow → Moment
moment_in l f = unwrap_or (last_in l f) (record { 0 = 0 })

-- the moments of these records are kept
pub record KnowsLast (records : List Record) (l : LastSeen) : Type 0 where
  pub each : (f : Flow) → moment_in l f ≡ (last_seen records f).moment

-- each moment can be one later
abbrev pub HasRoom : LastSeen → Type 0
HasRoom l = (f : Flow) → suc (moment_in l f).0 < 2 ^ 64

-- RETIREMENTS

-- what is kept of the shard
abbrev pub first_in : FirstRetirements → ShardKey → Option Moment
first_in r key = tree.get (key_order.ghosts).cmp r.moments key

-- what is kept of a shard after a retirement of this one
abbrev pub put_first : ShardKey → Moment → ShardKey → Option Moment → Option Moment
put_first key at q before = first_moment before (if same_key key q then Some at else None)

-- the first retirements among these events are kept
pub record KnowsRetired (past : List Event) (r : FirstRetirements) : Type 0 where
  pub each : (s : ServerId) (h : ℕ) → first_in r (key_at s h) ≡ retired_at past s h

-- this is kept after these events
pub record KnowsUnretired (stage : Stage) (past : List Event) (u : Unretired) : Type 0 where
  pub holders : KeepsHolders stage (without_retirements past) u.holders
  pub retired : KnowsRetired past u.retired

-- ALL

-- this is kept after these events
pub record KnowsCourse (stage : Stage) (past : List Event) (f : Followed) : Type 0 where
  pub stamps : KnowsStamps stage past f.stamps
  pub owners : KeepsOwners stage past f.owners
  pub unretired : KnowsUnretired stage past f.unretired
  pub last : KnowsLast (records_of stage) f.last

-- these are the longest needs, and the longest wait of a packet that came too late, after these events
pub record HasNeeds (stage : Stage) (past : List Event) (a : AllNeeds) : Type 0 where
  pub followed : KnowsCourse stage past a.followed
  pub late : a.late ≡ longest_wait stage past
  pub changes : (n : ℕ) → need_in a.changes n ≡ longest_of_change stage past n
  pub thirds : (n : ℕ) → need_in a.thirds n ≡ longest_of_third stage past n
  pub servers : (n : ℕ) → need_in a.servers n ≡ longest_of_server stage past n
