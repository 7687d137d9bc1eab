-- Which lists of events are runs (docs/DEFINITIONS.md).
use Rattle.std.specs.Prelude.{◌≡◌, ℕ, suc, ◌+◌, max, ◌<◌, ◌≤◌, Bool, true, false, ◌&&◌, ◌==◌}
use Rattle.std.specs.Prelude.{if◌then◌else◌, List, [], ◌∷◌, length, reverse, take, Option, Some}
use Rattle.std.specs.Prelude.{None, slice_get, is_some, IfSome, option_map}
use Rattle.std.specs.Option.{option_map_or}
use Rattle.bm_base.specs.declared.ids.ServerId.{ServerId}
use Rattle.bm_base.specs.declared.flow.Segment.{Segment}
use Rattle.bm_base.specs.declared.label.Label.{Label}
use Rattle.bm_base.specs.declared.label.Hop.{Hop}
use Rattle.bm_base.specs.declared.label.Hop.TheVariants.{Direct}
use Rattle.bm_core.specs.declared.events.Verdict.{Verdict}
use Rattle.bm_core.specs.declared.events.What.{What}
use Rattle.bm_core.specs.declared.events.What.TheVariants.{Publish, Switch, Steer, Lose, Arrive}
use Rattle.bm_core.specs.declared.events.What.TheVariants.{Close, Retire, Sync}
use Rattle.bm_core.specs.declared.events.Event.{Event}
use Rattle.bm_core.specs.declared.events.Stage.{Stage}
use Rattle.bm_core.specs.declared.events.History.{History}
use Rattle.bm_table.specs.Tables.{IsRetirement}
use Rattle.bm_core.specs.Stages.{IsSound}
use Rattle.bm_core.specs.Past.{segment_of, shard, timeout, newest, label_of, is_sent, is_sent_at}
use Rattle.bm_core.specs.Past.{held}
use Rattle.bm_base.specs.Labels.{arrives_at}
use Rattle.bm_core.specs.Verdicts.{verdict_at}

-- who keeps a clock
pub data Actor : Type 0 where
  Controller : Actor
  MuxOf : ℕ → Actor
  ShardOf : ℕ → ℕ → Actor

-- the actors are the same
abbrev pub same_actor : Actor → Actor → Bool
same_actor Controller Controller = true
same_actor (MuxOf m) (MuxOf n) = m == n
same_actor (ShardOf s h) (ShardOf t i) = s == t && h == i
same_actor _ _ = false

-- the actor of an event; a Lose has none
abbrev pub actor_of : Stage → What → Option Actor
actor_of stage (Publish v) = Some Controller
actor_of stage Sync = Some Controller
actor_of stage (Switch m v) = Some (MuxOf m.0)
actor_of stage (Steer k m) = Some (MuxOf m.0)
actor_of stage (Arrive k hop server verdict) =
    option_map (λ s. ShardOf server.0 (shard stage s.flow)) (segment_of stage k)
actor_of stage (Close server flow closed) = Some (ShardOf server.0 (shard stage flow))
actor_of stage (Retire server h at result) = Some (ShardOf server.0 h)
actor_of stage (Lose k hop) = None

-- there is an actor, and it is this one
abbrev pub is_by : Option Actor → Actor → Bool
is_by author a = option_map_or (λ b. same_actor b a) author false

-- the clock of the actor's last event
abbrev pub own_clock : Stage → List Event → Actor → Option ℕ
own_clock stage [] a = None
own_clock stage (e ∷ past) a =
    if is_by (actor_of stage e.what) a then Some e.clock.0 else own_clock stage past a

-- the clock of the newest event, or 0
abbrev pub last_clock : List Event → ℕ
last_clock [] = 0
last_clock (e ∷ past) = e.clock.0

-- the least clock after both
abbrev pub next_clock : ℕ → ℕ → ℕ
next_clock a b = suc (max a b)

-- a copy arrives where the packet's label sends it, after it was sent, and has the verdict that the
-- server's shard gives it
pub record IsArrival (stage : Stage) (past : List Event) (clock k : ℕ) (hop : Hop)
    (server : ServerId) (verdict : Verdict) : Type 0 where
  pub segment : Segment
  pub is_segment : segment_of stage k ≡ Some segment
  pub label : Label
  pub is_label : label_of stage past k ≡ Some label
  pub sent : is_sent past k hop ≡ true
  pub place : arrives_at label.entry hop ≡ Some server
  pub verdict_is : verdict ≡ verdict_at stage past clock label hop server segment

-- the event may come after these. A Switch may be to any published version, also to one older than
-- the mux has. The moment that a Retire states is its command's, or a later one in threads.
abbrev pub MayCome : Stage → List Event → ℕ → What → Type 0
MayCome stage past clock (Publish v) =
    (v.0 ≡ suc (newest past)) × (v.0 ≤ length stage.script.plan.changes)
MayCome stage past clock (Switch m v) = (m.0 < stage.script.setting.muxes) × (v.0 ≤ newest past)
MayCome stage past clock (Steer k m) =
    (m.0 < stage.script.setting.muxes) × (is_sent past k Direct ≡ false)
    × (is_some (segment_of stage k) ≡ true)
MayCome stage past clock (Lose k hop) =
    (sending : ℕ) × (clock ≡ sending + 1) × (is_sent_at past k hop sending ≡ true)
MayCome stage past clock (Arrive k hop server verdict) =
    IsArrival stage past clock k hop server verdict
MayCome stage past clock (Close server flow closed) = closed ≡ is_some (held stage past server flow)
MayCome stage past clock (Retire server h at result) =
    (at.0 < clock) × IsRetirement stage.script.plan (timeout stage) (newest past) server at.0 result
MayCome stage past clock Sync = Unit {0}

-- the event may come after these, with its clock
pub record IsStep (stage : Stage) (past : List Event) (e : Event) : Type 0 where
  -- clocks never decrease
  pub clock : last_clock past ≤ e.clock.0
  -- the clocks of one actor increase
  pub own : IfSome (actor_of stage e.what)
      (λ a. IfSome (own_clock stage past a) (λ c. c < e.clock.0))
  pub may : MayCome stage past e.clock.0 e.what

-- P holds of each element and those before it
abbrev pub AtEach : {X : Type 0} → (List X → X → Type 0) → List X → Type 0
AtEach P [] = Unit {0}
AtEach P (e ∷ past) = P past e × AtEach P past

-- these events, the newest first, are a run
abbrev pub Run : Stage → List Event → Type 0
Run stage past = AtEach (IsStep stage) past

-- the history is a run
pub record IsRun (h : History) : Type 0 where
  pub sound : IsSound h.stage
  pub run : Run h.stage (reverse h.events)

-- the event at a place of the history
abbrev pub event_at : History → ℕ → Option Event
event_at h place = slice_get h.events place

-- the events before a place of the history, the newest first
abbrev pub past_at : History → ℕ → List Event
past_at h place = reverse (take place h.events)
