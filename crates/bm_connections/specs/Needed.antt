-- How long the old servers are needed: the longest time after a change that packets are still
-- forwarded because of it, and the longest time after a retirement that packets still come which
-- the server would have processed. They are computed by looking back through events
-- (docs/DEFINITIONS.md). A past has its newest event first.
use Rattle.std.specs.Prelude.{ℕ, zero, suc, ◌-◌, ◌==◌, nat_lt, ◌&&◌, if◌then◌else◌}
use Rattle.std.specs.Prelude.{List, [], ◌∷◌, ◌++◌, length, map, flat_map, reverse, Option, Some}
use Rattle.std.specs.Prelude.{None}
use Rattle.bm_base.specs.declared.flow.Flow.{Flow}
use Rattle.bm_base.specs.declared.flow.Segment.{Segment}
use Rattle.bm_base.specs.declared.ids.Moment.{Moment}
use Rattle.bm_base.specs.declared.ids.ServerId.{ServerId}
use Rattle.bm_base.specs.declared.label.Hop.{Hop}
use Rattle.bm_base.specs.declared.label.Label.{Label}
use Rattle.bm_base.specs.Labels.{hop_number}
use Rattle.bm_core.specs.declared.events.Cause.TheVariants.{NotHeld}
use Rattle.bm_core.specs.declared.events.Event.{Event}
use Rattle.bm_core.specs.declared.events.History.{History}
use Rattle.bm_core.specs.declared.events.Stage.{Stage}
use Rattle.bm_core.specs.declared.events.Verdict.TheVariants.{Forward}
use Rattle.bm_core.specs.declared.events.What.{What}
use Rattle.bm_core.specs.declared.events.What.TheVariants.{Arrive, Retire, Sync}
use Rattle.bm_core.specs.Causes.{is_holding}
use Rattle.bm_core.specs.Past.{Accepted, bucket, held, is_done, label_of, owner, segment_of, shard}
use Rattle.bm_table.specs.Planned.{Planned}
use Rattle.bm_table.specs.Tables.{moves, moves_next, same_server}
use Rattle.bm_connections.specs.declared.needs.Need.{Need}
use Rattle.bm_connections.specs.declared.needs.NeedOf.{NeedOf}
use Rattle.bm_connections.specs.declared.needed.NeededChange.{NeededChange}
use Rattle.bm_connections.specs.declared.needed.NeededServer.{NeededServer}
use Rattle.bm_connections.specs.Connections.{counted_cause}
use Rattle.bm_connections.specs.Counts.{is_cause}
use Rattle.bm_connections.specs.Waits.{wait}

-- THE LONGEST

-- the longer of two needs; of two that are as long, the earlier
abbrev pub longer : Option Need → Need → Need
longer None next = next
longer (Some longest) next = if nat_lt longest.time next.time then next else longest

-- the longest need under a number, after one more need
abbrev pub with_need : ℕ → Option NeedOf → Option Need → Option Need
with_need n None longest = longest
with_need n (Some next) longest =
    if next.number == n then Some (longer longest next.need) else longest

-- the longest need under a number, where each event may have one
abbrev pub longest_need : (List Event → Event → Option NeedOf) → ℕ → List Event → Option Need
longest_need need n [] = None
longest_need need n (e ∷ past) = with_need n (need past e) (longest_need need n past)

-- a need of a packet at this clock, under this number
abbrev pub need_of : ℕ → ℕ → Moment → Flow → Option NeedOf
need_of n time clock f =
    Some (record { number = n; need = record { time = time; clock = clock; flow = f } })

-- CHANGES

-- the number of changes before the one by which the bucket moved for the nth time, if it is among
-- the first v
abbrev pub nth_move : Planned → ℕ → ℕ → ℕ → Option ℕ
nth_move plan b n zero = None
nth_move plan b n (suc v) =
    if moves_next plan v b && moves plan b 0 (suc v) == n then Some v else nth_move plan b n v

-- the same of the change by which the bucket of a flow left the server to which a copy of this hop
-- may be passed on by its label
abbrev pub moved_by : Stage → Flow → Label → Hop → Option ℕ
moved_by stage f l hop =
    nth_move stage.script.plan (bucket stage f)
    (moves stage.script.plan (bucket stage f) 0 l.version.0 - hop_number hop) l.version.0

-- a need of the change after the first v, if there is one
abbrev pub need_of_change : Option ℕ → ℕ → Moment → Flow → Option NeedOf
need_of_change None time clock f = None
need_of_change (Some v) time clock f = need_of (suc v) time clock f

-- the need of a copy that is forwarded, of a packet with this segment and this label
abbrev pub forward_need : Stage → ℕ → Moment → Hop → Option Segment → Option Label → Option NeedOf
forward_need stage time clock hop (Some s) (Some l) =
    need_of_change (moved_by stage s.flow l hop) time clock s.flow
forward_need stage time clock hop _ _ = None

-- the packet that arrives is forwarded because of a change: how long after it
abbrev pub change_need : Stage → List Event → Moment → What → Option NeedOf
change_need stage past clock (Arrive k hop server (Forward to)) =
    forward_need stage (wait stage past clock.0 hop k) clock hop (segment_of stage k)
    (label_of stage past k)
change_need stage past clock _ = None

-- the longest need of change n
abbrev pub longest_of_change : Stage → List Event → ℕ → Option Need
longest_of_change stage past n =
    longest_need (λ before e. change_need stage before e.clock e.what) n past

abbrev pub as_change : ℕ → Option Need → List NeededChange
as_change n None = []
as_change n (Some need) = record { change = n; need = need } ∷ []

-- those of the first n changes that have one
abbrev pub changes_needed : Stage → List Event → ℕ → List NeededChange
changes_needed stage past zero = []
changes_needed stage past (suc n) =
    changes_needed stage past n ++ as_change (suc n) (longest_of_change stage past (suc n))

-- those of all changes
abbrev pub all_changes : Stage → List Event → List NeededChange
all_changes stage past = changes_needed stage past (length stage.script.plan.changes)

-- those of a history
abbrev pub needed_changes : History → List NeededChange
needed_changes h = all_changes h.stage (reverse h.events)

-- RETIREMENTS

-- what happens, but a Sync, which changes nothing, in place of a retirement
abbrev pub unretired : What → What
unretired (Retire server h at result) = Sync
unretired what = what

abbrev pub unretired_event : Event → Event
unretired_event e = record { clock = e.clock; what = unretired e.what }

-- these events, had no shard retired
abbrev pub without_retirements : List Event → List Event
without_retirements past = map unretired_event past

-- the moment of the event, if it retires this shard
abbrev pub retirement_by : What → ServerId → ℕ → Option Moment
retirement_by (Retire server h at result) s shard =
    if same_server server s && h == shard && is_done result then Some at else None
retirement_by _ s shard = None

-- the first, if there is one, and otherwise the second
abbrev pub first_moment : Option Moment → Option Moment → Option Moment
first_moment None later = later
first_moment (Some m) later = Some m

-- the moment of the shard's first retirement
abbrev pub retired_at : List Event → ServerId → ℕ → Option Moment
retired_at [] s shard = None
retired_at (e ∷ past) s shard =
    first_moment (retired_at past s shard) (retirement_by e.what s shard)

-- the need of a server that retired at this moment, if it did
abbrev pub need_of_server : Option Moment → ServerId → Moment → Flow → Option NeedOf
need_of_server None s clock f = None
need_of_server (Some at) s clock f = need_of s.0 (clock.0 - at.0) clock f

-- the need of a packet that isn't held: of its owner's server, if this would still hold the
-- connection, had no shard retired
abbrev pub unheld_need : Stage → List Event → Moment → Option Segment → Option Accepted
    → Option NeedOf
unheld_need stage past clock (Some s) (Some a) =
    if is_holding (held stage (without_retirements past) a.server s.flow) a.place
    then need_of_server (retired_at past a.server (shard stage s.flow)) a.server clock s.flow
    else None
unheld_need stage past clock _ _ = None

-- the same of the packet of an arrival
abbrev pub need_of_unheld : Stage → List Event → Moment → What → Option NeedOf
need_of_unheld stage past clock (Arrive k hop server verdict) =
    unheld_need stage past clock (segment_of stage k) (owner stage past k)
need_of_unheld stage past clock _ = None

-- a break that counts has the cause not-held because of a retirement: how long after it
abbrev pub server_need : Stage → List Event → Event → Option NeedOf
server_need stage past e =
    if is_cause NotHeld (counted_cause stage past e)
    then need_of_unheld stage past e.clock e.what else None

-- the longest need of the server with this number
abbrev pub longest_of_server : Stage → List Event → ℕ → Option Need
longest_of_server stage past n = longest_need (server_need stage) n past

abbrev pub as_server : ServerId → Option Need → List NeededServer
as_server s None = []
as_server s (Some need) = record { server = s; need = need } ∷ []

-- the need of this server, if it has one
abbrev pub server_needed : Stage → List Event → ServerId → List NeededServer
server_needed stage past s = as_server s (longest_of_server stage past s.0)

-- those of these servers that have one
abbrev pub needed_servers : History → List ServerId → List NeededServer
needed_servers h servers = flat_map (server_needed h.stage (reverse h.events)) servers
