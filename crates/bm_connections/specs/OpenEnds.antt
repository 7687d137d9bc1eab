-- Which connections are left open at a capture's end while the plan's last version gives their
-- bucket to another server than theirs (docs/DEFINITIONS.md): what comes of them after the capture
-- isn't known. Each counts for the last change by which its bucket left its server.
use Rattle.std.specs.Prelude.{ℕ, zero, suc, ◌-◌, max, ◌==◌, nat_lt, Bool, true, false, ◌&&◌, not}
use Rattle.std.specs.Prelude.{if◌then◌else◌, List, [], ◌∷◌, ◌++◌, length, Option, Some, None}
use Rattle.std.specs.Prelude.{is_some, slice_get, codes, decimal, flat_map}
use Rattle.std.specs.Option.{option_map_or}
use Rattle.bm_base.specs.declared.capture.Record.{Record}
use Rattle.bm_base.specs.declared.ids.ServerId.{ServerId}
use Rattle.bm_core.specs.declared.events.Stage.{Stage}
use Rattle.bm_core.specs.Past.{bucket}
use Rattle.bm_table.specs.Planned.{Planned}
use Rattle.bm_trace.specs.Words.{line}
use Rattle.bm_connections.specs.declared.connection.Connection.{Connection}
use Rattle.bm_connections.specs.declared.connection.Ending.{Ending}
use Rattle.bm_connections.specs.declared.connection.Ending.TheVariants.{Open}
use Rattle.bm_connections.specs.declared.left_open.Away.{Away}
use Rattle.bm_connections.specs.declared.left_open.OpenEnd.{OpenEnd}
use Rattle.bm_connections.specs.Leaves.{away_since}
use Rattle.bm_connections.specs.Times.{seconds_text}

-- WHICH ARE LEFT OPEN

abbrev pub is_open : Ending → Bool
is_open Open = true
is_open _ = false

-- a server accepted the connection, nothing broke or refused it, and it hasn't ended
abbrev pub is_left_open : Connection → Bool
is_left_open c =
    is_some c.server && not (is_some c.broken) && not (is_some c.refused) && is_open c.ending

-- the moment of the last of these records, which are in order
abbrev pub last_moment : List Record → ℕ
last_moment records =
    option_map_or (λ r. r.moment.0) (slice_get records (length records - 1)) 0

-- how long before the capture's last record the connection's last packet came
abbrev pub idle_of : Stage → Connection → ℕ
idle_of stage c = last_moment stage.capture.records - c.last.moment.0

-- WHICH ARE AWAY

-- by which change a bucket left this server, if the plan's last version gives it to another
abbrev pub away_at_end : Planned → ℕ → Option ServerId → Option ℕ
away_at_end plan b None = None
away_at_end plan b (Some s) = away_since plan b s (length plan.changes)

-- the same of the bucket and the server of a connection that is left open
abbrev pub left_away : Stage → Connection → Option ℕ
left_away stage c =
    if is_left_open c then away_at_end stage.script.plan (bucket stage c.flow) c.server else None

abbrev pub as_away : ℕ → Option ℕ → List Away
as_away idle None = []
as_away idle (Some v) = record { before = v; idle = idle } ∷ []

-- those of these connections that are left open and away
abbrev pub those_away : Stage → List Connection → List Away
those_away stage table = flat_map (λ c. as_away (idle_of stage c) (left_away stage c)) table

-- BY EACH CHANGE

-- how many of them are away by the change after version v
abbrev pub away_count : ℕ → List Away → ℕ
away_count v [] = 0
away_count v (c ∷ away) = if c.before == v then suc (away_count v away) else away_count v away

-- the longest that one of these was idle
abbrev pub longest_idle : ℕ → List Away → ℕ
longest_idle v [] = 0
longest_idle v (c ∷ away) =
    if c.before == v then max c.idle (longest_idle v away) else longest_idle v away

-- the number of the change after version v, how many of them are away by it, and the longest that
-- one of these was idle
abbrev pub open_end : List Away → ℕ → OpenEnd
open_end away v = record {
  change = suc v;
  connections = away_count v away;
  longest_idle = longest_idle v away;
}

-- the same, if there are such
abbrev pub open_end_if_any : OpenEnd → List OpenEnd
open_end_if_any x = if nat_lt 0 x.connections then x ∷ [] else []

-- for each of the first n changes by which some are away
abbrev pub open_ends_by : List Away → ℕ → List OpenEnd
open_ends_by away zero = []
open_ends_by away (suc v) = open_ends_by away v ++ open_end_if_any (open_end away v)

-- for each change of the plan
abbrev pub open_ends : Stage → List Connection → List OpenEnd
open_ends stage table =
    open_ends_by (those_away stage table) (length stage.script.plan.changes)

-- how many connections are left open and away
abbrev pub open_count : Stage → List Connection → ℕ
open_count stage table = length (those_away stage table)

-- LINES

abbrev pub open_end_line : OpenEnd → List ℕ
open_end_line x =
    line (codes "open-at-end")
    (codes "change" ∷ decimal x.change ∷ codes "connections" ∷ decimal x.connections
    ∷ codes "longest-idle" ∷ seconds_text x.longest_idle ∷ [])
