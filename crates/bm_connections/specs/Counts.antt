-- What became of packets by server and by cause, computed by looking back through events
-- (docs/DEFINITIONS.md). A past has its newest event first.
use Rattle.std.specs.Prelude.{ℕ, zero, suc, max, Bool, false, ◌&&◌, ◌==◌, nat_lt, List, [], ◌∷◌}
use Rattle.std.specs.Prelude.{length, Option, Some, None, filter, map, reverse, count_by}
use Rattle.bm_base.specs.declared.ids.ServerId.{ServerId}
use Rattle.bm_core.specs.declared.events.Cause.{Cause}
use Rattle.bm_core.specs.declared.events.Cause.TheVariants.{NeverAccepted, NotHeld, StaleMux}
use Rattle.bm_core.specs.declared.events.Cause.TheVariants.{MovedThrice, ChainLate, SynElsewhere}
use Rattle.bm_core.specs.declared.events.Cause.TheVariants.{Full, OldTable}
use Rattle.bm_core.specs.declared.events.Event.{Event}
use Rattle.bm_core.specs.declared.events.History.{History}
use Rattle.bm_core.specs.declared.events.Stage.{Stage}
use Rattle.bm_core.specs.declared.events.Verdict.{Verdict}
use Rattle.bm_core.specs.declared.events.What.{What}
use Rattle.bm_core.specs.declared.events.What.TheVariants.{Arrive}
use Rattle.bm_core.specs.Causes.{is_process}
use Rattle.bm_core.specs.Past.{flows_held, is_accept}
use Rattle.bm_table.specs.Tables.{same_server}
use Rattle.bm_trace.specs.Totals.{arrives}
use Rattle.bm_connections.specs.declared.connection.Break.{Break}
use Rattle.bm_connections.specs.declared.counts.CauseCount.{CauseCount}
use Rattle.bm_connections.specs.declared.servers.ServerCount.{ServerCount}
use Rattle.bm_connections.specs.Connections.{connections, counted_cause, one_more}
use Rattle.bm_connections.specs.Text.{shown_rack}

-- SERVERS

-- the event is an arrival at the server
abbrev pub is_arrival_at : ServerId → What → Bool
is_arrival_at s (Arrive k hop server verdict) = same_server server s
is_arrival_at s _ = false

-- how many arrivals at the server have a verdict of this kind
abbrev pub arrivals_at : ServerId → (Verdict → Bool) → List Event → ℕ
arrivals_at s kind [] = 0
arrivals_at s kind (e ∷ past) =
    one_more (is_arrival_at s e.what && arrives kind e.what) (arrivals_at s kind past)

-- the most connections that a shard of the server held at once
abbrev pub most_in_shard : Stage → List Event → ServerId → ℕ → ℕ
most_in_shard stage [] s h = 0
most_in_shard stage (e ∷ past) s h =
    max (length (flows_held stage (e ∷ past) s h)) (most_in_shard stage past s h)

-- the most that one of the server's first n shards held at once
abbrev pub most_among : Stage → List Event → ServerId → ℕ → ℕ
most_among stage past s zero = 0
most_among stage past s (suc h) = max (most_in_shard stage past s h) (most_among stage past s h)

-- the rack of a server, if there is more than one, how many arrivals it accepted, how many it
-- processed, the most connections that one of its shards held at once, and how many a shard can hold
abbrev pub server_count : Stage → List Event → ServerId → ServerCount
server_count stage past s = record {
  server = s;
  rack = shown_rack stage.script.setting.racks (Some s);
  accepted = arrivals_at s is_accept past;
  processed = arrivals_at s is_process past;
  most_held = most_among stage past s stage.script.setting.shards;
  capacity = stage.script.setting.capacity;
}

-- the counts of these servers
abbrev pub server_counts : History → List ServerId → List ServerCount
server_counts h servers = map (server_count h.stage (reverse h.events)) servers

-- CAUSES

-- a number for each cause, to compare causes by
abbrev pub number : Cause → ℕ
number NeverAccepted = 0
number NotHeld = 1
number StaleMux = 2
number MovedThrice = 3
number ChainLate = 4
number SynElsewhere = 5
number Full = 6
number OldTable = 7

-- there is a cause, and it is this one
abbrev pub is_cause : Cause → Option Cause → Bool
is_cause c None = false
is_cause c (Some found) = number found == number c

-- how many packets have the cause; a packet counts at each arrival with it that counts as a break
abbrev pub packets_by : Stage → Cause → List Event → ℕ
packets_by stage c [] = 0
packets_by stage c (e ∷ past) =
    one_more (is_cause c (counted_cause stage past e)) (packets_by stage c past)

-- there is a break or a refusal, and it has the cause
abbrev pub is_break_by : Cause → Option Break → Bool
is_break_by c None = false
is_break_by c (Some b) = is_cause c b.cause

-- how many packets have the cause, and how many connections it broke first, or refused
abbrev pub cause_count : History → Cause → CauseCount
cause_count h c = record {
  cause = c;
  packets = packets_by h.stage c (reverse h.events);
  broken = count_by (λ x. is_break_by c x.broken) (connections h);
  refused = count_by (λ x. is_break_by c x.refused) (connections h);
}

abbrev pub all_causes : List Cause
all_causes =
    NeverAccepted ∷ NotHeld ∷ StaleMux ∷ MovedThrice ∷ ChainLate ∷ SynElsewhere ∷ Full ∷ OldTable
    ∷ []

abbrev pub occurs : CauseCount → Bool
occurs c = nat_lt 0 c.packets

-- the counts of the causes that occur
abbrev pub causes_in : History → List CauseCount
causes_in h = filter occurs (map (cause_count h) all_causes)
