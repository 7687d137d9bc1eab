-- What the code keeps of servers while it goes through events.
use Rattle.std.specs.Prelude.{◌≡◌, suc, ◌<◌, ◌^◌, List, Option, Some, None}
use Rattle.std.specs.BTreeMap as tree
use Rattle.bm_base.specs.contracts.ids.ServerIdOrd.TheImpl as server_order
use Rattle.bm_base.specs.declared.ids.ServerId.{ServerId}
use Rattle.bm_core.specs.declared.events.Event.{Event}
use Rattle.bm_core.specs.declared.events.Verdict.{Verdict}
use Rattle.bm_core.specs.Causes.{is_process}
use Rattle.bm_core.specs.Past.{is_accept}
use Rattle.bm_connections.specs.declared.servers.Loads.{Loads}
use Rattle.bm_connections.specs.declared.servers.Served.{Served}
use Rattle.bm_connections.specs.Connections.{one_more}
use Rattle.bm_connections.specs.Counts.{arrivals_at}

-- how many arrivals a server accepted, and how many it processed
abbrev pub served : List Event → ServerId → Served
served past s = record {
  server = s;
  accepted = arrivals_at s is_accept past;
  processed = arrivals_at s is_process past;
}

-- the counts of a server; zeros, if none are kept
abbrev pub count_or_none : Option Served → ServerId → Served
count_or_none None s = record { server = s; accepted = 0; processed = 0 }
count_or_none (Some c) s = c

-- the counts after an arrival with this verdict
abbrev pub counted : Verdict → Served → Served
counted verdict c = record {
  server = c.server;
  accepted = one_more (is_accept verdict) c.accepted;
  processed = one_more (is_process verdict) c.processed;
}

-- each count can take one more
pub record CanCount (c : Served) : Type 0 where
  pub accepted : suc c.accepted < 2 ^ 64
  pub processed : suc c.processed < 2 ^ 64

-- each count of each server can take one more
abbrev pub HaveRoom : (ServerId → Option Served) → Type 0
HaveRoom loads = (s : ServerId) → CanCount (count_or_none (loads s) s)

-- the counts of each server, if any are kept
abbrev pub load : Loads → ServerId → Option Served
load loads s = tree.get (server_order.ghosts).cmp loads.counts s

-- these are the counts of all servers after these events
pub record AreLoads (past : List Event) (loads : ServerId → Option Served) : Type 0 where
  pub each : (s : ServerId) → count_or_none (loads s) s ≡ served past s
