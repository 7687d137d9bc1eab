-- What the code keeps of shards while it goes through events, and how an event changes one.
use Rattle.std.specs.Prelude.{◌≡◌, ℕ, suc, ◌-◌, ◌<◌, ◌^◌, max, Bool, false, not}
use Rattle.std.specs.Prelude.{if◌then◌else◌, List, length, Option, Some, None, is_some}
use Rattle.std.specs.BTreeMap as tree
use Rattle.bm_base.specs.declared.flow.Flow.{Flow}
use Rattle.bm_base.specs.declared.flow.Segment.{Segment}
use Rattle.bm_base.specs.declared.ids.ServerId.{ServerId}
use Rattle.bm_base.specs.declared.receive.Taken.TheVariants.{Ended}
use Rattle.bm_core.specs.declared.events.Event.{Event}
use Rattle.bm_core.specs.declared.events.Stage.{Stage}
use Rattle.bm_core.specs.declared.events.Verdict.{Verdict}
use Rattle.bm_core.specs.declared.events.Verdict.TheVariants.{Accept, Process}
use Rattle.bm_core.specs.declared.events.What.{What}
use Rattle.bm_core.specs.declared.events.What.TheVariants.{Arrive, Close, Retire}
use Rattle.bm_core.specs.Past.{flows_held, held, is_done, segment_of, shard}
use Rattle.bm_state.specs.contracts.shard_key.ShardKeyOrd.TheImpl as key_order
use Rattle.bm_state.specs.declared.shard_key.ShardKey.{ShardKey}
use Rattle.bm_state.specs.Holders.{KeepsHolders}
use Rattle.bm_state.specs.ShardKeys.{key_at}
use Rattle.bm_connections.specs.declared.held.HeldByShards.{HeldByShards}
use Rattle.bm_connections.specs.declared.held.ShardCount.{ShardCount}
use Rattle.bm_connections.specs.declared.held.ShardCounts.{ShardCounts}
use Rattle.bm_connections.specs.declared.held.FlowChange.{FlowChange}
use Rattle.bm_connections.specs.declared.held.FlowChange.TheVariants.{Opens, Ends, Empties}
use Rattle.bm_connections.specs.declared.held.ShardChange.{ShardChange}
use Rattle.bm_connections.specs.Connections.{one_more}
use Rattle.bm_connections.specs.Counts.{most_in_shard}

-- the server of the shard
abbrev pub server_of : ShardKey → ServerId
server_of key = record { 0 = key.server }

-- CHANGES

-- how a verdict on a segment of the flow changes the flow's shard
abbrev pub verdict_change : Verdict → Flow → Option FlowChange
verdict_change Accept f = Some (Opens f)
verdict_change (Process Ended) f = Some (Ends f)
verdict_change _ f = None

-- this change of this shard of the server
abbrev pub change_at : ServerId → ℕ → Option FlowChange → Option ShardChange
change_at s h None = None
change_at s h (Some flow_change) =
    Some (record { key = key_at s h; flow_change = flow_change })

-- how the arrival of a segment changes a shard of the server
abbrev pub arrival_change : Stage → ServerId → Verdict → Option Segment → Option ShardChange
arrival_change stage s verdict None = None
arrival_change stage s verdict (Some seg) =
    change_at s (shard stage seg.flow) (verdict_change verdict seg.flow)

-- the change of a shard by the event, if there is one
abbrev pub change_of : Stage → What → Option ShardChange
change_of stage (Arrive k hop server verdict) =
    arrival_change stage server verdict (segment_of stage k)
change_of stage (Close server flow closed) =
    change_at server (shard stage flow) (if closed then Some (Ends flow) else None)
change_of stage (Retire server h at result) =
    change_at server h (if is_done result then Some Empties else None)
change_of stage _ = None

-- the server holds the flow that is opened or ended
abbrev pub holds : Stage → List Event → ServerId → FlowChange → Bool
holds stage past s (Opens f) = is_some (held stage past s f)
holds stage past s (Ends f) = is_some (held stage past s f)
holds stage past s Empties = false

-- the shard's server holds the flow of the change
abbrev pub is_held : Stage → List Event → ShardChange → Bool
is_held stage past t = holds stage past (server_of t.key) t.flow_change

-- how many flows a shard of n flows holds after this change of a flow that it held before, or didn't
abbrev pub number_by : FlowChange → Bool → ℕ → ℕ
number_by (Opens f) was_held n = one_more (not was_held) n
number_by (Ends f) was_held n = n - (if was_held then 1 else 0)
number_by Empties was_held n = 0

-- the shard's count after that
abbrev pub changed : FlowChange → Bool → ShardCount → ShardCount
changed flow_change was_held c = record {
  held = number_by flow_change was_held c.held;
  most = max (number_by flow_change was_held c.held) c.most;
}

-- WHAT IS KEPT

-- the count; zeros, if none is kept
abbrev pub count_or_none : Option ShardCount → ShardCount
count_or_none None = record { held = 0; most = 0 }
count_or_none (Some c) = c

-- the count can take one more
abbrev pub CanCount : ShardCount → Type 0
CanCount c = suc c.held < 2 ^ 64

-- each shard's count can take one more
abbrev pub HaveRoom : (ShardKey → Option ShardCount) → Type 0
HaveRoom counts = (key : ShardKey) → CanCount (count_or_none (counts key))

-- the count of the shard, if one is kept
abbrev pub count : ShardCounts → ShardKey → Option ShardCount
count counts key = tree.get (key_order.ghosts).cmp counts.counts key

-- how many connections the shard holds after these events, and the most that it held at once
abbrev pub count_after : Stage → List Event → ShardKey → ShardCount
count_after stage past key = record {
  held = length (flows_held stage past (server_of key) key.shard);
  most = most_in_shard stage past (server_of key) key.shard;
}

-- these are the counts of all shards after these events
pub record AreCounts (stage : Stage) (past : List Event)
    (counts : ShardKey → Option ShardCount) : Type 0 where
  pub each : (key : ShardKey) → count_or_none (counts key) ≡ count_after stage past key

-- this is kept after these events
pub record AreHeldByShards (stage : Stage) (past : List Event) (h : HeldByShards) : Type 0 where
  pub holders : KeepsHolders stage past h.holders
  pub counts : AreCounts stage past (count h.counts)
