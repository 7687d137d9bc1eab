-- What follows from a list of events, looking back through it: versions, labels, sendings, what a
-- server holds, and who owns a flow (docs/DEFINITIONS.md). A past has its newest event first.
use Rattle.std.specs.Prelude.{ℕ, zero, suc, Bool, true, false, ◌&&◌, ◌||◌, not, ◌==◌, if◌then◌else◌}
use Rattle.std.specs.Prelude.{List, [], ◌∷◌, length, Option, Some, None, slice_get, option_map}
use Rattle.std.specs.Option.{option_map_or}
use Rattle.std.specs.Prelude.{filter}
use Rattle.bm_base.specs.declared.ids.ServerId.{ServerId}
use Rattle.bm_base.specs.declared.ids.MuxId.{MuxId}
use Rattle.bm_base.specs.declared.ids.Version.{Version}
use Rattle.bm_base.specs.declared.flow.Flow.{Flow}
use Rattle.bm_base.specs.declared.flow.Segment.{Segment}
use Rattle.bm_seq.specs.declared.receiver.Receiver.{Receiver}
use Rattle.bm_base.specs.declared.label.Label.{Label}
use Rattle.bm_base.specs.declared.label.Hop.{Hop}
use Rattle.bm_base.specs.declared.label.Hop.TheVariants.{Direct}
use Rattle.bm_base.specs.declared.receive.Taken.TheVariants.{Ended}
use Rattle.bm_table.specs.declared.plan.Retirement.{Retirement}
use Rattle.bm_table.specs.declared.plan.Retirement.TheVariants.{Done}
use Rattle.bm_core.specs.declared.events.Verdict.{Verdict}
use Rattle.bm_core.specs.declared.events.Verdict.TheVariants.{Accept, Process, Forward}
use Rattle.bm_core.specs.declared.events.What.{What}
use Rattle.bm_core.specs.declared.events.What.TheVariants.{Publish, Switch, Steer, Arrive, Close}
use Rattle.bm_core.specs.declared.events.What.TheVariants.{Retire}
use Rattle.bm_core.specs.declared.events.Event.{Event}
use Rattle.bm_core.specs.declared.events.Stage.{Stage}
use Rattle.bm_table.specs.Tables.{table, same_server}
use Rattle.bm_base.specs.Segments.{same_flow}
use Rattle.bm_hash.specs.Buckets.{bucket_of, shard_of}
use Rattle.bm_seq.specs.Receivers.{opened, receiver_after}
pub use Rattle.bm_base.specs.Captures.{steerable}
pub use Rattle.bm_base.specs.Labels.{same_hop, hop_after}

-- the segment of packet k, which is the record of that number, counted from 1
abbrev pub segment_of : Stage → ℕ → Option Segment
segment_of stage zero = None
segment_of stage (suc i) = steerable (slice_get stage.capture.records i)

-- the segment is of the flow
abbrev pub is_of : Option Segment → Flow → Bool
is_of segment f = option_map_or (λ s. same_flow s.flow f) segment false

-- the bucket of a flow
abbrev pub bucket : Stage → Flow → ℕ
bucket stage f = bucket_of stage.script.setting.buckets f

-- the shard of a flow, at each server
abbrev pub shard : Stage → Flow → ℕ
shard stage f = shard_of stage.script.setting.shards f

-- how long after a move packets are passed on, in nanoseconds
abbrev pub timeout : Stage → ℕ
timeout stage = stage.script.setting.timeout

-- VERSIONS

-- the newest published version after the event
abbrev pub published_by : What → ℕ → ℕ
published_by (Publish v) before = v.0
published_by _ before = before

-- the newest published version
abbrev pub newest : List Event → ℕ
newest [] = 0
newest (e ∷ past) = published_by e.what (newest past)

-- the event is a Switch of the mux
abbrev pub is_switch_of : What → ℕ → Bool
is_switch_of (Switch m v) n = m.0 == n
is_switch_of _ n = false

-- the mux's version after the event
abbrev pub switched : What → MuxId → Version → Version
switched (Switch mux v) m before = if mux.0 == m.0 then v else before
switched _ m before = before

-- the version of the mux's last Switch
abbrev pub version_at : List Event → MuxId → Version
version_at [] m = record { 0 = 0 }
version_at (e ∷ past) m = switched e.what m (version_at past m)

-- the label that the mux then writes on a packet
abbrev pub labelled : Stage → List Event → MuxId → Option Segment → Option Label
labelled stage past m None = None
labelled stage past m (Some s) = Some (record {
  mux = m;
  version = version_at past m;
  entry = table stage.script.plan (version_at past m).0 (bucket stage s.flow);
})

-- the packet's label after the event
abbrev pub label_after : Stage → List Event → What → ℕ → Option Label → Option Label
label_after stage past (Steer packet m) k before =
    if packet == k then labelled stage past m (segment_of stage k) else before
label_after stage past _ k before = before

-- the label that packet k got at its Steer
abbrev pub label_of : Stage → List Event → ℕ → Option Label
label_of stage [] k = None
label_of stage (e ∷ past) k = label_after stage past e.what k (label_of stage past k)

-- the version in the label
abbrev pub version_of : Option Label → ℕ
version_of label = option_map_or (λ l. l.version.0) label 0

-- SENDINGS

-- the verdict is Forward
abbrev pub is_forward : Verdict → Bool
is_forward (Forward s) = true
is_forward _ = false

-- the hop is the direct one
abbrev pub is_direct : Hop → Bool
is_direct Direct = true
is_direct _ = false

-- a packet that is sent, and the hop that its copies make
pub record Sending : Type 0 where
  pub packet : ℕ
  pub hop : Hop

-- what the event sends: a Steer sends direct copies, a Forward those of the next hop
abbrev pub sending_of : What → Option Sending
sending_of (Steer packet m) = Some (record { packet = packet; hop = Direct })
sending_of (Arrive packet hop server (Forward to)) =
    option_map (λ next. record { packet = packet; hop = next }) (hop_after hop)
sending_of _ = None

-- there is a sending, of the packet with this hop
abbrev pub is_sending : Option Sending → ℕ → Hop → Bool
is_sending None k hop = false
is_sending (Some s) k hop = s.packet == k && same_hop s.hop hop

-- the event sends copies of the packet that make this hop
abbrev pub sends : What → ℕ → Hop → Bool
sends what k hop = is_sending (sending_of what) k hop

-- copies of the packet that make this hop were sent
abbrev pub is_sent : List Event → ℕ → Hop → Bool
is_sent [] k hop = false
is_sent (e ∷ past) k hop = sends e.what k hop || is_sent past k hop

-- the same, by a sending at this clock
abbrev pub is_sent_at : List Event → ℕ → Hop → ℕ → Bool
is_sent_at [] k hop clock = false
is_sent_at (e ∷ past) k hop clock =
    sends e.what k hop && e.clock.0 == clock || is_sent_at past k hop clock

-- HELD FLOWS: a server holds a flow from an Accept of it until a segment ends the connection
-- (`Process Ended`), a Close closes it, or its shard retires. A second Accept replaces what is
-- held.

-- a connection that a server holds: the place of its Accept, and its receiver
pub record Holding : Type 0 where
  pub place : ℕ
  pub receiver : Receiver

-- what a server holds of a flow after a segment of it had this verdict
abbrev pub after_verdict : ℕ → Verdict → Segment → Option Holding → Option Holding
after_verdict place Accept s before = Some (record { place = place; receiver = opened s })
after_verdict place (Process Ended) s before = None
after_verdict place (Process t) s before =
    option_map (λ h. record { place = h.place; receiver = receiver_after h.receiver s }) before
after_verdict place _ s before = before

-- what a server holds of a flow after an arrival, here or elsewhere
abbrev pub after_arrival : ℕ → Bool → Verdict → Option Segment → Flow → Option Holding
    → Option Holding
after_arrival place here verdict None f before = before
after_arrival place here verdict (Some s) f before =
    if here && same_flow s.flow f then after_verdict place verdict s before else before

-- the answer is Done
abbrev pub is_done : Retirement → Bool
is_done Done = true
is_done _ = false

-- the event retires the shard
abbrev pub retires : What → ServerId → ℕ → Bool
retires (Retire server h at result) s shard = same_server server s && h == shard && is_done result
retires _ s shard = false

-- the shard is retired
abbrev pub retired : List Event → ServerId → ℕ → Bool
retired [] s shard = false
retired (e ∷ past) s shard = retires e.what s shard || retired past s shard

-- what the server holds of the flow after the event at this place
abbrev pub held_after : Stage → ℕ → What → ServerId → Flow → Option Holding → Option Holding
held_after stage place (Arrive k hop server verdict) s f before =
    after_arrival place (same_server server s) verdict (segment_of stage k) f before
held_after stage place (Close server flow closed) s f before =
    if same_server server s && same_flow flow f && closed then None else before
held_after stage place (Retire server h at result) s f before =
    if same_server server s && h == shard stage f && is_done result then None else before
held_after stage place _ s f before = before

-- the connection that the server holds of the flow, if it holds one
abbrev pub held : Stage → List Event → ServerId → Flow → Option Holding
held stage [] s f = None
held stage (e ∷ past) s f = held_after stage (length past) e.what s f (held stage past s f)

-- the flows without this one
abbrev pub without : Flow → List Flow → List Flow
without f flows = filter (λ g. not (same_flow f g)) flows

-- the verdict ends the connection
abbrev pub ends : Verdict → Bool
ends (Process Ended) = true
ends _ = false

-- the verdict is Accept
abbrev pub is_accept : Verdict → Bool
is_accept Accept = true
is_accept _ = false

-- the flows of a shard that a server holds after an arrival, here or elsewhere
abbrev pub flows_arrived : Stage → ℕ → Bool → Verdict → Option Segment → List Flow → List Flow
flows_arrived stage h here verdict None flows = flows
flows_arrived stage h here verdict (Some s) flows =
    if here && shard stage s.flow == h
    then (if is_accept verdict then s.flow ∷ without s.flow flows
    else if ends verdict then without s.flow flows else flows)
    else flows

-- the flows of a shard that a server holds after the event
abbrev pub flows_after : Stage → What → ServerId → ℕ → List Flow → List Flow
flows_after stage (Arrive k hop server verdict) s h flows =
    flows_arrived stage h (same_server server s) verdict (segment_of stage k) flows
flows_after stage (Close server flow closed) s h flows =
    if same_server server s && shard stage flow == h && closed then without flow flows else flows
flows_after stage (Retire server shard at result) s h flows =
    if same_server server s && shard == h && is_done result then [] else flows
flows_after stage _ s h flows = flows

-- the flows of the shard that the server holds, as a list, since a capacity counts them. A flow of
-- the shard is in it, and once, exactly if `held` has a connection of it (`laws::held_flows`).
abbrev pub flows_held : Stage → List Event → ServerId → ℕ → List Flow
flows_held stage [] s h = []
flows_held stage (e ∷ past) s h = flows_after stage e.what s h (flows_held stage past s h)

-- the shard holds as many flows as its capacity
abbrev pub is_full : Stage → List Event → ServerId → ℕ → Bool
is_full stage past s h = length (flows_held stage past s h) == stage.script.setting.capacity

-- OWNERS

-- an Accept: its server, the version that steered its packet, and its place
pub record Accepted : Type 0 where
  pub server : ServerId
  pub version : ℕ
  pub place : ℕ

-- an Accept of a packet with this label, after these events
abbrev pub accepted : ServerId → Option Label → List Event → Accepted
accepted s label past = record { server = s; version = version_of label; place = length past }

-- the last Accept of the flow after the event
abbrev pub accept_after : Stage → List Event → What → Flow → Option Accepted → Option Accepted
accept_after stage past (Arrive k hop server verdict) f before =
    if is_accept verdict && is_of (segment_of stage k) f
    then Some (accepted server (label_of stage past k) past) else before
accept_after stage past _ f before = before

-- the last Accept of the flow
abbrev pub accept_of : Stage → List Event → Flow → Option Accepted
accept_of stage [] f = None
accept_of stage (e ∷ past) f = accept_after stage past e.what f (accept_of stage past f)

-- the last Accept of the segment's flow
abbrev pub accept_before : Stage → List Event → Option Segment → Option Accepted
accept_before stage past segment = option_map_or (λ s. accept_of stage past s.flow) segment None

-- the packet's owner after the event
abbrev pub owner_after : Stage → List Event → What → ℕ → Option Accepted → Option Accepted
owner_after stage past (Steer packet m) k before =
    if packet == k then accept_before stage past (segment_of stage k) else before
owner_after stage past _ k before = before

-- the last Accept of packet k's flow before its Steer
abbrev pub owner : Stage → List Event → ℕ → Option Accepted
owner stage [] k = None
owner stage (e ∷ past) k = owner_after stage past e.what k (owner stage past k)
