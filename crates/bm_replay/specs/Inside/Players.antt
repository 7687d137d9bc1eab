-- The state of a replay in progress, and what each step does to it.
use Rattle.std.specs.Prelude.{◌≡◌, ◌≢◌, ℕ, suc, ◌+◌, ◌-◌, ◌*◌, ◌^◌, ◌<◌, ◌≤◌, ◌==◌, true, All}
use Rattle.std.specs.Prelude.{if◌then◌else◌, List, [], ◌∷◌, ◌++◌, length, Option, Some, None}
use Rattle.std.specs.Prelude.{Bool, ◌&&◌, nat_le, not, is_some, slice_get, slice_index_or}
use Rattle.bm_base.specs.declared.ids.Moment.{Moment}
use Rattle.bm_base.specs.declared.ids.MuxId.{MuxId}
use Rattle.bm_base.specs.declared.ids.ServerId.{ServerId}
use Rattle.bm_base.specs.declared.flow.Flow.{Flow}
use Rattle.bm_base.specs.declared.flow.Segment.{Segment}
use Rattle.bm_base.specs.declared.label.Hop.TheVariants.{Direct}
use Rattle.bm_base.specs.declared.label.Label.{Label}
use Rattle.bm_base.specs.declared.label.Tag.{Tag}
use Rattle.bm_base.specs.declared.fate.Fate.{Fate}
use Rattle.bm_base.specs.Labels.{tag_of}
use Rattle.bm_base.specs.Inside.Labels.{later_hop}
use Rattle.bm_encap.specs.Inside.Spellings.{FitsFields}
use Rattle.bm_base.specs.Pieces.{cleared as cleared_first}
use Rattle.bm_base.specs.Tags.{IsTag}
use Rattle.bm_base.specs.declared.capture.Body.TheVariants.{Steerable}
use Rattle.bm_fault.specs.declared.wire.Flight.{Flight}
use Rattle.bm_fault.specs.Wires.{first_due, first_flight, others}
use Rattle.bm_table.specs.declared.plan.Change.{Change}
use Rattle.bm_table.specs.declared.plan.Retirement.{Retirement}
use Rattle.bm_table.specs.Plans.{IsPlan}
use Rattle.bm_table.specs.Settings.{IsWithin}
use Rattle.bm_table.specs.Tables.{change_moment, next_change, IsRetirement}
use Rattle.bm_core.specs.declared.events.Verdict.{Verdict}
use Rattle.bm_core.specs.declared.events.Verdict.TheVariants.{Forward}
use Rattle.bm_core.specs.declared.events.What.{What}
use Rattle.bm_core.specs.declared.events.What.TheVariants.{Publish, Switch, Steer, Lose, Arrive}
use Rattle.bm_core.specs.declared.events.What.TheVariants.{Close, Retire, Sync}
use Rattle.bm_core.specs.declared.events.Stage.{Stage}
use Rattle.bm_core.specs.declared.schedule.Call.{Call}
use Rattle.bm_core.specs.declared.schedule.Call.TheVariants.{Publishes, Steers}
use Rattle.bm_core.specs.declared.schedule.Due.{Due}
use Rattle.bm_core.specs.Accounts.{Routes, Rules}
use Rattle.bm_core.specs.Past.{bucket, segment_of, shard}
use Rattle.bm_core.specs.Schedule.{least}
use Rattle.bm_core.specs.Soon.{IsSoon}
use Rattle.bm_replay.specs.declared.mux.Mux.{Mux}
use Rattle.bm_replay.specs.declared.player.Loss.{Loss}
use Rattle.bm_replay.specs.declared.player.Player.{Player}
use Rattle.bm_replay.specs.declared.player.Room.{Room}
use Rattle.bm_replay.specs.declared.queue.Queue.{Queue}
use Rattle.bm_replay.specs.declared.coming.Coming.{Coming}
use Rattle.bm_link.specs.Fits.{ArePackets, IsPacketOf}
use Rattle.bm_shard.specs.declared.calls.ShardCall.{ShardCall}
use Rattle.bm_shard.specs.declared.calls.ShardCall.TheVariants.{Close as AsksClose}
use Rattle.bm_shard.specs.declared.calls.ShardCall.TheVariants.{Retire as AsksRetire}
use Rattle.bm_replay.specs.Inside.Muxes.{HasTable, IsMoved, IsWritten, switches_of}
use Rattle.bm_replay.specs.Inside.Flights.{copies_put}
use Rattle.bm_replay.specs.Inside.Packets.{HoldsPackets}
use Rattle.bm_replay.specs.Inside.Queues.{IsBehind, IsHead, closes_from, packets_after}
use Rattle.bm_replay.specs.Inside.Queues.{retires_after}
use Rattle.bm_replay.specs.Inside.Queues.{retires_from, syncs_from}
use Rattle.bm_shard.specs.States.{State}
use Rattle.bm_replay.specs.Inside.Shards.{all_shards, arrival, before, holds, place_of, state_at}
use Rattle.bm_replay.specs.Inside.Shards.{verdict_in, what_at, IsAbout, IsCalled, IsReady}
use Rattle.bm_replay.specs.Inside.Comings.{first_coming, sooner_of}

-- the soonest switch of these muxes
abbrev pub switch_for : Stage → List Mux → Option Due
switch_for stage muxes =
    least (switches_of stage.script.plan stage.script.setting.lags stage.script.setting.muxes muxes
    stage.script.setting.muxes)

-- no events, and muxes and shards as they are at first
pub record HasRoom (stage : Stage) (room : Room) : Type 0 where
  pub events : room.events ≡ []
  pub muxes : length room.muxes ≡ stage.script.setting.muxes
  pub tables : (m : ℕ) → m < stage.script.setting.muxes
      → HasTable stage.script.plan 0 (slice_get room.muxes m)
  pub shards : room.shards ≡ all_shards stage.script.setting 1025

-- nothing has happened yet
pub record IsNew (stage : Stage) (p : Player) : Type 0 where
  pub about : p.stage ≡ stage
  pub plan : IsPlan stage.script.plan
  pub events : p.events ≡ []
  pub clock : p.clock.0 ≡ 0
  pub loss : p.loss ≡ None
  pub wire : p.wire ≡ []
  pub published : p.published ≡ 0
  pub muxes : length p.muxes ≡ stage.script.setting.muxes
  pub tables : (m : ℕ) → m < stage.script.setting.muxes
      → HasTable stage.script.plan 0 (slice_get p.muxes m)
  pub switch : p.switch ≡ switch_for stage p.muxes
  pub close : IsHead (closes_from stage.script.commands 0)
      (closes_from stage.script.commands p.close.next) p.close.head
  pub retire : IsHead (retires_from stage.script.setting.shards stage.script.commands 0)
      (retires_after stage.script.setting.shards stage.script.commands p.retire) p.retire.head
  pub sync : IsHead (syncs_from stage.script.commands 0)
      (syncs_from stage.script.commands p.sync.next) p.sync.head
  pub packet : IsHead (packets_after stage.capture.records 0)
      (packets_after stage.capture.records p.packet.next) p.packet.head
  pub shards : p.shards ≡ all_shards stage.script.setting 1025
  pub behind : IsBehind 0 p.packet.next p.packet.head
  pub within : p.packet.next ≤ length stage.capture.records
  pub cleared : p.cleared ≡ 0
  pub packets : ArePackets stage.capture.records p.packets

-- WHAT COMES NEXT

-- the publication of a change, which leads from version v to the next
abbrev pub publish_after : ℕ → Option Change → Option Due
publish_after v None = None
publish_after v (Some c) =
    Some (record { moment = c.moment.0; number = v; call = Publishes (suc v) })

-- the soonest of the changes and commands
abbrev pub soonest_command : Player → Option Due
soonest_command p =
    sooner_of
    (sooner_of
    (sooner_of
    (sooner_of (publish_after p.published (next_change p.stage.script.plan p.published))
    p.switch) p.close.head) p.retire.head) p.sync.head

abbrev pub coming_for : Player → Coming
coming_for p = first_coming (soonest_command p) (first_due p.wire) p.packet.head

-- STEPS

-- the player after one more event, at this clock
abbrev pub happened : Moment → What → Player → Player
happened clock what p =
    record p { events = p.events ++ record { clock = clock; what = what } ∷ []; clock = clock }

-- the version was published
abbrev pub after_publish : Moment → ℕ → Player → Player
after_publish clock v p = happened clock (Publish (record { 0 = v })) (record p { published = v })

-- the mux switched to the version
pub record HasSwitched (clock : Moment) (m v : ℕ) (p q : Player) : Type 0 where
  pub change : Change
  pub is_change : next_change p.stage.script.plan (v - 1) ≡ Some change
  pub muxes : List Mux
  pub count : length muxes ≡ length p.muxes
  pub others : (n : ℕ) → n ≢ m → slice_get muxes n ≡ slice_get p.muxes n
  pub moved : (x : Mux) → slice_get p.muxes m ≡ Some x → IsMoved change v x (slice_get muxes m)
  pub is : q ≡ happened clock (Switch (record { 0 = m }) (record { 0 = v }))
      (record p { muxes = muxes; switch = switch_for p.stage muxes })

-- the server was asked to close the connection
pub record HasClosed (clock : Moment) (s : ServerId) (f : Flow) (p q : Player) : Type 0 where
  pub queue : Queue
  pub next : IsHead (closes_from p.stage.script.commands p.close.next)
      (closes_from p.stage.script.commands queue.next) queue.head
  pub states : List State
  pub called : IsCalled (place_of p.stage s (shard p.stage f)) (AsksClose f (before clock)) p.shards
      states
  pub is : q ≡ happened clock
      (Close s f (holds (state_at p.shards (place_of p.stage s (shard p.stage f))) f))
      (record p { close = queue; shards = states })

-- the server's shard was asked to retire
pub record HasRetired (clock : Moment) (s : ServerId) (h : ℕ) (at : Moment) (p q : Player) : Type
    0 where
  pub queue : Queue
  pub next : IsHead (retires_after p.stage.script.setting.shards p.stage.script.commands p.retire)
      (retires_after p.stage.script.setting.shards p.stage.script.commands queue) queue.head
  pub result : Retirement
  pub answer : IsRetirement p.stage.script.plan p.stage.script.setting.timeout p.published s at.0
      result
  pub states : List State
  pub called : IsCalled (place_of p.stage s h) (AsksRetire at result) p.shards states
  pub is : q ≡ happened clock (Retire s h at result)
      (record p { retire = queue; shards = states })

-- a phase ended
pub record HasSynced (clock : Moment) (p q : Player) : Type 0 where
  pub queue : Queue
  pub next : IsHead (syncs_from p.stage.script.commands p.sync.next)
      (syncs_from p.stage.script.commands queue.next) queue.head
  pub is : q ≡ happened clock Sync (record p { sync = queue })

-- the loss was recorded
abbrev pub after_loss : Loss → Player → Player
after_loss loss p =
    happened (record { 0 = suc p.clock.0 }) (Lose loss.packet loss.hop) (record p { loss = None })

-- a sending without copies is lost
abbrev pub loss_of : Fate → Flight → Option Loss
loss_of fate flight =
    if fate.copies == 0 then Some (record { packet = flight.packet; hop = flight.tag.hop })
    else None

-- the copies of a sending are under way
abbrev pub sent : Fate → Moment → Flight → Player → Player
sent fate clock flight p = record p {
  wire = copies_put fate.copies
      (record { due = record { 0 = clock.0 + fate.delay }; flight = flight }) p.wire;
  loss = loss_of fate flight;
}

-- the flight was sent, with a fate that the rule may give
pub record HasSent (F : Rules) (clock : Moment) (flight : Flight) (p q : Player) : Type 0 where
  pub fate : Fate
  pub gives : F flight.packet flight.tag.hop fate
  pub soon : IsSoon fate
  pub is : q ≡ sent fate clock flight p

-- the packet was steered, and sent with its tag
pub record HasSteered (R : Routes) (F : Rules) (clock : Moment) (k : ℕ) (p q : Player) : Type
    0 where
  pub segment : Segment
  pub is_segment : segment_of p.stage k ≡ Some segment
  pub mux : MuxId
  pub routed : R k segment.flow mux.0
  pub below : mux.0 < p.stage.script.setting.muxes
  pub label : Label
  pub written : (x : Mux) → slice_get p.muxes mux.0 ≡ Some x
      → IsWritten x mux (bucket p.stage segment.flow) label
  pub tag : Tag
  pub is_tag : tag_of label Direct ≡ Some tag
  pub queue : Queue
  pub next : IsHead (packets_after p.stage.capture.records p.packet.next)
      (packets_after p.stage.capture.records queue.next) queue.head
  pub behind : IsBehind p.packet.next queue.next queue.head
  pub within : queue.next ≤ length p.stage.capture.records
  pub sending : HasSent F clock (record { packet = k; tag = tag })
      (happened clock (Steer k mux) (record p { packet = queue })) q

-- the place of the shard that keeps a flight's flow at its destination
abbrev pub place_for : Player → Flight → Segment → ℕ
place_for p flight s = place_of p.stage flight.tag.dest (shard p.stage s.flow)

-- what happens at a call to the server's shard
abbrev pub what_for : Player → ServerId → ℕ → ShardCall → What
what_for p s h call = what_at s h (state_at p.shards (place_of p.stage s h)) call

-- the call was made to the server's shard, and what happened there is recorded at this clock
pub record HasCalled (clock : Moment) (s : ServerId) (h : ℕ) (call : ShardCall) (p q : Player) :
    Type 0 where
  pub states : List State
  pub called : IsCalled (place_of p.stage s h) call p.shards states
  pub is : q ≡ happened clock (what_for p s h call) (record p { shards = states })

-- the verdict of the shard at the flight's destination
abbrev pub verdict_for : Player → Moment → Flight → Segment → Verdict
verdict_for p clock flight s =
    verdict_in (state_at p.shards (place_for p flight s)) flight s clock

-- the copy arrived, and its verdict left the shards like this
abbrev pub after_arrival : Moment → Flight → Segment → List State → Player → Player
after_arrival clock flight s states p =
    happened clock
    (Arrive flight.packet flight.tag.hop flight.tag.dest (verdict_for p clock flight s))
    (record p { wire = others p.wire; shards = states })

-- a copy of a flight that is passed on to the server
abbrev pub chained : ServerId → Flight → Flight
chained to flight =
    record flight { tag = record flight.tag { hop = later_hop flight.tag.hop; dest = to } }

-- the server to which a verdict passes a copy on
abbrev pub passes_to : Verdict → Option ServerId
passes_to (Forward to) = Some to
passes_to _ = None

-- the server to which an arrival passes a copy on
abbrev pub forwards : What → Option ServerId
forwards (Arrive k hop server verdict) = passes_to verdict
forwards _ = None

-- a copy that is forwarded is sent on
abbrev pub HasGone : Rules → Moment → Flight → Option ServerId → Player → Player → Type 0
HasGone F clock flight (Some to) p q = HasSent F clock (chained to flight) p q
HasGone F clock flight None p q = q ≡ p

-- the first copy arrived, and was sent on if it was forwarded
pub record HasArrived (F : Rules) (clock : Moment) (p q : Player) : Type 0 where
  pub flight : Flight
  pub is_flight : first_flight p.wire ≡ Some flight
  pub segment : Segment
  pub is_segment : segment_of p.stage flight.packet ≡ Some segment
  pub states : List State
  pub called : IsCalled (place_for p flight segment) (arrival flight segment clock) p.shards states
  pub is : HasGone F clock flight (passes_to (verdict_for p clock flight segment))
      (after_arrival clock flight segment states p) q

-- the packets that are still needed are there
abbrev pub KeepsPackets : Player → Type 0
KeepsPackets p = HoldsPackets p.stage.capture.records p.cleared p.packets p.wire p.packet

-- freeing the first `done` packets is worth its time, where the first `cleared` are freed already:
-- there are at least 16,384 more, and no fewer than the packets after them
abbrev pub is_worth : ℕ → ℕ → ℕ → Bool
is_worth done cleared count =
    nat_le 16384 (done - cleared) && nat_le (count - done) (done - cleared)

-- how many packets are before the one that is steered next, if one is
abbrev pub before_call : Call → Option ℕ
before_call (Steers k) = Some (k - 1)
before_call _ = None

abbrev pub before_head : Option Due → Option ℕ
before_head None = None
before_head (Some d) = before_call d.call

-- this many, if no copy is under way and freeing them is worth its time
abbrev pub worth_of : Player → Option ℕ → Option ℕ
worth_of p None = None
worth_of p (Some done) =
    if is_worth done p.cleared (length p.packets) && not (is_some (first_due p.wire)) then Some done
    else None

-- how many packets at the front are freed
abbrev pub done_for : Player → Option ℕ
done_for p = worth_of p (before_head p.packet.head)

-- this many packets at the front were freed
abbrev pub let_go_first : Option ℕ → Player → Player
let_go_first None p = p
let_go_first (Some done) p = record p { packets = cleared_first done p.packets; cleared = done }

-- packets that are no longer needed were freed, or none
pub record HasLetGo (p q : Player) : Type 0 where
  pub gone : q ≡ let_go_first (done_for p) p
  pub packets : List (List ℕ)
  pub cleared : ℕ
  pub holds : HoldsPackets p.stage.capture.records cleared packets p.wire p.packet
  pub is : q ≡ record p { packets = packets; cleared = cleared }

-- WHAT THE STEPS NEED

-- the shards of each server are there, and their clocks are low
pub record HasPlaces (p : Player) : Type 0 where
  pub shards : IsWithin 1 64 p.stage.script.setting.shards
  pub about : (s : ServerId) (h : ℕ) → s.0 ≤ 1024 → h < p.stage.script.setting.shards
      → IsAbout s h (state_at p.shards (place_of p.stage s h))
  pub ready : (s : ServerId) (h : ℕ) → s.0 ≤ 1024 → h < p.stage.script.setting.shards
      → IsReady (place_of p.stage s h) p.shards

-- what finding the soonest switch needs
pub record HasLags (stage : Stage) : Type 0 where
  pub few : length stage.script.plan.changes ≤ 4096
  pub count : stage.script.setting.muxes ≤ length stage.script.setting.lags
  pub lags : All (λ lag. lag ≤ 86400 * 10 ^ 9) stage.script.setting.lags
  pub moments : (v : ℕ) → change_moment (next_change stage.script.plan v) ≤ 4 * 10 ^ 18

-- the mux is there, and so is the change
pub record CanSwitch (m v : ℕ) (p : Player) : Type 0 where
  pub mux : m < length p.muxes
  pub muxes : p.stage.script.setting.muxes ≤ length p.muxes
  pub version : 0 < v
  pub change : is_some (next_change p.stage.script.plan (v - 1)) ≡ true
  pub lags : HasLags p.stage

-- the packet has a segment, and each mux an entry for its bucket
pub record CanSteer (at : Moment) (k : ℕ) (p : Player) : Type 0 where
  pub segment : Segment
  pub is_segment : segment_of p.stage k ≡ Some segment
  pub clock : at.0 ≤ 6 * 10 ^ 18
  pub buckets : IsWithin 1 65536 p.stage.script.setting.buckets
  pub muxes : p.stage.script.setting.muxes ≤ length p.muxes
  pub tables : (m : ℕ) (x : Mux) → m < p.stage.script.setting.muxes → slice_get p.muxes m ≡ Some x
      → length x.table ≡ p.stage.script.setting.buckets
  pub few : length p.stage.capture.records ≤ 200000

-- there is a copy under way with a valid tag, of a packet that is there, for a server whose shards
-- are there
pub record CanArrive (at : Moment) (p : Player) : Type 0 where
  pub flight : Flight
  pub is_flight : first_flight p.wire ≡ Some flight
  pub segment : Segment
  pub is_segment : segment_of p.stage flight.packet ≡ Some segment
  pub clock : at.0 ≤ 6 * 10 ^ 18
  pub tag : IsTag flight.tag
  pub fits : FitsFields flight.tag
  pub len : segment.len ≤ 1048576
  pub number : (1 ≤ flight.packet) × (flight.packet ≤ length p.packets)
  pub packet : IsPacketOf (Steerable segment) (slice_index_or p.packets (flight.packet - 1) [])
  pub places : HasPlaces p
