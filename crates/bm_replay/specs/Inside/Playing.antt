-- The invariant of a replay in progress.
use Rattle.std.specs.Prelude.{◌≡◌, ℕ, suc, ◌<◌, ◌≤◌, Bool, true, false, List, length, reverse, Option}
use Rattle.std.specs.Prelude.{Some, None, slice_get}
use Rattle.bm_base.specs.declared.ids.Moment.{Moment}
use Rattle.bm_base.specs.declared.fate.Fate.{Fate}
use Rattle.bm_table.specs.Plans.{IsPlan}
use Rattle.bm_core.specs.declared.events.Event.{Event}
use Rattle.bm_core.specs.declared.events.Stage.{Stage}
use Rattle.bm_core.specs.declared.schedule.Call.{Call as Calls}
use Rattle.bm_core.specs.declared.schedule.Call.TheVariants.{Loses}
use Rattle.bm_core.specs.declared.schedule.Due.{Due}
use Rattle.bm_core.specs.Accounts.{AreAnswered, Routes, Rules, counts}
use Rattle.bm_core.specs.Histories.{IsReplay}
use Rattle.bm_core.specs.Past.{is_switch_of, newest, version_at}
use Rattle.bm_core.specs.Runs.{Run, last_clock, next_clock}
use Rattle.bm_core.specs.Schedule.{Follows, close_commands, closes, least, left, due_loss}
use Rattle.bm_core.specs.Schedule.{packets_from, retire_commands, retires, steers, switches_due}
use Rattle.bm_core.specs.Schedule.{sync_commands, syncs, wire}
use Rattle.bm_core.specs.Stages.{IsSound}
use Rattle.bm_core.specs.Soon.{AreSoon}
use Rattle.bm_replay.specs.declared.mux.Mux.{Mux}
use Rattle.bm_replay.specs.declared.player.Loss.{Loss}
use Rattle.bm_replay.specs.declared.player.Player.{Player}
use Rattle.bm_replay.specs.declared.queue.Queue.{Queue}
use Rattle.bm_replay.specs.declared.coming.Coming.{Coming}
use Rattle.bm_replay.specs.declared.coming.Coming.TheVariants.{Arrive, Call, Over}
use Rattle.bm_replay.specs.Inside.Muxes.{HasTable}
use Rattle.bm_replay.specs.Inside.Flights.{AreFlying}
use Rattle.bm_replay.specs.Inside.Players.{KeepsPackets, coming_for}
use Rattle.bm_replay.specs.Inside.Queues.{IsHead, closes_from, packets_after, retires_after}
use Rattle.bm_replay.specs.Inside.Queues.{syncs_from}
use Rattle.bm_replay.specs.Inside.Shards.{KeepsShards}

-- these events, with these fates, are a replay of a sound stage so far
pub record IsPlayed (R : Routes) (F : Rules) (stage : Stage) (fates : List Fate)
    (past : List Event) : Type 0 where
  pub sound : IsSound stage
  pub plan : IsPlan stage.script.plan
  pub run : Run stage past
  pub follows : Follows fates stage past
  pub answered : AreAnswered R F stage fates past
  pub soon : AreSoon fates past

-- these queues are what is left of the commands of each kind and of the packets
pub record KeepsQueues (stage : Stage) (past : List Event) (close retire sync packet : Queue) : Type
    0 where
  pub due_closes : IsHead (left (close_commands stage.script.commands) past closes)
      (closes_from stage.script.commands close.next) close.head
  pub due_retires : IsHead
      (left (retire_commands stage.script.setting.shards stage.script.commands) past retires)
      (retires_after stage.script.setting.shards stage.script.commands retire) retire.head
  pub due_syncs : IsHead (left (sync_commands stage.script.commands) past syncs)
      (syncs_from stage.script.commands sync.next) sync.head
  pub due_packets : IsHead (left (packets_from 1 stage.capture.records) past steers)
      (packets_after stage.capture.records packet.next) packet.head

-- each mux has the table of its version, and its switches lead from each version to the next
pub record KeepsMuxes (stage : Stage) (past : List Event) (muxes : List Mux) (switch : Option Due) :
    Type 0 where
  pub count : length muxes ≡ stage.script.setting.muxes
  pub tables : (m : ℕ) → m < stage.script.setting.muxes
      → HasTable stage.script.plan (counts past (λ what. is_switch_of what m)) (slice_get muxes m)
  pub versions : (m : ℕ)
      → (version_at past (record { 0 = m })).0 ≡ counts past (λ what. is_switch_of what m)
  pub soonest : switch ≡ least (switches_due stage past stage.script.setting.muxes)

abbrev pub lost_call : Option Loss → Option Calls
lost_call None = None
lost_call (Some loss) = Some (Loses loss.packet loss.hop)

-- the state is the one that these events leave
pub record KeepsState (fates : List Fate) (past : List Event) (p : Player) : Type 0 where
  pub clock : p.clock.0 ≡ last_clock past
  pub loss : lost_call p.loss ≡ due_loss fates past
  pub flights : AreFlying p.stage past p.wire (wire fates past)
  pub published : p.published ≡ newest past
  pub muxes : KeepsMuxes p.stage past p.muxes p.switch
  pub queues : KeepsQueues p.stage past p.close p.retire p.sync p.packet
  pub shards : KeepsShards p.stage past p.shards
  pub packets : KeepsPackets p

-- the events so far, the newest first
abbrev pub past_of : Player → List Event
past_of p = reverse p.events

-- the events so far are a replay, with some fates, and the state is the one that they leave
pub record IsPlaying (R : Routes) (F : Rules) (p : Player) : Type 0 where
  pub fates : List Fate
  pub played : IsPlayed R F p.stage fates (past_of p)
  pub state : KeepsState fates (past_of p) p

abbrev pub coming_moment : Coming → ℕ
coming_moment (Arrive moment) = moment.0
coming_moment (Call due) = due.moment
coming_moment Over = 0

-- this comes next, at this clock
pub record IsComing (R : Routes) (F : Rules) (clock : Moment) (coming : Coming) (p : Player) : Type
    0 where
  pub playing : IsPlaying R F p
  pub none_lost : p.loss ≡ None
  pub is_coming : coming_for p ≡ coming
  pub is_clock : clock.0 ≡ next_clock p.clock.0 (coming_moment coming)

-- one more event, of the same stage, and the same packets
pub record HasPlayed (R : Routes) (F : Rules) (p q : Player) : Type 0 where
  pub about : q.stage ≡ p.stage
  pub packets : q.packets ≡ p.packets
  pub playing : IsPlaying R F q
  pub one_more : length q.events ≡ suc (length p.events)

-- one more event, or the replay is over
abbrev pub HasStepped : Routes → Rules → Player → Player → Bool → Type 0
HasStepped R F p q true = HasPlayed R F p q
HasStepped R F p q false =
    (q.stage ≡ p.stage) × (q.packets ≡ p.packets) × (length q.events ≤ 12259840)
    × IsReplay R F (record { stage = q.stage; events = q.events })
