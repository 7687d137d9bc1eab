-- What is known where something comes next, and that it leads to a replay with one event more.
use Rattle.std.proofs.Common.{◌≡◌, true, ℕ, ◌*◌, ◌^◌, ◌<◌, ◌≤◌, List, [], ◌∷◌, ◌++◌, Option, Some, None, length, refl}
use Rattle.std.proofs.Common.{sym, ap, subst, ◌∙◌, arith}
use Rattle.std.specs.Prelude.{IfSome, reverse}
use Rattle.std.proofs.lemmas.List.{length-append, reverse-append}
use Rattle.bm_base.specs.declared.ids.Moment.{Moment}
use Rattle.bm_base.specs.declared.fate.Fate.{Fate}
use Rattle.bm_table.specs.declared.plan.Change.{Change}
use Rattle.bm_table.specs.declared.plan.Retirement.TheVariants.{Done}
use Rattle.bm_table.specs.Tables.{next_change}
use Rattle.bm_core.specs.declared.events.Verdict.TheVariants.{Accept}
use Rattle.bm_core.specs.declared.events.What.{What}
use Rattle.bm_core.specs.declared.events.What.TheVariants.{Publish, Switch, Steer, Lose, Arrive as ArriveEvent, Close}
use Rattle.bm_core.specs.declared.events.What.TheVariants.{Retire, Sync}
use Rattle.bm_core.specs.declared.events.Event.{Event}
use Rattle.bm_core.specs.declared.events.Stage.{Stage}
use Rattle.bm_core.specs.declared.schedule.Call.{Call as Calls}
use Rattle.bm_core.specs.declared.schedule.Call.TheVariants.{Publishes, Switches, Closes, Retires, Syncs, Arrives}
use Rattle.bm_core.specs.declared.schedule.Call.TheVariants.{Steers, Loses}
use Rattle.bm_core.specs.declared.schedule.Due.{Due}
use Rattle.bm_core.specs.Schedule.{Underway}
use Rattle.bm_core.specs.Accounts.{Routes, Rules, IsRouted, counts}
use Rattle.bm_core.specs.Past.{Sending, sending_of, newest}
use Rattle.bm_core.specs.Runs.{last_clock, next_clock}
use Rattle.bm_core.specs.Schedule.{arrival_due, call_of, can_come, close_commands, closes, first_of, least, left}
use Rattle.bm_core.specs.Schedule.{due_loss, packets_from, publish_due, retire_commands, retires, steers, switches_due}
use Rattle.bm_core.specs.Schedule.{rank_of, sync_commands, syncs, wire, IsNextBy}
use Rattle.bm_core.specs.Inside.Schedule.{IsAnswered}
use Rattle.bm_core.specs.Soon.{IsSoon}
use Rattle.bm_core.proofs.Existing.{clock_law}
use Rattle.bm_core.proofs.Schedules.{IsFrom, each_from, least_is}
use Rattle.bm_core.proofs.Stepping.{step}
use Rattle.bm_fault.specs.Wires.{first_due}
use Rattle.bm_replay.specs.declared.player.Loss.{Loss}
use Rattle.bm_replay.specs.declared.player.Player.{Player}
use Rattle.bm_replay.specs.declared.coming.Coming.{Coming}
use Rattle.bm_replay.specs.declared.coming.Coming.TheVariants.{Arrive, Call}
use Rattle.bm_replay.specs.Inside.Players.{publish_after, soonest_command, coming_for}
use Rattle.bm_replay.specs.Inside.Playing.{HasPlayed, IsComing, IsPlayed, IsPlaying, KeepsState, lost_call, past_of}
use Rattle.bm_replay.specs.Inside.Comings.{sooner_of}
use Rattle.bm_replay.proofs.NextEvents.{HasRank, IsCommand, IsComingOf, commands_are, commands_due, copy_due}
use Rattle.bm_replay.proofs.NextEvents.{head_least, left_rank, packets_rank, coming_is}
use Rattle.bm_replay.proofs.Flights.{first_due_is}
use Rattle.bm_replay.proofs.LeastOfTwo.{least_append}

-- WHAT COMES NEXT, BY THE STATE

publish_least : (v : ℕ) (o : Option Change) → least (publish_due v o) ≡ publish_after v o
publish_least v None = refl
publish_least v (Some c) = refl

publish_same : (p : Player) (past : List Event) → p.published ≡ newest past
    → publish_after p.published (next_change p.stage.script.plan p.published)
    ≡ least (publish_due (newest past) (next_change p.stage.script.plan (newest past)))
publish_same p past same =
    (λ i. publish_after (same i) (next_change p.stage.script.plan (same i)))
    ∙ sym (publish_least (newest past) (next_change p.stage.script.plan (newest past)))

commands_parts : (a b c d e : List Due)
    → least (a ++ b ++ c ++ d ++ e)
    ≡ sooner_of (sooner_of (sooner_of (sooner_of (least a) (least b)) (least c)) (least d)) (least e)
commands_parts a b c d e =
    least_append (a ++ b ++ c ++ d) e
    ∙ ap (λ (o : Option Due). sooner_of o (least e)) (least_append (a ++ b ++ c) d
    ∙ ap (λ (o : Option Due). sooner_of o (least d)) (least_append (a ++ b) c
    ∙ ap (λ (o : Option Due). sooner_of o (least c)) (least_append a b)))

-- the soonest command of the state is that of the schedule
pub command_least : (fates : List Fate) (past : List Event) (p : Player) → KeepsState fates past p
    → soonest_command p ≡ least (commands_due p.stage past)
command_least fates past p keeps =
    (λ i. sooner_of (sooner_of (sooner_of (sooner_of (publish_same p past keeps.published i) (keeps.muxes.soonest i))
    (sym (head_least _ _ p.close.head keeps.queues.due_closes) i))
    (sym (head_least _ _ p.retire.head keeps.queues.due_retires) i))
    (sym (head_least _ _ p.sync.head keeps.queues.due_syncs) i))
    ∙ sym (commands_parts (publish_due (newest past) (next_change p.stage.script.plan (newest past)))
    (switches_due p.stage past p.stage.script.setting.muxes)
    (first_of (left (close_commands p.stage.script.commands) past closes))
    (first_of (left (retire_commands p.stage.script.setting.shards p.stage.script.commands) past retires))
    (first_of (left (sync_commands p.stage.script.commands) past syncs)))

-- the least of what can come, by the state
pub come_least : (fates : List Fate) (past : List Event) (p : Player) → KeepsState fates past p
    → least (can_come (wire fates past) p.stage past)
    ≡ sooner_of (sooner_of (soonest_command p) (least (arrival_due (wire fates past)))) p.packet.head
come_least fates past p keeps =
    least_append (commands_due p.stage past ++ arrival_due (wire fates past))
    (first_of (left (packets_from 1 p.stage.capture.records) past steers))
    ∙ ((λ i. sooner_of (least_append (commands_due p.stage past) (arrival_due (wire fates past)) i)
    (head_least _ _ p.packet.head keeps.queues.due_packets i))
    ∙ (λ i. sooner_of (sooner_of (sym (command_least fates past p keeps) i) (least (arrival_due (wire fates past))))
    p.packet.head))

pub state_comes : (fates : List Fate) (past : List Event) (p : Player) → KeepsState fates past p
    → IsComingOf (soonest_command p) (wire fates past) p.packet.head (coming_for p)
state_comes fates past p keeps =
    coming_is (soonest_command p) p.packet.head (first_due p.wire) (wire fates past)
    (subst (λ (o : Option Due). IfSome o IsCommand) (sym (command_least fates past p keeps))
    (least_is IsCommand (commands_due p.stage past) (commands_are p.stage past)))
    (subst (λ (o : Option Due). IfSome o (HasRank 6)) (head_least _ _ p.packet.head keeps.queues.due_packets)
    (least_is (HasRank 6) _
    (left_rank 6 _ (counts past (λ what. steers (call_of what))) (packets_rank 1 p.stage.capture.records))))
    (first_due_is p.stage past p.wire (wire fates past) keeps.flights)

no_loss_due : (fates : List Fate) (past : List Event) (p : Player) → KeepsState fates past p → p.loss ≡ None
    → due_loss fates past ≡ None
no_loss_due fates past p keeps none = sym keeps.loss ∙ ap (λ (o : Option Loss). lost_call o) none

-- READY

-- this is the least of what can come, and nothing is due
pub record IsReady (R : Routes) (F : Rules) (p : Player) (at : Moment) (d : Due) : Type 0 where
  pub fates : List Fate
  pub played : IsPlayed R F p.stage fates (past_of p)
  pub state : KeepsState fates (past_of p) p
  pub no_loss_due : due_loss fates (past_of p) ≡ None
  pub is_least : least (can_come (wire fates (past_of p)) p.stage (past_of p)) ≡ Some d
  pub from : IsFrom (wire fates (past_of p)) p.stage (past_of p) d d.call
  pub is_clock : at.0 ≡ next_clock (last_clock (past_of p)) d.moment

ready_by : (R : Routes) (F : Rules) (p : Player) (at : Moment) (d : Due) (playing : IsPlaying R F p) → p.loss ≡ None
    → sooner_of (sooner_of (soonest_command p) (least (arrival_due (wire playing.fates (past_of p))))) p.packet.head
    ≡ Some d
    → at.0 ≡ next_clock p.clock.0 d.moment → IsReady R F p at d
ready_by R F p at d playing none is clock = record {
  fates = playing.fates;
  played = playing.played;
  state = playing.state;
  no_loss_due = no_loss_due playing.fates (past_of p) p playing.state none;
  is_least = least_here;
  from = subst
      (λ (o : Option Due). IfSome o (λ x. IsFrom (wire playing.fates (past_of p)) p.stage (past_of p) x x.call))
      least_here
      (least_is (λ x. IsFrom (wire playing.fates (past_of p)) p.stage (past_of p) x x.call) _
      (each_from (wire playing.fates (past_of p)) p.stage (past_of p)));
  is_clock = clock ∙ ap (λ (n : ℕ). next_clock n d.moment) playing.state.clock;
} where
  least_here : least (can_come (wire playing.fates (past_of p)) p.stage (past_of p)) ≡ Some d
  least_here = come_least playing.fates (past_of p) p playing.state ∙ is

-- a command or packet that comes next
pub record IsReadyCall (R : Routes) (F : Rules) (p : Player) (at : Moment) (d : Due) : Type 0 where
  pub ready : IsReady R F p at d
  pub no_copy : rank_of d.call ≡ 5 → ⊥

pub ready_call : (R : Routes) (F : Rules) (p : Player) (at : Moment) (d : Due) → IsComing R F at (Call d) p
    → IsReadyCall R F p at d
ready_call R F p at d coming =
    let come : IsComingOf (soonest_command p) (wire coming.playing.fates (past_of p)) p.packet.head (Call d) =
    subst (λ (t : Coming). IsComingOf (soonest_command p) (wire coming.playing.fates (past_of p)) p.packet.head t)
    coming.is_coming (state_comes coming.playing.fates (past_of p) p coming.playing.state)
    in record {
      ready = ready_by R F p at d coming.playing coming.none_lost come.0 coming.is_clock;
      no_copy = come.1;
    }

-- a copy that comes next
pub record IsReadyCopy (R : Routes) (F : Rules) (p : Player) (at : Moment) : Type 0 where
  pub copy : Underway
  pub ready : IsReady R F p at (copy_due copy)
  pub others : List Underway
  pub is_wire : wire ready.fates (past_of p) ≡ copy ∷ others

pub ready_copy : (R : Routes) (F : Rules) (p : Player) (at m : Moment) → IsComing R F at (Arrive m) p
    → IsReadyCopy R F p at
unfolding ready_by
ready_copy R F p at m coming =
    let come : IsComingOf (soonest_command p) (wire coming.playing.fates (past_of p)) p.packet.head (Arrive m) =
    subst (λ (t : Coming). IsComingOf (soonest_command p) (wire coming.playing.fates (past_of p)) p.packet.head t)
    coming.is_coming (state_comes coming.playing.fates (past_of p) p coming.playing.state)
    in record {
      copy = come.0;
      ready = ready_by R F p at (copy_due come.0) coming.playing coming.none_lost come.4
          (coming.is_clock ∙ ap (λ (n : ℕ). next_clock p.clock.0 n) come.3);
      others = come.1;
      is_wire = come.2;
    }

-- its clock is later than the last event's and than its moment
pub clock_later : (R : Routes) (F : Rules) (p : Player) (at : Moment) (d : Due) → IsReady R F p at d
    → (last_clock (past_of p) < at.0) × (d.moment < at.0)
clock_later R F p at d ready = let c = ready.is_clock in (omega arith, omega arith)

-- ONE EVENT MORE

-- the event comes next
next_by : (R : Routes) (F : Rules) (p : Player) (at : Moment) (d : Due) (ready : IsReady R F p at d) (what : What)
    → call_of what ≡ d.call → IsNextBy ready.fates p.stage (past_of p) (record { clock = at; what = what })
next_by R F p at d ready what call = rw (ready.no_loss_due, ready.is_least) (call, ready.is_clock)

-- a replay so far with one event more
pub played_more : (R : Routes) (F : Rules) (stage : Stage) (fates : List Fate) (past : List Event) (e : Event)
    (f : Fate) → IsPlayed R F stage fates past → IsNextBy fates stage past e → IsAnswered stage past e.clock.0 e.what
    → IsRouted R stage e.what
    → IfSome (sending_of e.what) (λ s. F s.packet s.hop f) → IsSoon f → IsPlayed R F stage (f ∷ fates) (e ∷ past)
played_more R F stage fates past e f played next answered routed given soon = record {
  sound = played.sound;
  plan = played.plan;
  run = (step fates stage past e played.sound.script.plan played.run played.follows next answered, played.run);
  follows = (next, played.follows);
  answered = ((routed, given), played.answered);
  soon = (any (sending_of e.what), played.soon);
} where
  any : (o : Option Sending) → IfSome o (λ s. IsSoon f)
  any None = tt
  any (Some s) = soon

pub told : (R : Routes) (F : Rules) (p : Player) (at : Moment) (d : Due) (ready : IsReady R F p at d) (what : What)
    (f : Fate) → call_of what ≡ d.call → IsAnswered p.stage (past_of p) at.0 what → IsRouted R p.stage what
    → IfSome (sending_of what) (λ s. F s.packet s.hop f) → IsSoon f
    → IsPlayed R F p.stage (f ∷ ready.fates) (record { clock = at; what = what } ∷ past_of p)
told R F p at d ready what f call answered routed given soon =
    played_more R F p.stage ready.fates (past_of p) (record { clock = at; what = what }) f ready.played
    (next_by R F p at d ready what call) answered routed given soon

-- one copy without delay
abbrev pub plain : Fate
plain = record { copies = 1; delay = 0 }

pub plain_soon : IsSoon plain
plain_soon = (omega arith, omega arith)

-- the state after one event more is a replay on its way
pub packaged : (R : Routes) (F : Rules) (p q : Player) (f : Fate) (fates : List Fate) (e : Event) → q.stage ≡ p.stage
    → q.packets ≡ p.packets → q.events ≡ p.events ++ e ∷ [] → IsPlayed R F p.stage (f ∷ fates) (e ∷ past_of p)
    → KeepsState (f ∷ fates) (e ∷ past_of p) q → HasPlayed R F p q
packaged R F p q f fates e about packets events played state =
    let past : past_of q ≡ e ∷ past_of p = ap (λ (l : List Event). reverse l) events ∙ reverse-append p.events (e ∷ [])
    in record {
      about = about;
      packets = packets;
      playing = record {
        fates = f ∷ fates;
        played = subst (λ (s : Stage). IsPlayed R F s (f ∷ fates) (past_of q)) (sym about)
            (subst (λ (l : List Event). IsPlayed R F p.stage (f ∷ fates) l) (sym past) played);
        state = subst (λ (l : List Event). KeepsState (f ∷ fates) l q) (sym past) state;
      };
      one_more = ap (λ (l : List Event). length l) events ∙ (length-append p.events (e ∷ []) ∙ omega arith);
    }

-- CLOCKS

-- an event of the call
what_of : Calls → What
what_of (Publishes v) = Publish (record { 0 = v })
what_of (Switches m v) = Switch (record { 0 = m }) (record { 0 = v })
what_of (Closes s f) = Close s f true
what_of (Retires s h at) = Retire s h (record { 0 = at }) Done
what_of Syncs = Sync
what_of (Arrives k hop) = ArriveEvent k hop (record { 0 = 0 }) Accept
what_of (Steers k) = Steer k (record { 0 = 0 })
what_of (Loses k hop) = Lose k hop

call_what : (c : Calls) → call_of (what_of c) ≡ c
unfolding what_of
call_what (Publishes v) = refl
call_what (Switches m v) = refl
call_what (Closes s f) = refl
call_what (Retires s h at) = refl
call_what Syncs = refl
call_what (Arrives k hop) = refl
call_what (Steers k) = refl
call_what (Loses k hop) = refl

-- the clock of what comes next is low
pub clock_low : (R : Routes) (F : Rules) (p : Player) (at : Moment) (d : Due) → IsReady R F p at d → at.0 ≤ 6 * 10 ^ 18
clock_low R F p at d ready =
    clock_law (plain ∷ ready.fates) p.stage (record { clock = at; what = what_of d.call } ∷ past_of p)
    ready.played.sound
    (next_by R F p at d ready (what_of d.call) (call_what d.call), ready.played.follows)
    (any (sending_of (what_of d.call)), ready.played.soon) where
      any : (o : Option Sending) → IfSome o (λ s. IsSoon plain)
      any None = tt
      any (Some s) = plain_soon
