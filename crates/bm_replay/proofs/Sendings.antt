-- A packet is steered, and a loss recorded.
use Rattle.std.proofs.Common.{◌≡◌, ℕ, suc, ◌+◌, ◌*◌, ◌^◌, ◌<◌, ◌≤◌, true, inl, inr, List, [], ◌∷◌, Option, Some, None}
use Rattle.std.proofs.Common.{is_some, length, slice_get, eqb, refl, sym, ap, subst, ◌∙◌, arith}
use Rattle.std.specs.Prelude.{IfSome}
use Rattle.std.proofs.lemmas.Bool.{cases_Bool, eq-eqb}
use Rattle.std.proofs.lemmas.Option.{same_Some}
use Rattle.bm_base.specs.declared.ids.Moment.{Moment}
use Rattle.bm_base.specs.declared.ids.MuxId.{MuxId}
use Rattle.bm_base.specs.declared.flow.Segment.{Segment}
use Rattle.bm_base.specs.declared.label.Hop.{Hop}
use Rattle.bm_base.specs.declared.label.Hop.TheVariants.{Direct}
use Rattle.bm_base.specs.declared.label.Label.{Label}
use Rattle.bm_base.specs.declared.fate.Fate.{Fate}
use Rattle.bm_fault.specs.declared.wire.Flight.{Flight}
use Rattle.bm_table.specs.Tables.{table}
use Rattle.bm_core.specs.declared.events.What.TheVariants.{Steer, Lose}
use Rattle.bm_core.specs.declared.events.Event.{Event}
use Rattle.bm_core.specs.declared.events.Stage.{Stage}
use Rattle.bm_core.specs.declared.schedule.Call.{Call as Calls}
use Rattle.bm_core.specs.declared.schedule.Call.TheVariants.{Steers, Loses}
use Rattle.bm_core.specs.declared.schedule.Due.{Due}
use Rattle.bm_core.specs.Accounts.{Routes, Rules, counts}
use Rattle.bm_core.specs.Past.{Sending, bucket, is_switch_of, label_of, labelled, segment_of, version_at}
use Rattle.bm_core.specs.Runs.{last_clock}
use Rattle.bm_core.specs.Schedule.{loss_of_fate, closes, first_of, left, due_loss, packets_from, retires, steers, syncs}
use Rattle.bm_core.specs.Schedule.{wire, IsNextBy}
use Rattle.bm_core.proofs.Existing.{clock_law}
use Rattle.bm_core.proofs.Schedules.{IsFrom}
use Rattle.bm_core.proofs.Stepping.{new_packet}
use Rattle.bm_replay.specs.declared.mux.Mux.{Mux}
use Rattle.bm_replay.specs.declared.player.Loss.{Loss}
use Rattle.bm_replay.specs.declared.player.Player.{Player}
use Rattle.bm_replay.specs.Inside.Muxes.{HasTable, IsWritten}
use Rattle.bm_replay.specs.Inside.Flights.{IsFlying}
use Rattle.bm_replay.specs.Inside.Players.{CanSteer, HasSteered, after_loss, happened, loss_of, sent}
use Rattle.bm_replay.specs.Inside.Playing.{HasPlayed, IsPlayed, IsPlaying, KeepsState, lost_call, past_of}
use Rattle.bm_replay.proofs.Flights.{HasStopAt, all_stay, copies_fly, tag_stop}
use Rattle.bm_replay.proofs.HeldPackets.{steered_packets}
use Rattle.bm_replay.proofs.NextEvents.{head_first}
use Rattle.bm_replay.proofs.Unchanged.{shards_stay, muxes_stay, part_next, part_stays, queues_stay}
use Rattle.bm_replay.proofs.ReadyEvents.{clock_later, IsReady, clock_low, packaged, plain, plain_soon, played_more}
use Rattle.bm_replay.proofs.ReadyEvents.{told}

-- A LOSS

pub loss_low : (R : Routes) (F : Rules) (p : Player) → IsPlaying R F p → p.clock.0 ≤ 6 * 10 ^ 18
loss_low R F p playing =
    let low : last_clock (past_of p) ≤ 6 * 10 ^ 18 =
    clock_law playing.fates p.stage (past_of p) playing.played.sound playing.played.follows playing.played.soon
    in let same = playing.state.clock
    in omega arith

abbrev lose_event : Loss → Player → Event
lose_event loss p = record { clock = record { 0 = suc p.clock.0 }; what = Lose loss.packet loss.hop }

pub lost : (R : Routes) (F : Rules) (p q : Player) (loss : Loss) → IsPlaying R F p → p.loss ≡ Some loss
    → q ≡ after_loss loss p → HasPlayed R F p q
lost R F p q loss playing some is =
    subst (λ (x : Player). HasPlayed R F p x) (sym is)
    (packaged R F p (after_loss loss p) plain playing.fates (lose_event loss p) refl refl refl played state) where
      is_loss_due : due_loss playing.fates (past_of p) ≡ Some (Loses loss.packet loss.hop)
      is_loss_due = sym playing.state.loss ∙ ap (λ (o : Option Loss). lost_call o) some

      next : IsNextBy playing.fates p.stage (past_of p) (lose_event loss p)
      next = rw is_loss_due (refl, ap (λ (n : ℕ). suc n) playing.state.clock)

      played : IsPlayed R F p.stage (plain ∷ playing.fates) (lose_event loss p ∷ past_of p)
      played = played_more R F p.stage playing.fates (past_of p) (lose_event loss p) plain playing.played next tt tt tt
          plain_soon

      state : KeepsState (plain ∷ playing.fates) (lose_event loss p ∷ past_of p) (after_loss loss p)
      state = record {
        clock = refl;
        loss = refl;
        flights =
            all_stay p.stage (past_of p) (lose_event loss p) played.run.0 p.wire (wire playing.fates (past_of p))
            playing.state.flights;
        published = playing.state.published;
        muxes = muxes_stay p.stage (past_of p) (lose_event loss p) p.muxes p.switch (λ m. refl) (λ m. refl)
            playing.state.muxes;
        queues = queues_stay p.stage (past_of p) (lose_event loss p) p.close p.retire p.sync p.packet refl refl refl
            refl
            playing.state.queues;
        shards = shards_stay p.stage (past_of p) (lose_event loss p) p.shards (λ s h. refl)
            (omega (arith, playing.state.clock)) playing.state.shards;
        packets = playing.state.packets;
      }

-- A PACKET IS STEERED

steer_from : (R : Routes) (F : Rules) (p : Player) (at : Moment) (d : Due) (k : ℕ) → IsReady R F p at d
    → d.call ≡ Steers k → first_of (left (packets_from 1 p.stage.capture.records) (past_of p) steers) ≡ d ∷ []
steer_from R F p at d k ready call =
    subst (λ (c : Calls). IsFrom (wire ready.fates (past_of p)) p.stage (past_of p) d c) call ready.from

some_segment : (o : Option Segment) → is_some o ≡ true → (s : Segment) × (o ≡ Some s)
some_segment None is = absurd (cc)
some_segment (Some s) is = (s, refl)

table_length : (stage : Stage) (past : List Event) (muxes : List Mux) (n : ℕ) (o : Option Mux) (x : Mux)
    → stage.script.plan.buckets ≡ stage.script.setting.buckets → HasTable stage.script.plan n o → o ≡ Some x
    → length x.table ≡ stage.script.setting.buckets
table_length stage past muxes n o x same t is =
    let here : t.mux ≡ x = same_Some _ _ (sym t.is_mux ∙ is)
    in subst (λ (y : Mux). length y.table ≡ stage.script.setting.buckets) here (t.table.count ∙ same)

pub can_steer : (R : Routes) (F : Rules) (p : Player) (at : Moment) (d : Due) (k : ℕ) → IsReady R F p at d
    → d.call ≡ Steers k → CanSteer at k p
can_steer R F p at d k ready call =
    let new =
    new_packet ready.fates p.stage (past_of p) k d ready.played.follows call (steer_from R F p at d k ready call)
    in let seg = some_segment (segment_of p.stage k) new.1
    in record {
      segment = seg.0;
      is_segment = seg.1;
      clock = clock_low R F p at d ready;
      buckets = ready.played.sound.script.setting.buckets;
      muxes = let h = ready.state.muxes.count in omega arith;
      tables = λ m x below is. table_length p.stage (past_of p) p.muxes
          (counts (past_of p) (λ what. is_switch_of what m)) (slice_get p.muxes m) x ready.played.sound.script.buckets
          (ready.state.muxes.tables m below) is;
      few = ready.played.sound.capture.few;
    }

-- what the schedule says of the label
abbrev label_for : Stage → List Event → MuxId → Segment → Label
label_for stage past m s =
    record {
      mux = m;
      version = version_at past m;
      entry =
          table stage.script.plan (version_at past m).0 (bucket stage s.flow);
    }

-- what the mux wrote is that
written_label : (stage : Stage) (past : List Event) (m : MuxId) (s : Segment) (l : Label) (o : Option Mux)
    → 1 ≤ stage.script.setting.buckets → stage.script.plan.buckets ≡ stage.script.setting.buckets
    → (version_at past m).0 ≡ counts past (λ what. is_switch_of what m.0)
    → HasTable stage.script.plan (counts past (λ what. is_switch_of what m.0)) o
    → ((x : Mux) → o ≡ Some x → IsWritten x m (bucket stage s.flow) l) → l ≡ label_for stage past m s
written_label stage past m s l o some buckets version t written =
    let w = written t.mux t.is_mux
    in let below : bucket stage s.flow < stage.script.plan.buckets =
    (let h : bucket stage s.flow < stage.script.setting.buckets = omega arith in omega arith)
    in let same : l.entry ≡ table stage.script.plan (counts past (λ what. is_switch_of what m.0))
    (bucket stage s.flow) = same_Some _ _ (sym w.entry ∙ t.table.each (bucket stage s.flow) below)
    in let number : l.version.0 ≡ (version_at past m).0 = w.version ∙ (t.version ∙ sym version)
    in let entry : l.entry ≡ table stage.script.plan (version_at past m).0 (bucket stage s.flow) =
    same ∙ ap (λ (n : ℕ). table stage.script.plan n (bucket stage s.flow)) (sym version)
    in λ i. record { mux = w.mux i; version = record { 0 = number i }; entry = entry i }

new_label : (stage : Stage) (past : List Event) (k : ℕ) (m : MuxId) (s : Segment) (at : Moment)
    → segment_of stage k ≡ Some s
    → label_of stage (record { clock = at; what = Steer k m } ∷ past) k ≡ Some (label_for stage past m s)
new_label stage past k m s at is =
    let here : eqb k k ≡ true = eq-eqb k k refl
    in let new : label_of stage (record { clock = at; what = Steer k m } ∷ past) k
    ≡ labelled stage past m (segment_of stage k) = rw here refl
    in new ∙ ap (λ (o : Option Segment). labelled stage past m o) is

-- the loss of a sending without copies is due
pub loss_is_due : (f : Fate) (flight : Flight) (s : Sending) → s.packet ≡ flight.packet → s.hop ≡ flight.tag.hop
    → lost_call (loss_of f flight) ≡ loss_of_fate f (Some s)
loss_is_due f flight s packet hop = elim (cases_Bool (eqb f.copies 0)) [
  | inl none ↦ rw none (λ i. Some (Loses (sym packet i) (sym hop i)))
  | inr some ↦ rw some refl
]

abbrev steer_event : Moment → ℕ → MuxId → Event
steer_event at k m = record { clock = at; what = Steer k m }

pub steered : (R : Routes) (F : Rules) (p q : Player) (at : Moment) (d : Due) (k : ℕ) → IsReady R F p at d
    → d.call ≡ Steers k → HasSteered R F at k p q → HasPlayed R F p q
steered R F p q at d k ready call come =
    subst (λ (x : Player). HasPlayed R F p x) (sym come.sending.is)
    (packaged R F p
    (sent come.sending.fate at (record { packet = k; tag = come.tag })
    (happened at (Steer k come.mux) (record p { packet = come.queue }))) come.sending.fate ready.fates
    (steer_event at k come.mux) refl refl refl played state) where
      tag : HasStopAt come.label Direct come.tag
      tag = tag_stop come.label Direct come.tag come.is_tag

      given : F k Direct come.sending.fate
      given = subst (λ (h : Hop). F k h come.sending.fate) tag.is_hop come.sending.gives

      routed : IfSome (segment_of p.stage k) (λ s. R k s.flow come.mux.0)
      routed = subst (λ (o : Option Segment). IfSome o (λ s. R k s.flow come.mux.0)) (sym come.is_segment) come.routed

      played : IsPlayed R F p.stage (come.sending.fate ∷ ready.fates) (steer_event at k come.mux ∷ past_of p)
      played = told R F p at d ready (Steer k come.mux) come.sending.fate (sym call) come.below routed given
          come.sending.soon

      label : come.label ≡ label_for p.stage (past_of p) come.mux come.segment
      label = written_label p.stage (past_of p) come.mux come.segment come.label (slice_get p.muxes come.mux.0)
          ready.played.sound.script.setting.buckets.0 ready.played.sound.script.buckets
          (ready.state.muxes.versions come.mux.0) (ready.state.muxes.tables come.mux.0 come.below) come.written

      flying : IsFlying p.stage (steer_event at k come.mux ∷ past_of p)
          (record {
            due = record { 0 = at.0 + come.sending.fate.delay };
            flight =
                record { packet = k; tag = come.tag };
          })
          (record { moment = at.0 + come.sending.fate.delay; place = length (past_of p); packet = k; hop = Direct })
      flying = record {
        due = refl;
        packet = refl;
        label = come.label;
        is_label =
            new_label p.stage (past_of p) k come.mux come.segment at come.is_segment
            ∙ ap (λ (l : Label). Some l) (sym label);
        tag = come.is_tag;
      }

      state : KeepsState (come.sending.fate ∷ ready.fates) (steer_event at k come.mux ∷ past_of p)
          (sent come.sending.fate at (record { packet = k; tag = come.tag })
          (happened at (Steer k come.mux) (record p { packet = come.queue })))
      state = record {
        clock = refl;
        loss = loss_is_due come.sending.fate (record { packet = k; tag = come.tag })
            (record { packet = k; hop = Direct }) refl (sym tag.is_hop);
        flights =
            copies_fly p.stage (steer_event at k come.mux ∷ past_of p) _ _ flying come.sending.fate.copies p.wire
            (wire ready.fates (past_of p))
            (all_stay p.stage (past_of p) (steer_event at k come.mux) played.run.0 p.wire (wire ready.fates (past_of p))
            ready.state.flights);
        published = ready.state.published;
        muxes = muxes_stay p.stage (past_of p) (steer_event at k come.mux) p.muxes p.switch (λ m. refl) (λ m. refl)
            ready.state.muxes;
        queues = record {
          due_closes =
              part_stays _ _ _ (past_of p) (steer_event at k come.mux) closes refl ready.state.queues.due_closes;
          due_retires =
              part_stays _ _ _ (past_of p) (steer_event at k come.mux) retires refl ready.state.queues.due_retires;
          due_syncs = part_stays _ _ _ (past_of p) (steer_event at k come.mux) syncs refl ready.state.queues.due_syncs;
          due_packets =
              part_next _ _ _ p.packet.head come.queue.head d (past_of p) (steer_event at k come.mux) steers refl
              (steer_from R F p at d k ready call) ready.state.queues.due_packets come.next;
        };
        shards = shards_stay p.stage (past_of p) (steer_event at k come.mux) p.shards (λ s h. refl)
            (omega (arith, (clock_later R F p at d ready).0)) ready.state.shards;
        packets =
            steered_packets p.stage.capture.records p.cleared p.packets p.wire p.packet come.queue d k
            come.sending.fate.copies _ ready.state.packets
            (head_first _ _ p.packet.head d ready.state.queues.due_packets (steer_from R F p at d k ready call)).0 call
            refl come.behind come.within;
      }
