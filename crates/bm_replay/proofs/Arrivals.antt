-- A copy arrives, and goes on where it is forwarded.
use Rattle.std.proofs.Common.{◌≡◌, ℕ, zero, suc, ◌+◌, ◌-◌, ◌<◌, ◌≤◌, List, [], ◌∷◌, Option, Some, None, length, inl}
use Rattle.std.proofs.Common.{inr, refl, sym, ap, subst, ◌∙◌, arith}
use Rattle.std.specs.Prelude.{IfSome, slice_get, slice_index_or}
use Rattle.std.specs.List.{AllByRecursion}
use Rattle.std.proofs.lemmas.Option.{same_Some, slice_get_cases}
use Rattle.bm_base.specs.declared.ids.Moment.{Moment}
use Rattle.bm_base.specs.declared.ids.ServerId.{ServerId}
use Rattle.bm_base.specs.declared.flow.Segment.{Segment}
use Rattle.bm_base.specs.declared.capture.Record.{Record}
use Rattle.bm_base.specs.declared.capture.Vip.{Vip}
use Rattle.bm_base.specs.declared.label.Hop.{Hop}
use Rattle.bm_base.proofs.Entries.{IsPassed, tag_passed}
use Rattle.bm_base.specs.declared.label.Label.{Label}
use Rattle.bm_base.specs.declared.fate.Fate.{Fate}
use Rattle.bm_base.specs.Labels.{arrives_at, hop_after, tag_of}
use Rattle.bm_base.specs.Inside.Labels.{later_hop}
use Rattle.bm_fault.specs.declared.wire.Flight.{Flight}
use Rattle.bm_fault.specs.Flying.{Flying}
use Rattle.bm_fault.specs.Wires.{first_flight, others}
use Rattle.bm_core.specs.declared.events.Verdict.{Verdict}
use Rattle.bm_core.specs.declared.events.Verdict.TheVariants.{Accept, Process, Forward, Reset, Drop}
use Rattle.bm_core.specs.declared.events.What.{What}
use Rattle.bm_core.specs.declared.events.What.TheVariants.{Arrive}
use Rattle.bm_core.specs.declared.events.Event.{Event}
use Rattle.bm_core.specs.declared.events.Stage.{Stage}
use Rattle.bm_core.specs.declared.schedule.Call.TheVariants.{Arrives}
use Rattle.bm_core.specs.Schedule.{Underway}
use Rattle.bm_core.specs.Accounts.{Routes, Rules}
use Rattle.bm_core.specs.Books.{Took}
use Rattle.bm_core.specs.Past.{Sending, label_of, segment_of, sending_of, shard, timeout, steerable}
use Rattle.bm_core.specs.Runs.{last_clock}
use Rattle.bm_core.specs.Schedule.{loss_of_fate, put_sent, rest, wire}
use Rattle.bm_core.specs.Inside.Schedule.{IsAnswered}
use Rattle.bm_core.specs.Stages.{IsFit, IsService}
use Rattle.bm_core.specs.Verdicts.{local_at, verdict_at}
use Rattle.bm_core.specs.Soon.{IsSoon}
use Rattle.bm_core.proofs.Forwards.{forwarded}
use Rattle.bm_core.proofs.Pasts.{label_stays}
use Rattle.bm_core.proofs.Stops.{HasStop, first_stop}
use Rattle.bm_replay.specs.declared.player.Loss.{Loss}
use Rattle.bm_replay.specs.declared.player.Player.{Player}
use Rattle.bm_replay.specs.declared.queue.Queue.{Queue}
use Rattle.bm_replay.specs.Inside.Flights.{AreFlying, IsFlying}
use Rattle.bm_replay.specs.Inside.Packets.{AreBehind, HoldsPackets}
use Rattle.bm_replay.specs.Inside.Players.{CanArrive, HasArrived, HasGone, passes_to, HasSent, after_arrival, chained}
use Rattle.bm_replay.specs.Inside.Players.{KeepsPackets, place_for, sent, verdict_for}
use Rattle.bm_replay.specs.Inside.Playing.{HasPlayed, IsPlayed, KeepsState, lost_call, past_of}
use Rattle.bm_shard.specs.States.{State}
use Rattle.bm_replay.specs.Inside.Shards.{IsCalled, KeepsShards, arrival, state_at}
use Rattle.bm_replay.proofs.ShardStates.{places_of, shard_below, verdict_as}
use Rattle.bm_replay.proofs.NextEvents.{copy_due}
use Rattle.bm_replay.proofs.Flights.{HasStopAt, all_stay, copies_fly, first_flies, others_fly, tag_stop}
use Rattle.bm_replay.proofs.HeldPackets.{copies_behind, first_behind, others_behind, still_held}
use Rattle.bm_replay.proofs.Unchanged.{muxes_stay, queues_stay, shards_more}
use Rattle.bm_link.specs.Fits.{IsPacketOf}
use Rattle.bm_base.specs.declared.capture.Body.TheVariants.{Steerable, Unsteered}
use Rattle.bm_base.specs.declared.capture.Body.{Body}
use Rattle.bm_replay.proofs.Tags.{landing_fits, landing_tag}
use Rattle.bm_replay.proofs.ReadyEvents.{IsReadyCopy, clock_later, clock_low, packaged, plain, plain_soon, told}
use Rattle.bm_replay.proofs.Sendings.{loss_is_due}

-- THE FIRST COPY

-- the flight is of the copy, with what its packet's label says, and is for this stop
pub record IsLanding (stage : Stage) (past : List Event) (flight : Flight) (u : Underway) : Type 0 where
  pub packet : flight.packet ≡ u.packet
  pub hop : flight.tag.hop ≡ u.hop
  pub label : Label
  pub is_label : label_of stage past flight.packet ≡ Some label
  pub tag : tag_of label flight.tag.hop ≡ Some flight.tag
  pub place : arrives_at label.entry flight.tag.hop ≡ Some flight.tag.dest

landed : (stage : Stage) (past : List Event) (f : Flying) (u : Underway) → IsFlying stage past f u
    → IsLanding stage past f.flight u
landed stage past f u is =
    let at : HasStopAt is.label u.hop f.flight.tag = tag_stop is.label u.hop f.flight.tag is.tag
    in record {
      packet = is.packet;
      hop = at.is_hop;
      label = is.label;
      is_label = ap (λ (k : ℕ). label_of stage past k) is.packet ∙ is.is_label;
      tag = ap (λ (h : Hop). tag_of is.label h) at.is_hop ∙ is.tag;
      place = ap (λ (h : Hop). arrives_at is.label.entry h) at.is_hop ∙ at.place;
    }

landing : (stage : Stage) (past : List Event) (flying : List Flying) (dues : List Underway) (u : Underway)
    (later : List Underway) (flight : Flight) → AreFlying stage past flying dues → dues ≡ u ∷ later
    → first_flight flying ≡ Some flight
    → IsLanding stage past flight u
landing stage past flying dues u later flight are is first =
    let f = first_flies stage past flying dues u later are is
    in let same : f.0.flight ≡ flight = same_Some _ _ (sym f.1 ∙ first)
    in subst (λ (x : Flight). IsLanding stage past x u) same (landed stage past f.0 u f.2)

fit_len : (vips : List Vip) (records : List Record) (i : ℕ) (s : Segment) → AllByRecursion (λ r. IsFit vips r) records
    → steerable (slice_get records i) ≡ Some s → s.len ≤ 1048576
fit_len vips [] i s fit is = absurd (cc)
fit_len vips (r ∷ records) zero s fit is =
    let h : IsService vips s.flow × (s.len ≤ 1048576) =
    subst (λ (o : Option Segment). IfSome o (λ x. IsService vips x.flow × (x.len ≤ 1048576))) is fit.0
    in h.1
fit_len vips (r ∷ records) (suc i) s fit is = fit_len vips records i s fit.1 is

segment_len : (stage : Stage) (k : ℕ) (s : Segment)
    → AllByRecursion (λ r. IsFit stage.script.setting.vips r) stage.capture.records → segment_of stage k ≡ Some s
    → s.len ≤ 1048576
segment_len stage zero s fit is = absurd (cc)
segment_len stage (suc i) s fit is = fit_len stage.script.setting.vips stage.capture.records i s fit is

-- THE PACKET

record_body : (m : Moment) (b : Body) (s : Segment) → steerable (Some (record { moment = m; body = b })) ≡ Some s
    → b ≡ Steerable s
record_body m (Steerable x) s is = ap (λ (y : Segment). Steerable y) (same_Some _ _ is)
record_body m (Unsteered why) s is = absurd (cc)

record_of : (o : Option Record) (s : Segment) → steerable o ≡ Some s → (r : Record) × (o ≡ Some r)
    × (r.body ≡ Steerable s)
record_of None s is = absurd (cc)
record_of (Some r) s is = (r, refl, record_body r.moment r.body s is)

-- a steerable record's packet is there, where it was not let go
packet_at : (records : List Record) (i : ℕ) (s : Segment) (n : ℕ) (packets : List (List ℕ)) (flying : List Flying)
    (queue : Queue) → HoldsPackets records n packets flying queue → n ≤ i
    → steerable (slice_get records i) ≡ Some s → (i < length packets)
    × IsPacketOf (Steerable s) (slice_index_or packets i [])
packet_at records i s n packets flying queue are behind is =
    let there = record_of (slice_get records i) s is
    in let packet : IsPacketOf there.0.body (slice_index_or packets i []) = are.each i there.0 behind there.1
    in (inside, subst (λ (b : Body). IsPacketOf b (slice_index_or packets i [])) there.2 packet) where
      inside : i < length packets
      inside = elim (slice_get_cases records i).1 [
        | inl here ↦ let c = are.count in let h = here.1 in omega arith
        | inr beyond ↦ absurd (let bad : steerable None ≡ Some s = rw beyond.1 at is in cc)
      ]

-- the packet of a copy is there
packet_there : (p : Player) (k : ℕ) (s : Segment) → KeepsPackets p → p.cleared < k → segment_of p.stage k ≡ Some s
    → ((1 ≤ k) × (k ≤ length p.packets)) × IsPacketOf (Steerable s) (slice_index_or p.packets (k - 1) [])
packet_there p zero s are behind is = absurd (cc)
packet_there p (suc i) s are behind is =
    let same : suc i - 1 ≡ i = omega arith
    in let at =
    packet_at p.stage.capture.records i s p.cleared p.packets p.wire p.packet are (omega (arith, behind)) is
    in (
      (omega arith, omega (arith, at.0)),
      subst (λ (n : ℕ). IsPacketOf (Steerable s) (slice_index_or p.packets n [])) (sym same) at.1,
    )

pub can_arrive : (R : Routes) (F : Rules) (p : Player) (at : Moment) → IsReadyCopy R F p at → CanArrive at p
can_arrive R F p at c =
    let f = first_flies p.stage (past_of p) p.wire (wire c.ready.fates (past_of p)) c.copy c.others
    c.ready.state.flights c.is_wire
    in let is : IsLanding p.stage (past_of p) f.0.flight c.copy = landed p.stage (past_of p) f.0 c.copy f.2
    in let st : HasStop p.stage (past_of p) c.copy.packet c.copy.hop =
    first_stop c.ready.fates p.stage (past_of p) c.copy c.others c.ready.played.run c.is_wire
    in let seg : segment_of p.stage f.0.flight.packet ≡ Some st.segment =
    ap (λ (k : ℕ). segment_of p.stage k) is.packet ∙ st.is_segment
    in let packet =
    packet_there p f.0.flight.packet st.segment c.ready.state.packets
    (first_behind p.cleared p.wire f.0.flight c.ready.state.packets.under_way f.1) seg
    in record {
      flight = f.0.flight;
      is_flight = f.1;
      segment = st.segment;
      is_segment = seg;
      clock = clock_low R F p at (copy_due c.copy) c.ready;
      len = segment_len p.stage f.0.flight.packet st.segment c.ready.played.sound.capture.fit seg;
      tag = landing_tag p.stage (past_of p) f.0.flight is.label c.ready.played.sound.script c.ready.played.run
          is.is_label is.tag;
      fits = landing_fits p.stage (past_of p) f.0.flight is.label c.ready.played.sound.script c.ready.played.plan.count
          c.ready.played.run is.is_label is.tag;
      number = packet.0;
      packet = packet.1;
      places = places_of R F p c.ready.fates (past_of p) c.ready.played c.ready.state;
    }

-- THE VERDICT

verdict_same : (p : Player) (past : List Event) (at : Moment) (flight : Flight) (s : Segment) (u : Underway)
    (is : IsLanding p.stage past flight u) → flight.tag.dest.0 ≤ 1024 → 1 ≤ p.stage.script.setting.shards
    → last_clock past < at.0 → KeepsShards p.stage past p.shards
    → verdict_for p at flight s ≡ verdict_at p.stage past at.0 is.label flight.tag.hop flight.tag.dest s
verdict_same p past at flight s u is number some later keeps =
    verdict_as p.stage past (shard p.stage s.flow) (state_at p.shards (place_for p flight s)) at is.label flight s
    (keeps.each flight.tag.dest (shard p.stage s.flow) number (shard_below p.stage s.flow some)) refl is.tag later

arrive_answered : (p : Player) (past : List Event) (at : Moment) (flight : Flight) (s : Segment) (u : Underway)
    → IsLanding p.stage past flight u → flight.tag.dest.0 ≤ 1024 → 1 ≤ p.stage.script.setting.shards
    → last_clock past < at.0 → KeepsShards p.stage past p.shards
    → segment_of p.stage flight.packet ≡ Some s
    → IsAnswered p.stage past at.0 (Arrive flight.packet flight.tag.hop flight.tag.dest (verdict_for p at flight s))
arrive_answered p past at flight s u is number some later keeps seg = record {
  segment = s;
  is_segment = seg;
  label = is.label;
  is_label = is.is_label;
  place = is.place;
  verdict_is = verdict_same p past at flight s u is number some later keeps;
}

-- THE STATE AFTER IT

abbrev arrive_what : Moment → Flight → Segment → Player → What
arrive_what at flight s p = Arrive flight.packet flight.tag.hop flight.tag.dest (verdict_for p at flight s)

abbrev arrive_event : Moment → Flight → Segment → Player → Event
arrive_event at flight s p =
    record { clock = at; what = Arrive flight.packet flight.tag.hop flight.tag.dest (verdict_for p at flight s) }

-- the first copy that comes next, at its stop
record IsAtStop (R : Routes) (F : Rules) (p : Player) (at : Moment) (flight : Flight) (s : Segment)
    (states : List State) : Type 0 where
  copy : IsReadyCopy R F p at
  is_landing : IsLanding p.stage (past_of p) flight copy.copy
  number : flight.tag.dest.0 ≤ 1024
  some : 1 ≤ p.stage.script.setting.shards
  later : last_clock (past_of p) < at.0
  is_segment : segment_of p.stage flight.packet ≡ Some s
  behind : p.cleared < flight.packet
  called : IsCalled (place_for p flight s) (arrival flight s at) p.shards states

shards_arrived : (p : Player) (past : List Event) (at : Moment) (flight : Flight) (s : Segment) (states : List State)
    → flight.tag.dest.0 ≤ 1024 → 1 ≤ p.stage.script.setting.shards → segment_of p.stage flight.packet ≡ Some s
    → last_clock past < at.0 → KeepsShards p.stage past p.shards
    → IsCalled (place_for p flight s) (arrival flight s at) p.shards states
    → KeepsShards p.stage (arrive_event at flight s p ∷ past) states
shards_arrived p past at flight s states number some seg later keeps called =
    shards_more p.stage past (arrive_event at flight s p) p.shards states (arrival flight s at)
    (Took s (verdict_for p at flight s)) flight.tag.dest (shard p.stage s.flow)
    number (shard_below p.stage s.flow some) (λ t h. rw seg refl) refl later (omega arith) keeps called

told_arrival : (R : Routes) (F : Rules) (p : Player) (at : Moment) (flight : Flight) (s : Segment)
    (states : List State) (c : IsAtStop R F p at flight s states) (f : Fate)
    → IfSome (sending_of (arrive_what at flight s p)) (λ x. F x.packet x.hop f) → IsSoon f
    → IsPlayed R F p.stage (f ∷ c.copy.ready.fates) (arrive_event at flight s p ∷ past_of p)
told_arrival R F p at flight s states c f given soon =
    told R F p at (copy_due c.copy.copy) c.copy.ready (arrive_what at flight s p) f
    (λ i. Arrives (c.is_landing.packet i) (c.is_landing.hop i))
    (arrive_answered p (past_of p) at flight s c.copy.copy c.is_landing c.number c.some c.later
    c.copy.ready.state.shards c.is_segment) tt given soon

kept_arrival : (R : Routes) (F : Rules) (p : Player) (at : Moment) (flight : Flight) (s : Segment)
    (states : List State) (c : IsAtStop R F p at flight s states) (f : Fate) (o : Option Sending) (flying : List Flying)
    (loss : Option Loss)
    → sending_of (arrive_what at flight s p) ≡ o
    → AreFlying p.stage (arrive_event at flight s p ∷ past_of p) flying
    (put_sent f (length (past_of p)) at.0 o (rest (wire c.copy.ready.fates (past_of p))))
    → AreBehind p.cleared flying → lost_call loss ≡ loss_of_fate f o
    → KeepsState (f ∷ c.copy.ready.fates) (arrive_event at flight s p ∷ past_of p)
    (record (after_arrival at flight s states p) { wire = flying; loss = loss })
kept_arrival R F p at flight s states c f o flying loss is are behind owes = record {
  clock = refl;
  loss = owes ∙ ap (λ (x : Option Sending). loss_of_fate f x) (sym is);
  flights =
      subst (λ (x : Option Sending). AreFlying p.stage (arrive_event at flight s p ∷ past_of p) flying
      (put_sent f (length (past_of p)) at.0 x (rest (wire c.copy.ready.fates (past_of p))))) (sym is) are;
  published = c.copy.ready.state.published;
  muxes = muxes_stay p.stage (past_of p) (arrive_event at flight s p) p.muxes p.switch (λ m. refl) (λ m. refl)
      c.copy.ready.state.muxes;
  queues = queues_stay p.stage (past_of p) (arrive_event at flight s p) p.close p.retire p.sync p.packet refl refl refl
      refl c.copy.ready.state.queues;
  shards =
      shards_arrived p (past_of p) at flight s states c.number c.some c.is_segment c.later c.copy.ready.state.shards
      c.called;
  packets = still_held p.stage.capture.records p.cleared p.packets p.wire flying p.packet c.copy.ready.state.packets
      behind;
}

-- the others are still of packets after those that were freed
others_held : (R : Routes) (F : Rules) (p : Player) (at : Moment) (flight : Flight) (s : Segment)
    (states : List State) → IsAtStop R F p at flight s states → AreBehind p.cleared (others p.wire)
others_held R F p at flight s states c = others_behind p.cleared p.wire c.copy.ready.state.packets.under_way

others_arrived : (R : Routes) (F : Rules) (p : Player) (at : Moment) (flight : Flight) (s : Segment)
    (states : List State) (c : IsAtStop R F p at flight s states) (f : Fate)
    → IsPlayed R F p.stage (f ∷ c.copy.ready.fates) (arrive_event at flight s p ∷ past_of p)
    → AreFlying p.stage (arrive_event at flight s p ∷ past_of p) (others p.wire)
    (rest (wire c.copy.ready.fates (past_of p)))
others_arrived R F p at flight s states c f played =
    others_fly p.stage (arrive_event at flight s p ∷ past_of p) p.wire (wire c.copy.ready.fates (past_of p))
    (all_stay p.stage (past_of p) (arrive_event at flight s p) played.run.0 p.wire (wire c.copy.ready.fates (past_of p))
    c.copy.ready.state.flights)

-- it goes nowhere
ended : (R : Routes) (F : Rules) (p q : Player) (at : Moment) (flight : Flight) (s : Segment)
    (states : List State) → IsAtStop R F p at flight s states → sending_of (arrive_what at flight s p) ≡ None
    → q ≡ after_arrival at flight s states p → HasPlayed R F p q
ended R F p q at flight s states c none is =
    let given : IfSome (sending_of (arrive_what at flight s p)) (λ x. F x.packet x.hop plain) =
    subst (λ (o : Option Sending). IfSome o (λ x. F x.packet x.hop plain)) (sym none) tt
    in let played : IsPlayed R F p.stage (plain ∷ c.copy.ready.fates) (arrive_event at flight s p ∷ past_of p) =
    told_arrival R F p at flight s states c plain given plain_soon
    in subst (λ (x : Player). HasPlayed R F p x) (sym is)
    (packaged R F p (after_arrival at flight s states p) plain c.copy.ready.fates (arrive_event at flight s p) refl refl
    refl played (kept_arrival R F p at flight s states c plain None (others p.wire) p.loss none
    (others_arrived R F p at flight s states c plain played) (others_held R F p at flight s states c)
    (c.copy.ready.state.loss ∙ c.copy.ready.no_loss_due)))

sends_on : (k : ℕ) (hop next : Hop) (server to : ServerId) → hop_after hop ≡ Some next
    → sending_of (Arrive k hop server (Forward to)) ≡ Some (record { packet = k; hop = next })
sends_on k hop next server to is = rw is refl

-- it is forwarded
went_on : (R : Routes) (F : Rules) (p q : Player) (at : Moment) (flight : Flight) (s : Segment)
    (states : List State) (to : ServerId) → IsAtStop R F p at flight s states → verdict_for p at flight s ≡ Forward to
    → HasSent F at (chained to flight) (after_arrival at flight s states p) q → HasPlayed R F p q
went_on R F p q at flight s states to c forward sending =
    subst (λ (x : Player). HasPlayed R F p x) (sym sending.is)
    (packaged R F p (sent sending.fate at (chained to flight) (after_arrival at flight s states p)) sending.fate
    c.copy.ready.fates (arrive_event at flight s p) refl refl refl played
    (kept_arrival R F p at flight s states c sending.fate (Some (record { packet = flight.packet; hop = later_hop flight.tag.hop })) _ _
    sends (copies_fly p.stage (arrive_event at flight s p ∷ past_of p) _ _ flying sending.fate.copies (others p.wire)
    (rest (wire c.copy.ready.fates (past_of p))) (others_arrived R F p at flight s states c sending.fate played))
    (copies_behind p.cleared _ c.behind sending.fate.copies (others p.wire) (others_held R F p at flight s states c))
    (loss_is_due sending.fate (chained to flight) (record { packet = flight.packet; hop = later_hop flight.tag.hop }) refl refl))) where
      passed : IsPassed c.is_landing.label.entry flight.tag.hop to
      passed = forwarded (local_at p.stage (past_of p) flight.tag.dest s.flow) (timeout p.stage) at.0
          c.is_landing.label.entry flight.tag.hop s to
          (sym (verdict_same p (past_of p) at flight s c.copy.copy c.is_landing c.number c.some c.later
          c.copy.ready.state.shards) ∙ forward)

      sends : sending_of (arrive_what at flight s p) ≡ Some (record { packet = flight.packet; hop = later_hop flight.tag.hop })
      sends = ap (λ (v : Verdict). sending_of (Arrive flight.packet flight.tag.hop flight.tag.dest v)) forward
          ∙ sends_on flight.packet flight.tag.hop (later_hop flight.tag.hop) flight.tag.dest to passed.next

      given : IfSome (sending_of (arrive_what at flight s p)) (λ x. F x.packet x.hop sending.fate)
      given = subst (λ (o : Option Sending). IfSome o (λ x. F x.packet x.hop sending.fate)) (sym sends) sending.gives

      played : IsPlayed R F p.stage (sending.fate ∷ c.copy.ready.fates) (arrive_event at flight s p ∷ past_of p)
      played = told_arrival R F p at flight s states c sending.fate given sending.soon

      flying : IsFlying p.stage (arrive_event at flight s p ∷ past_of p)
          (record { due = record { 0 = at.0 + sending.fate.delay }; flight = chained to flight })
          (record {
            moment = at.0 + sending.fate.delay;
            place = length (past_of p);
            packet = flight.packet;
            hop =
                later_hop flight.tag.hop;
          })
      flying = record {
        due = refl;
        packet = refl;
        label = c.is_landing.label;
        is_label =
            label_stays p.stage (past_of p) (arrive_event at flight s p) flight.packet c.is_landing.label played.run.0
            c.is_landing.is_label;
        tag = tag_passed c.is_landing.label flight.tag.hop (later_hop flight.tag.hop) flight.tag to passed.stop
            c.is_landing.tag;
      }

by_verdict : (R : Routes) (F : Rules) (p q : Player) (at : Moment) (flight : Flight) (s : Segment)
    (states : List State) → IsAtStop R F p at flight s states → (v : Verdict) → verdict_for p at flight s ≡ v
    → HasGone F at flight (passes_to v) (after_arrival at flight s states p) q → HasPlayed R F p q
by_verdict R F p q at flight s states c (Forward to) is gone = went_on R F p q at flight s states to c is gone
by_verdict R F p q at flight s states c Accept is gone =
    ended R F p q at flight s states c
    (ap (λ (v : Verdict). sending_of (Arrive flight.packet flight.tag.hop flight.tag.dest v)) is) gone
by_verdict R F p q at flight s states c (Process t) is gone =
    ended R F p q at flight s states c
    (ap (λ (v : Verdict). sending_of (Arrive flight.packet flight.tag.hop flight.tag.dest v)) is) gone
by_verdict R F p q at flight s states c (Reset why) is gone =
    ended R F p q at flight s states c
    (ap (λ (v : Verdict). sending_of (Arrive flight.packet flight.tag.hop flight.tag.dest v)) is) gone
by_verdict R F p q at flight s states c (Drop why) is gone =
    ended R F p q at flight s states c
    (ap (λ (v : Verdict). sending_of (Arrive flight.packet flight.tag.hop flight.tag.dest v)) is) gone

pub arrived : (R : Routes) (F : Rules) (p q : Player) (at : Moment) → IsReadyCopy R F p at → HasArrived F at p q
    → HasPlayed R F p q
arrived R F p q at c come =
    let is : IsLanding p.stage (past_of p) come.flight c.copy =
    landing p.stage (past_of p) p.wire (wire c.ready.fates (past_of p)) c.copy c.others come.flight
    c.ready.state.flights c.is_wire come.is_flight
    in by_verdict R F p q at come.flight come.segment come.states (record {
      copy = c;
      is_landing = is;
      number = (landing_tag p.stage (past_of p) come.flight is.label c.ready.played.sound.script c.ready.played.run
          is.is_label is.tag).dest.1;
      some = c.ready.played.sound.script.setting.shards.0;
      later = (clock_later R F p at (copy_due c.copy) c.ready).0;
      is_segment = come.is_segment;
      behind = first_behind p.cleared p.wire come.flight c.ready.state.packets.under_way come.is_flight;
      called = come.called;
    }) (verdict_for p at come.flight come.segment) refl come.is
