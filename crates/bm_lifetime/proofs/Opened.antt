-- A connection that was opened once: its Accept, what its server holds, and that no other server holds it.
use Rattle.std.proofs.Common.{◌≡◌, ℕ, suc, ◌+◌, ◌<◌, ◌≤◌, ◌⊎◌, Bool, true, false, cond, not, ◌&&◌, inl, inr, List}
use Rattle.std.proofs.Common.{[], ◌∷◌, Option, Some, None, length, refl, sym, ap, ◌∙◌, subst, arith, eqb}
use Rattle.std.specs.Prelude.{IfSome, map}
use Rattle.std.proofs.lemmas.Bool.{and_parts, both_ways, cases_Bool, eqb-true, or_from}
use Rattle.std.proofs.lemmas.Bool.{or_parts, or_right}
use Rattle.std.proofs.lemmas.Bool.Decides.{nat_tests}
use Rattle.std.proofs.lemmas.Option.{same_Some}
use Rattle.bm_base.specs.Captures.{AreRising}
use Rattle.bm_base.specs.Labels.{arrives_at}
use Rattle.bm_base.specs.Segments.{is_opening, same_flow}
use Rattle.bm_base.specs.declared.fate.Fate.{Fate}
use Rattle.bm_base.specs.declared.flow.Flow.{Flow}
use Rattle.bm_base.specs.declared.flow.Segment.{Segment}
use Rattle.bm_base.specs.declared.ids.MuxId.{MuxId}
use Rattle.bm_base.specs.declared.ids.ServerId.{ServerId}
use Rattle.bm_base.specs.declared.label.Entry.{Entry}
use Rattle.bm_base.specs.declared.label.Hop.{Hop}
use Rattle.bm_base.specs.declared.label.Hop.TheVariants.{Direct}
use Rattle.bm_base.specs.declared.label.Label.{Label}
use Rattle.bm_base.specs.declared.label.Past.{Past}
use Rattle.bm_base.specs.declared.receive.Taken.{Taken}
use Rattle.bm_base.specs.declared.receive.Taken.TheVariants.{Ended}
use Rattle.bm_seq.specs.Receivers.{after_taken, opened, receiver_after, taken}
use Rattle.bm_seq.specs.declared.receiver.Receiver.{Receiver}
use Rattle.bm_table.proofs.Tables.{eq-same_server}
use Rattle.bm_table.specs.Tables.{same_server, table}
use Rattle.bm_core.specs.Accounts.{before}
use Rattle.bm_core.specs.Causes.{accepts_elsewhere, is_elsewhere}
use Rattle.bm_core.specs.declared.events.Event.{Event}
use Rattle.bm_core.specs.declared.events.Local.{Local}
use Rattle.bm_core.specs.declared.events.Stage.{Stage}
use Rattle.bm_core.specs.declared.events.Verdict.{Verdict}
use Rattle.bm_core.specs.declared.events.Verdict.TheVariants.{Accept, Process}
use Rattle.bm_core.specs.declared.events.What.{What}
use Rattle.bm_core.specs.declared.events.What.TheVariants.{Publish, Switch, Steer, Lose, Arrive, Close, Retire, Sync}
use Rattle.bm_core.specs.Past.{Accepted, Holding, accept_after, accept_before, accept_of, after_arrival, after_verdict}
use Rattle.bm_core.specs.Past.{bucket, ends, held, held_after, is_accept, is_direct, is_done, is_of, is_sent, label_of}
use Rattle.bm_core.specs.Past.{owner, owner_after, retired, retires, segment_of, sends, shard, timeout, version_of}
use Rattle.bm_core.specs.Runs.{AtEach, IsArrival, IsStep, MayCome, Run}
use Rattle.bm_core.specs.Schedule.{Follows, call_of, first_of, wire}
use Rattle.bm_core.specs.declared.schedule.Call.{Call}
use Rattle.bm_core.specs.declared.schedule.Call.TheVariants.{Steers}
use Rattle.bm_core.specs.Threads.{record_moment}
use Rattle.bm_core.specs.Verdicts.{local_at, onward, receiver_of, verdict_at, verdict_of}
use Rattle.bm_core.proofs.Owned.{false_from_not}
use Rattle.bm_core.proofs.Pasts.{accept_is, is_of_flow, label_is, label_stays, same_flow_refl}
use Rattle.bm_core.proofs.Schedules.{IsFrom, loss_call, taken_kind}
use Rattle.bm_lifetime.proofs.Soonest.{packets_left}
use Rattle.bm_lifetime.proofs.Timed.{AreWithin, IsEarlier, steered_next, timed}
use Rattle.bm_lifetime.specs.Young.{AreOpenings, IsOnly, ends_flow, is_ended}

-- ACCEPTS

accepted_rows : (local : Local) (timeout clock : ℕ) (hop : Hop) (onto : Option Past) (s : Segment)
    → is_accept (verdict_of local timeout clock hop onto s) ≡ true
    → (is_direct hop ≡ true) × (is_opening s ≡ true)
accepted_rows local timeout clock hop onto s e = grind arith

direct_is : (hop : Hop) → is_direct hop ≡ true → hop ≡ Direct
direct_is hop e = grind arith

-- an Accept is of a direct copy of an opening packet
pub accept_opens : (stage : Stage) (past : List Event) (clock k : ℕ) (hop : Hop) (server : ServerId) (verdict : Verdict)
    → (may : IsArrival stage past clock k hop server verdict) → is_accept verdict ≡ true
    → (hop ≡ Direct) × (is_opening may.segment ≡ true)
accept_opens stage past clock k hop server verdict may acc =
    let acc' : is_accept (verdict_at stage past clock may.label hop server may.segment) ≡ true =
    rw may.verdict_is at acc
    in let rows =
    accepted_rows (local_at stage past server may.segment.flow) (timeout stage) clock hop (onward may.label.entry hop)
    may.segment acc'
    in (direct_is hop rows.0, rows.1)

-- the Accept is of packet j, which opened the flow
pub record IsOpened (stage : Stage) (past : List Event) (f : Flow) (a : Accepted) (j : ℕ) : Type 0 where
  pub segment : Segment
  pub is_segment : segment_of stage j ≡ Some segment
  pub flow : segment.flow ≡ f
  pub opens : is_opening segment ≡ true
  pub sent : is_sent past j Direct ≡ true
  pub label : Label
  pub is_label : label_of stage past j ≡ Some label
  pub version : label.version.0 ≡ a.version

opened_stays : (stage : Stage) (past : List Event) (e : Event) (f : Flow) (a : Accepted) (j : ℕ) → IsStep stage past e
    → IsOpened stage past f a j → IsOpened stage (e ∷ past) f a j
opened_stays stage past e f a j step o = record {
  segment = o.segment;
  is_segment = o.is_segment;
  flow = o.flow;
  opens = o.opens;
  sent = or_right (sends e.what j Direct) (is_sent past j Direct) o.sent;
  label = o.label;
  is_label = label_stays stage past e j o.label step o.is_label;
  version = o.version;
}

-- packet j opened the flow, before this moment
abbrev pub WasOpened : Stage → List Event → Flow → Accepted → ℕ → Type 0
WasOpened stage past f a m = (j : ℕ) × IsOpened stage past f a j × (record_moment stage j < m)

was_opened_stays : (stage : Stage) (past : List Event) (e : Event) (f : Flow) (a : Accepted) (m : ℕ)
    → IsStep stage past e → WasOpened stage past f a m → WasOpened stage (e ∷ past) f a m
was_opened_stays stage past e f a m step o = (o.0, opened_stays stage past e f a o.0 step o.1, o.2)

new_opened : (stage : Stage) (past : List Event) (e : Event) (f : Flow) (a : Accepted) (k : ℕ) (hop : Hop)
    (server : ServerId) (verdict : Verdict)
    → IsStep stage past e → IsArrival stage past e.clock.0 k hop server verdict → is_accept verdict ≡ true
    → is_of (segment_of stage k) f ≡ true
    → Some (record { server = server; version = version_of (label_of stage past k); place = length past }) ≡ Some a
    → IsOpened stage (e ∷ past) f a k
new_opened stage past e f a k hop server verdict step may acc of is =
    let rows = accept_opens stage past e.clock.0 k hop server verdict may acc
    in let sent : is_sent past k Direct ≡ true = subst (λ (h : Hop). is_sent past k h ≡ true) rows.0 may.sent
    in let version : version_of (label_of stage past k) ≡ may.label.version.0 = rw may.is_label refl
    in record {
      segment = may.segment;
      is_segment = may.is_segment;
      flow = is_of_flow (segment_of stage k) may.segment f may.is_segment of;
      opens = rows.1;
      sent = or_right (sends e.what k Direct) (is_sent past k Direct) sent;
      label = may.label;
      is_label = label_stays stage past e k may.label step may.is_label;
      version = sym version ∙ ap (λ (x : Accepted). x.version) (same_Some _ _ is);
    }

opened_step : (stage : Stage) (past : List Event) (e : Event) (f : Flow) (a : Accepted) (m : ℕ) (what : What)
    → IsStep stage past e → MayCome stage past e.clock.0 what → IsEarlier stage m what
    → (accept_of stage past f ≡ Some a → WasOpened stage past f a m)
    → accept_after stage past what f (accept_of stage past f) ≡ Some a → WasOpened stage (e ∷ past) f a m
opened_step stage past e f a m (Arrive k hop server verdict) step may earlier old is =
    elim (cases_Bool (is_accept verdict && is_of (segment_of stage k) f)) [
      | inl now ↦
          let parts = and_parts (is_accept verdict) (is_of (segment_of stage k) f) now
          in (
            k,
            new_opened stage past e f a k hop server verdict step may parts.0 parts.1 (rw now at is),
            earlier,
          )
      | inr not_now ↦ was_opened_stays stage past e f a m step (old (rw not_now at is))
    ]
opened_step stage past e f a m (Publish v) step may earlier old is =
    was_opened_stays stage past e f a m step (old is)
opened_step stage past e f a m (Switch x v) step may earlier old is =
    was_opened_stays stage past e f a m step (old is)
opened_step stage past e f a m (Steer k x) step may earlier old is =
    was_opened_stays stage past e f a m step (old is)
opened_step stage past e f a m (Lose k hop) step may earlier old is =
    was_opened_stays stage past e f a m step (old is)
opened_step stage past e f a m (Close server flow closed) step may earlier old is =
    was_opened_stays stage past e f a m step (old is)
opened_step stage past e f a m (Retire server h at result) step may earlier old is =
    was_opened_stays stage past e f a m step (old is)
opened_step stage past e f a m Sync step may earlier old is = was_opened_stays stage past e f a m step (old is)

was_opened : (stage : Stage) (past : List Event) (f : Flow) (a : Accepted) (m : ℕ) → Run stage past
    → AtEach (λ older e. IsEarlier stage m e.what) past → accept_of stage past f ≡ Some a → WasOpened stage past f a m
was_opened stage [] f a m run earlier is = absurd (cc)
was_opened stage (e ∷ past) f a m run earlier is =
    opened_step stage past e f a m e.what run.0 run.0.may earlier.0
    (was_opened stage past f a m run.1 earlier.1) is

-- OWNERS

-- the event that gives a packet its owner steers it
owner_cases : (stage : Stage) (past : List Event) (what : What) (k : ℕ) (a : Accepted)
    → owner_after stage past what k (owner stage past k) ≡ Some a
    → (owner stage past k ≡ Some a)
    ⊎ ((m : MuxId) × (what ≡ Steer k m) × (accept_before stage past (segment_of stage k) ≡ Some a))
owner_cases stage past (Steer packet m) k a is = elim (cases_Bool (eqb packet k)) [
  | inl same ↦ inr (m, ap (λ (j : ℕ). Steer j m) (eqb-true packet k same), rw same at is)
  | inr other ↦ inl (rw other at is)
]
owner_cases stage past (Publish v) k a is = inl is
owner_cases stage past (Switch m v) k a is = inl is
owner_cases stage past (Lose j hop) k a is = inl is
owner_cases stage past (Arrive j hop server verdict) k a is = inl is
owner_cases stage past (Close server flow closed) k a is = inl is
owner_cases stage past (Retire server h at result) k a is = inl is
owner_cases stage past Sync k a is = inl is

accept_at : (stage : Stage) (past : List Event) (o : Option Segment) (s : Segment) (a : Accepted) → o ≡ Some s
    → accept_before stage past o ≡ Some a → accept_of stage past s.flow ≡ Some a
accept_at stage past None s a is acc = absurd (cc)
accept_at stage past (Some t) s a is acc = let same : t ≡ s = same_Some _ _ is in rw same at acc

-- a packet's owner was opened by a packet with an earlier moment
pub owner_opened : (stage : Stage) (most top : ℕ) → AreRising 0 top (map (λ r. r.moment.0) stage.capture.records)
    → (fates : List Fate) (past : List Event) → Follows fates stage past → AreWithin most fates past → Run stage past
    → (k : ℕ) (s : Segment) (a : Accepted) → segment_of stage k ≡ Some s → owner stage past k ≡ Some a
    → WasOpened stage past s.flow a (record_moment stage k)
owner_opened stage most top rise fates [] follows within run k s a is own = absurd (cc)
owner_opened stage most top rise fates (e ∷ past) follows within run k s a is own =
    was_opened_stays stage past e s.flow a (record_moment stage k) run.0
    (elim (owner_cases stage past e.what k a own) [
      | inl old ↦ owner_opened stage most top rise (before fates) past follows.1 within.1 run.1 k s a is old
      | inr new ↦
          let call : call_of e.what ≡ Steers k = ap call_of new.1
          in let kind : loss_call (call_of e.what) ≡ false = rw call refl
          in let t = (taken_kind (before fates) stage past e kind follows.0).1
          in let from : first_of (packets_left stage past) ≡ t.due ∷ [] =
          subst (λ (c : Call). IsFrom (wire (before fates) past) stage past t.due c) call t.from
          in let old = timed stage most top rise (before fates) past follows.1 within.1
          in let next = steered_next stage past t.due k old.steers (t.call ∙ call) from
          in subst (λ (m : ℕ). WasOpened stage past s.flow a m) next.moment
          (was_opened stage past s.flow a t.due.moment run.1 next.ahead.arrived
          (accept_at stage past (segment_of stage k) s a is new.2))
    ])

-- WHAT ITS SERVER HOLDS

opened_start : (s : Segment) → (opened s).start ≡ s.seq
unfolding opened
opened_start s = refl

kept_start : (r : Receiver) (s : Segment) → (receiver_after r s).start ≡ r.start
unfolding receiver_after after_taken
kept_start r s = by (taken r s) where
  by : (t : Taken) → (after_taken t r s).start ≡ r.start
  by t = grind arith

-- the server holds the Accept, with the sequence number of the opening packet
pub record IsHeld (holding : Option Holding) (place start : ℕ) : Type 0 where
  pub now : Holding
  pub is_now : holding ≡ Some now
  pub place_is : now.place ≡ place
  pub start_is : now.receiver.start ≡ start

held_process : (place start at : ℕ) (verdict : Verdict) (s : Segment) (holding : Option Holding)
    → IsHeld holding place start → is_accept verdict ≡ false → ends verdict ≡ false
    → IsHeld (after_verdict at verdict s holding) place start
held_process place start at (Process Ended) s holding h acc ended = absurd (cc)
held_process place start at (Process t) s holding h acc ended = record {
  now = record { place = h.now.place; receiver = receiver_after h.now.receiver s };
  is_now = process_is t h.is_now ended;
  place_is = h.place_is;
  start_is = kept_start h.now.receiver s ∙ h.start_is;
} where
  process_is : (t : Taken) → holding ≡ Some h.now → ends (Process t) ≡ false
      → after_verdict at (Process t) s holding
      ≡ Some (record { place = h.now.place; receiver = receiver_after h.now.receiver s })
  process_is t is ended = rw is (grind arith)
held_process place start at Accept s holding h acc ended = absurd (cc)
held_process place start at verdict s holding h acc ended = h

held_arrival : (place start at : ℕ) (here : Bool) (verdict : Verdict) (o : Option Segment) (f : Flow)
    (holding : Option Holding)
    → IsHeld holding place start → (is_accept verdict && is_of o f) ≡ false → (ends verdict && is_of o f) ≡ false
    → IsHeld (after_arrival at here verdict o f holding) place start
held_arrival place start at here verdict None f holding h acc ended = h
held_arrival place start at here verdict (Some s) f holding h acc ended = elim (cases_Bool (here && same_flow s.flow f)) [
  | inl this ↦
      let of : same_flow s.flow f ≡ true = (and_parts here (same_flow s.flow f) this).1
      in rw this
      (held_process place start at verdict s holding h (left_false (is_accept verdict) (same_flow s.flow f) acc of)
      (left_false (ends verdict) (same_flow s.flow f) ended of))
  | inr other ↦ rw other h
] where
  left_false : (x y : Bool) → (x && y) ≡ false → y ≡ true → x ≡ false
  left_false true y e t = absurd (both_ways _ e t)
  left_false false y e t = refl

held_unless : (t : Bool) (holding : Option Holding) (place start : ℕ) → t ≡ false → IsHeld holding place start
    → IsHeld (cond t None holding) place start
held_unless true holding place start off h = absurd (cc)
held_unless false holding place start off h = h

-- how the flow was opened, that no connection of it was ended, and that the shard of this server isn't retired
pub record IsAlive (stage : Stage) (past : List Event) (f : Flow) (from start : ℕ) (home server : ServerId) : Type 0
  where
    pub openings : AreOpenings stage past f from start home
    pub lives : is_ended stage past f ≡ false
    pub unretired : retired past server (shard stage f) ≡ false

older_openings : (stage : Stage) (past : List Event) (e : Event) (f : Flow) (from start : ℕ) (home : ServerId)
    → IsStep stage past e → AreOpenings stage (e ∷ past) f from start home → AreOpenings stage past f from start home
older_openings stage past e f from start home step openings k s is flow opens sent =
    let now = openings k s is flow opens (or_right (sends e.what k Direct) _ sent)
    in (now.0, now.1, label_then (label_of stage past k) refl now.2) where
      label_then : (o : Option Label) → label_of stage past k ≡ o
          → IfSome (label_of stage (e ∷ past) k) (λ l. l.entry.cur ≡ home) → IfSome o (λ l. l.entry.cur ≡ home)
      label_then None none cur = tt
      label_then (Some l) lab cur = rw (label_stays stage past e k l step lab) at cur

older_alive : (stage : Stage) (past : List Event) (e : Event) (f : Flow) (from start : ℕ) (home server : ServerId)
    → IsStep stage past e → IsAlive stage (e ∷ past) f from start home server
    → IsAlive stage past f from start home server
older_alive stage past e f from start home server step alive = record {
  openings = older_openings stage past e f from start home step alive.openings;
  lives = (or_parts (ends_flow stage e.what f) (is_ended stage past f) alive.lives).1;
  unretired = (or_parts (retires e.what server (shard stage f)) (retired past server (shard stage f)) alive.unretired).1;
}

-- an Accept of the flow is of an opening packet, at their server
accepts_home : (stage : Stage) (past : List Event) (clock k : ℕ) (hop : Hop) (server : ServerId) (verdict : Verdict)
    (f : Flow) (from start : ℕ) (home : ServerId)
    → (may : IsArrival stage past clock k hop server verdict) → is_accept verdict ≡ true
    → is_of (segment_of stage k) f ≡ true → AreOpenings stage past f from start home
    → (may.segment.seq ≡ start) × (server ≡ home)
accepts_home stage past clock k hop server verdict f from start home may acc of openings =
    let rows = accept_opens stage past clock k hop server verdict may acc
    in let sent : is_sent past k Direct ≡ true = subst (λ (h : Hop). is_sent past k h ≡ true) rows.0 may.sent
    in let flow = is_of_flow (segment_of stage k) may.segment f may.is_segment of
    in let got = openings k may.segment may.is_segment flow rows.1 sent
    in let cur : may.label.entry.cur ≡ home = rw may.is_label at got.2
    in let place : arrives_at may.label.entry Direct ≡ Some server =
    subst (λ (h : Hop). arrives_at may.label.entry h ≡ Some server) rows.0 may.place
    in (got.1, sym (same_Some _ _ place) ∙ cur)

held_step : (stage : Stage) (past : List Event) (clock : ℕ) (what : What) (f : Flow) (from start : ℕ) (home : ServerId)
    (a : Accepted)
    → MayCome stage past clock what → AreOpenings stage past f from start home → ends_flow stage what f ≡ false
    → retires what a.server (shard stage f) ≡ false
    → (accept_of stage past f ≡ Some a → IsHeld (held stage past a.server f) a.place start)
    → accept_after stage past what f (accept_of stage past f) ≡ Some a
    → IsHeld (held_after stage (length past) what a.server f (held stage past a.server f)) a.place start
held_step stage past clock (Arrive k hop server verdict) f from start home a may openings ended unretired old is =
    elim (cases_Bool (is_accept verdict && is_of (segment_of stage k) f)) [
      | inl now ↦
          let parts = and_parts (is_accept verdict) (is_of (segment_of stage k) f) now
          in let own =
          accepts_home stage past clock k hop server verdict f from start home may parts.0 parts.1 openings
          in let flow = is_of_flow (segment_of stage k) may.segment f may.is_segment parts.1
          in let is' : Some (record { server = server; version = version_of (label_of stage past k); place = length past })
          ≡ Some a = rw now at is
          in let at : server ≡ a.server = ap (λ (x : Accepted). x.server) (same_Some _ _ is')
          in let place : length past ≡ a.place = ap (λ (x : Accepted). x.place) (same_Some _ _ is')
          in let here : same_server server a.server ≡ true = eq-same_server server a.server at
          in let same : same_flow may.segment.flow f ≡ true = rw flow (same_flow_refl f)
          in let accept : verdict ≡ Accept = accept_is_accept verdict parts.0
          in rw (may.is_segment, here, same, accept)
          (record {
            now = record { place = length past; receiver = opened may.segment };
            is_now = refl;
            place_is = place;
            start_is = opened_start may.segment ∙ own.0;
          })
      | inr not_now ↦ held_arrival a.place start (length past) (same_server server a.server) verdict
          (segment_of stage k) f (held stage past a.server f) (old (rw not_now at is)) not_now ended
    ] where
      accept_is_accept : (v : Verdict) → is_accept v ≡ true → v ≡ Accept
      accept_is_accept v e = grind arith
held_step stage past clock (Close server flow closed) f from start home a may openings ended unretired old is =
    held_unless (same_server server a.server && same_flow flow f && closed) (held stage past a.server f) a.place start
    (no_close (same_server server a.server) (same_flow flow f) closed ended) (old is) where
      no_close : (x y z : Bool) → (z && y) ≡ false → (x && y && z) ≡ false
      no_close x y z e = grind arith
held_step stage past clock (Retire server h at result) f from start home a may openings ended unretired old is =
    held_unless (same_server server a.server && eqb h (shard stage f) && is_done result) (held stage past a.server f)
    a.place start unretired (old is)
held_step stage past clock (Publish v) f from start home a may openings ended unretired old is = old is
held_step stage past clock (Switch m v) f from start home a may openings ended unretired old is = old is
held_step stage past clock (Steer k m) f from start home a may openings ended unretired old is = old is
held_step stage past clock (Lose k hop) f from start home a may openings ended unretired old is = old is
held_step stage past clock Sync f from start home a may openings ended unretired old is = old is

-- while the connection is alive, its server holds it
pub kept_held : (stage : Stage) (past : List Event) (f : Flow) (from start : ℕ) (home : ServerId) (a : Accepted)
    → Run stage past → IsAlive stage past f from start home a.server → accept_of stage past f ≡ Some a
    → IsHeld (held stage past a.server f) a.place start
kept_held stage [] f from start home a run alive is = absurd (cc)
kept_held stage (e ∷ past) f from start home a run alive is =
    let older = older_alive stage past e f from start home a.server run.0 alive
    in held_step stage past e.clock.0 e.what f from start home a run.0.may older.openings
    (or_parts (ends_flow stage e.what f) (is_ended stage past f) alive.lives).0
    (or_parts (retires e.what a.server (shard stage f)) (retired past a.server (shard stage f)) alive.unretired).0
    (kept_held stage past f from start home a run.1 older) is

-- NO SECOND ACCEPT

held_not_accepted : (local : Local) (timeout clock : ℕ) (hop : Hop) (onto : Option Past) (s : Segment) (r : Receiver)
    → local.held ≡ Some r → r.start ≡ s.seq → is_accept (verdict_of local timeout clock hop onto s) ≡ false
held_not_accepted local timeout clock hop onto s r is start = grind (arith, nat_tests)

-- a moment above those of all that arrived
abbrev moment_of : Stage → What → ℕ
moment_of stage (Arrive k hop server verdict) = record_moment stage k
moment_of stage _ = 0

abbrev most_moment : Stage → List Event → ℕ
most_moment stage [] = 0
most_moment stage (e ∷ past) = suc (moment_of stage e.what) + most_moment stage past

earlier_below : (stage : Stage) (m : ℕ) (what : What) → moment_of stage what < m → IsEarlier stage m what
earlier_below stage m (Arrive k hop server verdict) below = below
earlier_below stage m (Publish v) below = tt
earlier_below stage m (Switch n v) below = tt
earlier_below stage m (Steer k n) below = tt
earlier_below stage m (Lose k hop) below = tt
earlier_below stage m (Close server flow closed) below = tt
earlier_below stage m (Retire server h at result) below = tt
earlier_below stage m Sync below = tt

all_below : (stage : Stage) (m : ℕ) (past : List Event) → most_moment stage past ≤ m
    → AtEach (λ older e. IsEarlier stage m e.what) past
all_below stage m [] le = tt
all_below stage m (e ∷ past) le =
    (earlier_below stage m e.what (omega arith), all_below stage m past (omega arith))

all_earlier : (stage : Stage) (past : List Event) → AtEach (λ older e. IsEarlier stage (most_moment stage past) e.what) past
all_earlier stage past = all_below stage (most_moment stage past) past (omega arith)

-- the last Accept of the flow is at the server of its opening packets
accept_home : (stage : Stage) (past : List Event) (f : Flow) (from start : ℕ) (home : ServerId) (a : Accepted)
    → Run stage past → AreOpenings stage past f from start home → accept_of stage past f ≡ Some a → a.server ≡ home
accept_home stage past f from start home a run openings is =
    let was = was_opened stage past f a (most_moment stage past) run (all_earlier stage past) is
    in let o = was.1
    in let got = openings was.0 o.segment o.is_segment o.flow o.opens o.sent
    in let cur : o.label.entry.cur ≡ home = rw o.is_label at got.2
    in let its = label_is stage past run was.0 o.label o.is_label
    in let segment : its.segment ≡ o.segment = same_Some _ _ (sym its.is_segment ∙ o.is_segment)
    in let flow : its.segment.flow ≡ f = ap (λ (x : Segment). x.flow) segment ∙ o.flow
    in let version = o.version
    in let entry : o.label.entry ≡ table stage.script.plan a.version (bucket stage f) =
    its.entry
    ∙ (λ i. table stage.script.plan (version i) (bucket stage (flow i)))
    in sym (accept_is stage past run f a is).server ∙ (ap (λ (x : Entry). x.cur) (sym entry) ∙ cur)

-- where the flow was accepted already, another Accept would be at the server that holds it
no_second : (stage : Stage) (past : List Event) (clock k : ℕ) (hop : Hop) (server : ServerId) (verdict : Verdict)
    (f : Flow) (from start : ℕ) (home : ServerId) (a : Accepted)
    → Run stage past → (may : IsArrival stage past clock k hop server verdict)
    → IsAlive stage past f from start home a.server → accept_of stage past f ≡ Some a
    → (is_accept verdict && is_of (segment_of stage k) f) ≡ true → ⊥
no_second stage past clock k hop server verdict f from start home a run may alive is now =
    let parts = and_parts (is_accept verdict) (is_of (segment_of stage k) f) now
    in let own = accepts_home stage past clock k hop server verdict f from start home may parts.0 parts.1 alive.openings
    in let flow = is_of_flow (segment_of stage k) may.segment f may.is_segment parts.1
    in let at : server ≡ a.server = own.1 ∙ sym (accept_home stage past f from start home a run alive.openings is)
    in let h = kept_held stage past f from start home a run alive is
    in let holds : held stage past server may.segment.flow ≡ Some h.now = rw (at, flow) h.is_now
    in let local : (local_at stage past server may.segment.flow).held ≡ Some h.now.receiver =
    ap receiver_of holds
    in let first : h.now.receiver.start ≡ may.segment.seq = h.start_is ∙ sym own.0
    in let refused : is_accept (verdict_at stage past clock may.label hop server may.segment) ≡ false =
    held_not_accepted (local_at stage past server may.segment.flow) (timeout stage) clock hop
    (onward may.label.entry hop) may.segment h.now.receiver local first
    in let acc : is_accept (verdict_at stage past clock may.label hop server may.segment) ≡ true =
    rw may.verdict_is at parts.0
    in both_ways _ refused acc

accept_stays : (stage : Stage) (past : List Event) (clock : ℕ) (what : What) (f : Flow) (from start : ℕ)
    (home : ServerId) (a : Accepted) → Run stage past → MayCome stage past clock what
    → IsAlive stage past f from start home a.server → accept_of stage past f ≡ Some a
    → accept_after stage past what f (accept_of stage past f) ≡ Some a
accept_stays stage past clock (Arrive k hop server verdict) f from start home a run may alive is =
    elim (cases_Bool (is_accept verdict && is_of (segment_of stage k) f)) [
      | inl now ↦ absurd
          (no_second stage past clock k hop server verdict f from start home a run may alive is now)
      | inr not_now ↦ rw not_now is
    ]
accept_stays stage past clock (Publish v) f from start home a run may alive is = is
accept_stays stage past clock (Switch m v) f from start home a run may alive is = is
accept_stays stage past clock (Steer k m) f from start home a run may alive is = is
accept_stays stage past clock (Lose k hop) f from start home a run may alive is = is
accept_stays stage past clock (Close server flow closed) f from start home a run may alive is = is
accept_stays stage past clock (Retire server h at result) f from start home a run may alive is = is
accept_stays stage past clock Sync f from start home a run may alive is = is

-- a packet's owner is the last Accept of its flow
pub owner_last : (stage : Stage) (past : List Event) (f : Flow) (from start : ℕ) (home : ServerId) (s : Segment)
    (a : Accepted) (k : ℕ)
    → Run stage past → IsAlive stage past f from start home a.server → segment_of stage k ≡ Some s → s.flow ≡ f
    → owner stage past k ≡ Some a → accept_of stage past f ≡ Some a
owner_last stage [] f from start home s a k run alive is flow own = absurd (cc)
owner_last stage (e ∷ past) f from start home s a k run alive is flow own =
    let older = older_alive stage past e f from start home a.server run.0 alive
    in let before : accept_of stage past f ≡ Some a = elim (owner_cases stage past e.what k a own) [
      | inl old ↦ owner_last stage past f from start home s a k run.1 older is flow old
      | inr new ↦ subst (λ (g : Flow). accept_of stage past g ≡ Some a) flow
          (accept_at stage past (segment_of stage k) s a is new.2)
    ]
    in accept_stays stage past e.clock.0 e.what f from start home a run.1 run.0.may older before

-- NO OTHER SERVER

accept_of_it : (accept of same holds : Bool) → (accept && of && not same && holds) ≡ true
    → (accept ≡ true) × (of ≡ true) × (same ≡ false)
accept_of_it accept of same holds e = grind arith

elsewhere_step : (stage : Stage) (all past : List Event) (clock : ℕ) (what : What) (f : Flow) (from start : ℕ)
    (home : ServerId)
    → MayCome stage past clock what → AreOpenings stage past f from start home
    → accepts_elsewhere stage all what f home ≡ true → ⊥
elsewhere_step stage all past clock (Arrive k hop server verdict) f from start home may openings now =
    let parts =
    accept_of_it (is_accept verdict) (is_of (segment_of stage k) f) (same_server server home) _ now
    in let own = accepts_home stage past clock k hop server verdict f from start home may parts.0 parts.1 openings
    in both_ways _ parts.2 (eq-same_server server home own.1)
elsewhere_step stage all past clock (Publish v) f from start home may openings now = absurd (cc)
elsewhere_step stage all past clock (Switch m v) f from start home may openings now = absurd (cc)
elsewhere_step stage all past clock (Steer k m) f from start home may openings now = absurd (cc)
elsewhere_step stage all past clock (Lose k hop) f from start home may openings now = absurd (cc)
elsewhere_step stage all past clock (Close server flow closed) f from start home may openings now = absurd (cc)
elsewhere_step stage all past clock (Retire server h at result) f from start home may openings now = absurd (cc)
elsewhere_step stage all past clock Sync f from start home may openings now = absurd (cc)

not_elsewhere : (stage : Stage) (all past : List Event) (f : Flow) (from start : ℕ) (home : ServerId)
    → Run stage past → AreOpenings stage past f from start home → is_elsewhere stage all past f home ≡ false
not_elsewhere stage all [] f from start home run openings = refl
not_elsewhere stage all (e ∷ past) f from start home run openings =
    let older = older_openings stage past e f from start home run.0 openings
    in or_from (accepts_elsewhere stage all e.what f home) (is_elsewhere stage all past f home)
    (false_from_not _ (elsewhere_step stage all past e.clock.0 e.what f from start home run.0.may older))
    (not_elsewhere stage all past f from start home run.1 older)

-- no other server than that of the last Accept accepted the flow
pub not_held_elsewhere : (stage : Stage) (past : List Event) (f : Flow) (from start : ℕ) (home : ServerId)
    (a : Accepted)
    → Run stage past → AreOpenings stage past f from start home → accept_of stage past f ≡ Some a
    → is_elsewhere stage past past f a.server ≡ false
not_held_elsewhere stage past f from start home a run openings is =
    subst (λ (s : ServerId). is_elsewhere stage past past f s ≡ false)
    (sym (accept_home stage past f from start home a run openings is))
    (not_elsewhere stage past past f from start home run openings)

-- ONE OPENING PACKET

pub once_law : (stage : Stage) (past : List Event) (f : Flow) (o : ℕ) (so : Segment) → segment_of stage o ≡ Some so
    → IsOnly stage past f o → (home : ServerId) × AreOpenings stage past f (record_moment stage o) so.seq home
once_law stage past f o so is only = labelled_at (label_of stage past o) refl where
  at_home : (home : ServerId) → IfSome (label_of stage past o) (λ l. l.entry.cur ≡ home)
      → AreOpenings stage past f (record_moment stage o) so.seq home
  at_home home cur k s seg flow opens sent =
      let same : k ≡ o = only k s seg flow opens sent
      in let segment : s ≡ so = same_Some _ _ (sym seg ∙ (ap (λ (n : ℕ). segment_of stage n) same ∙ is))
      in rw same (omega arith, ap (λ (x : Segment). x.seq) segment, cur)

  labelled_at : (l : Option Label) → label_of stage past o ≡ l
      → (home : ServerId) × AreOpenings stage past f (record_moment stage o) so.seq home
  labelled_at None none = (record { 0 = 0 }, at_home (record { 0 = 0 }) (rw none tt))
  labelled_at (Some l) lab = (l.entry.cur, at_home l.entry.cur (rw lab refl))
