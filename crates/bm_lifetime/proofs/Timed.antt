-- How far a replay's clocks run ahead: each copy of a packet arrives within its delays and the number of events after
-- the moment of its record.
use Rattle.std.proofs.Common.{◌≡◌, ℕ, zero, suc, ◌+◌, ◌*◌, ◌<◌, ◌≤◌, max, true, false, inl, inr, List, [], ◌∷◌}
use Rattle.std.proofs.Common.{Option, Some, None, length, refl, sym, ap, ◌∙◌, subst, arith}
use Rattle.std.specs.Prelude.{IfSome, map}
use Rattle.std.proofs.lemmas.Bool.{cases_Bool, eqb-true}
use Rattle.std.proofs.lemmas.Option.{same_Some}
use Rattle.bm_base.specs.Captures.{AreRising}
use Rattle.bm_base.specs.Labels.{hop_after, hop_number}
use Rattle.bm_base.proofs.Hops.{next_number}
use Rattle.bm_base.specs.declared.fate.Fate.{Fate}
use Rattle.bm_base.specs.declared.label.Hop.{Hop}
use Rattle.bm_table.specs.Tables.{change_moment, next_change}
use Rattle.bm_core.specs.Accounts.{before, fate_now}
use Rattle.bm_core.specs.declared.events.Event.{Event}
use Rattle.bm_core.specs.declared.events.Stage.{Stage}
use Rattle.bm_core.specs.declared.events.Verdict.TheVariants.{Forward}
use Rattle.bm_core.specs.declared.events.What.{What}
use Rattle.bm_core.specs.declared.events.What.TheVariants.{Publish, Switch, Steer, Lose, Arrive, Close, Retire, Sync}
use Rattle.bm_core.specs.declared.schedule.Call.{Call}
use Rattle.bm_core.specs.declared.schedule.Call.TheVariants.{Arrives, Steers, Switches}
use Rattle.bm_core.specs.declared.schedule.Due.{Due}
use Rattle.bm_core.specs.Past.{Sending, is_switch_of, sending_of}
use Rattle.bm_core.specs.Runs.{AtEach, last_clock, next_clock}
use Rattle.bm_core.specs.Schedule.{Follows, IsNextBy, Underway, arrival_due, call_of, due_loss, first_of, wire}
use Rattle.bm_core.specs.Threads.{record_moment}
use Rattle.bm_core.proofs.Schedules.{Each, IsFrom, IsTaken, due_is_loss, loss_call, taken, taken_kind}
use Rattle.bm_lifetime.proofs.Soonest.{AllU, IsSteerOf, all_after, all_sent, all_so, each_head, each_so}
use Rattle.bm_lifetime.proofs.Soonest.{lag_of, left_are, left_more, packets_left, soonest, switch_is, switched_by}

-- DELAYS

-- this many delays, one after another
abbrev pub delays : ℕ → ℕ → ℕ
delays most zero = 0
delays most (suc n) = most + delays most n

pub three_delays : (most n : ℕ) → n ≤ 3 → delays most n ≤ 3 * most
three_delays most zero few = omega arith
three_delays most (suc zero) few = omega arith
three_delays most (suc (suc zero)) few = omega arith
three_delays most (suc (suc (suc zero))) few = omega arith
three_delays most (suc (suc (suc (suc n)))) few = absurd (omega arith)

-- each sending is delayed for at most this long
abbrev pub AreWithin : ℕ → List Fate → List Event → Type 0
AreWithin most fates [] = Unit {0}
AreWithin most fates (e ∷ past) =
    IfSome (sending_of e.what) (λ s. (fate_now fates).delay ≤ most) × AreWithin most (before fates) past

-- WHAT IS KEPT

-- the event is no arrival of a packet whose record has this moment or a later one
abbrev pub IsEarlier : Stage → ℕ → What → Type 0
IsEarlier stage m (Arrive k hop server verdict) = record_moment stage k < m
IsEarlier stage m _ = Unit {0}

-- what came has stated moments no later than this
pub record IsAhead (stage : Stage) (past : List Event) (m : ℕ) : Type 0 where
  pub clock : last_clock past ≤ m + length past
  pub switched : (n v : ℕ) → switched_by past n ≡ suc v
      → change_moment (next_change stage.script.plan v) + lag_of stage n ≤ m
  pub arrived : AtEach (λ older e. IsEarlier stage m e.what) past

-- a copy under way
pub record IsOnWay (stage : Stage) (most : ℕ) (past : List Event) (u : Underway) : Type 0 where
  pub placed : u.place < length past
  pub slow : last_clock past + suc u.place ≤ u.moment + length past
  pub late : record_moment stage u.packet < u.moment
  pub soon : u.moment ≤ record_moment stage u.packet + delays most (suc (hop_number u.hop)) + suc u.place

pub record IsTimed (stage : Stage) (most : ℕ) (fates : List Fate) (past : List Event) : Type 0 where
  pub steers : Each (λ x. IsAhead stage past x.moment) (packets_left stage past)
  pub copies : AllU (IsOnWay stage most past) (wire fates past)

-- an event of a packet comes so soon after the moment of its record
abbrev pub IsPunctual : Stage → ℕ → List Event → ℕ → What → Type 0
IsPunctual stage most past clock (Steer k m) =
    (record_moment stage k < clock) × (clock ≤ record_moment stage k + suc (length past))
IsPunctual stage most past clock (Arrive k hop server verdict) =
    (record_moment stage k < clock)
    × (clock ≤ record_moment stage k + delays most (suc (hop_number hop)) + suc (length past))
IsPunctual stage most past clock _ = Unit {0}

-- A STEP

-- the packet that is steered next
pub record IsSteered (stage : Stage) (past : List Event) (d : Due) (k : ℕ) : Type 0 where
  pub moment : d.moment ≡ record_moment stage k
  pub ahead : IsAhead stage past d.moment

pub steered_next : (stage : Stage) (past : List Event) (d : Due) (k : ℕ)
    → Each (λ x. IsAhead stage past x.moment) (packets_left stage past)
    → d.call ≡ Steers k → first_of (packets_left stage past) ≡ d ∷ [] → IsSteered stage past d k
steered_next stage past d k steers call first =
    let ahead : IsAhead stage past d.moment =
    each_head (λ x. IsAhead stage past x.moment) (packets_left stage past) d first steers
    in let of : IsSteerOf stage d = each_head (IsSteerOf stage) (packets_left stage past) d first (left_are stage past)
    in let both : Steers of.0 ≡ Steers k = sym of.1 ∙ call
    in let same : of.0 ≡ k = cc
    in record { moment = of.2 ∙ ap (λ (n : ℕ). record_moment stage n) same; ahead = ahead }

-- the copy that arrives next
pub record IsArriving (stage : Stage) (most : ℕ) (past : List Event) (d : Due) (k : ℕ) (hop : Hop) : Type 0 where
  pub copy : Underway
  pub moment : copy.moment ≡ d.moment
  pub packet : copy.packet ≡ k
  pub hop_is : copy.hop ≡ hop
  pub on_way : IsOnWay stage most past copy

pub arriving_next : (stage : Stage) (most : ℕ) (past : List Event) (d : Due) (k : ℕ) (hop : Hop) (w : List Underway)
    → AllU (IsOnWay stage most past) w → d.call ≡ Arrives k hop → arrival_due w ≡ d ∷ []
    → IsArriving stage most past d k hop
arriving_next stage most past d k hop [] all call first = absurd (cc)
arriving_next stage most past d k hop (u ∷ w) all call first =
    let p : u.packet ≡ k = grind arith
    in let q : u.hop ≡ hop = grind arith
    in let m : u.moment ≡ d.moment = grind arith
    in record { copy = u; moment = m; packet = p; hop_is = q; on_way = all.0 }

punctual_kind : (stage : Stage) (most : ℕ) (fates : List Fate) (past : List Event) (clock : ℕ) (what : What)
    → IsTimed stage most fates past → (loss_call (call_of what) ≡ false → IsTaken (wire fates past) stage past clock (call_of what))
    → IsPunctual stage most past clock what
punctual_kind stage most fates past clock (Steer k m) timed take =
    let t = take refl
    in let s = steered_next stage past t.due k timed.steers t.call t.from
    in let is : clock ≡ next_clock (last_clock past) t.due.moment = t.clock_is
    in let moment = s.moment
    in let ahead = s.ahead.clock
    in (omega arith, omega arith)
punctual_kind stage most fates past clock (Arrive k hop server verdict) timed take =
    let t = take refl
    in let a = arriving_next stage most past t.due k hop (wire fates past) timed.copies t.call t.from
    in let is : clock ≡ next_clock (last_clock past) t.due.moment = t.clock_is
    in let moment = a.moment
    in let placed = a.on_way.placed
    in let slow = a.on_way.slow
    in let late : record_moment stage k < a.copy.moment =
    subst (λ (n : ℕ). record_moment stage n < a.copy.moment) a.packet a.on_way.late
    in let soon : a.copy.moment ≤ record_moment stage k + delays most (suc (hop_number hop)) + suc a.copy.place =
    subst (λ (n : ℕ). a.copy.moment ≤ record_moment stage n + delays most (suc (hop_number hop)) + suc a.copy.place)
    a.packet
    (subst
    (λ (h : Hop). a.copy.moment
    ≤ record_moment stage a.copy.packet + delays most (suc (hop_number h)) + suc a.copy.place)
    a.hop_is a.on_way.soon)
    in arrives_at_clock clock (last_clock past) t.due.moment a.copy.moment a.copy.place (length past)
    (record_moment stage k) (delays most (suc (hop_number hop))) is moment placed slow late soon where
      arrives_at_clock : (clock last due moment place n first delay : ℕ) → clock ≡ next_clock last due → moment ≡ due
          → place < n → last + suc place ≤ moment + n → first < moment → moment ≤ first + delay + suc place
          → (first < clock) × (clock ≤ first + delay + suc n)
      arrives_at_clock clock last due moment place n first delay is same placed slow late soon =
          (omega arith, omega arith)
punctual_kind stage most fates past clock (Publish v) timed take = tt
punctual_kind stage most fates past clock (Switch m v) timed take = tt
punctual_kind stage most fates past clock (Lose k hop) timed take = tt
punctual_kind stage most fates past clock (Close server flow closed) timed take = tt
punctual_kind stage most fates past clock (Retire server h at result) timed take = tt
punctual_kind stage most fates past clock Sync timed take = tt

-- what an event sends goes so soon after the moment of its record
sent_clock : (stage : Stage) (most : ℕ) (past : List Event) (clock : ℕ) (what : What) (s : Sending)
    → IsPunctual stage most past clock what → sending_of what ≡ Some s
    → (record_moment stage s.packet < clock)
    × (clock ≤ record_moment stage s.packet + delays most (hop_number s.hop) + suc (length past))
sent_clock stage most past clock (Steer k m) s punctual is =
    subst (λ (x : Sending). (record_moment stage x.packet < clock)
    × (clock ≤ record_moment stage x.packet + delays most (hop_number x.hop) + suc (length past))) (same_Some _ _ is)
    (punctual.0, (let h = punctual.1 in omega arith))
sent_clock stage most past clock (Arrive k hop server (Forward to)) s punctual is =
    forwarded (hop_after hop) refl is where
      forwarded : (o : Option Hop) → hop_after hop ≡ o
          → sending_of (Arrive k hop server (Forward to)) ≡ Some s
          → (record_moment stage s.packet < clock)
          × (clock ≤ record_moment stage s.packet + delays most (hop_number s.hop) + suc (length past))
      forwarded None after is = absurd (let h : ◌≡◌ {A = Option Sending} None (Some s) = rw after at is in cc)
      forwarded (Some next) after is =
          let one : ◌≡◌ {A = Option Sending} (Some (record { packet = k; hop = next })) (Some s) = rw after at is
          in let number : hop_number next ≡ suc (hop_number hop) = next_number hop next after
          in subst (λ (x : Sending). (record_moment stage x.packet < clock)
          × (clock ≤ record_moment stage x.packet + delays most (hop_number x.hop) + suc (length past)))
          (same_Some _ _ one) (
            punctual.0,
            subst (λ (n : ℕ). clock ≤ record_moment stage k + delays most n + suc (length past)) (sym number) punctual.1,
          )
sent_clock stage most past clock (Arrive k hop server verdict) s punctual is = absurd (cc)
sent_clock stage most past clock (Publish v) s punctual is = absurd (cc)
sent_clock stage most past clock (Switch m v) s punctual is = absurd (cc)
sent_clock stage most past clock (Lose k hop) s punctual is = absurd (cc)
sent_clock stage most past clock (Close server flow closed) s punctual is = absurd (cc)
sent_clock stage most past clock (Retire server h at result) s punctual is = absurd (cc)
sent_clock stage most past clock Sync s punctual is = absurd (cc)

each_always : (P : Due → Type 0) → ((d : Due) → P d) → (xs : List Due) → Each P xs
each_always P always [] = tt
each_always P always (x ∷ xs) = (always x, each_always P always xs)

all_always : (P : Underway → Type 0) → ((u : Underway) → P u) → (w : List Underway) → AllU P w
all_always P always [] = tt
all_always P always (u ∷ w) = (always u, all_always P always w)

-- the event's clock is one above the clock before it, or one above a moment that none that can come is before
pub record IsCalled (fates : List Fate) (stage : Stage) (past : List Event) (e : Event) : Type 0 where
  pub due : ℕ
  pub clock : e.clock.0 ≤ suc (max (last_clock past) due)
  pub steers : Each (λ x. due ≤ x.moment) (packets_left stage past)
  pub copies : AllU (λ u. due ≤ u.moment) (wire fates past)
  pub switches : (n v : ℕ) → call_of e.what ≡ Switches n v
      → (v ≡ suc (switched_by past n))
      × (change_moment (next_change stage.script.plan (switched_by past n)) + lag_of stage n ≡ due)
  pub arrives : (k : ℕ) (hop : Hop) → call_of e.what ≡ Arrives k hop → record_moment stage k < due

called_taken : (fates : List Fate) (stage : Stage) (past : List Event) (e : Event) (most top : ℕ)
    → AreRising 0 top (map (λ r. r.moment.0) stage.capture.records)
    → IsTimed stage most fates past → IsTaken (wire fates past) stage past e.clock.0 (call_of e.what)
    → IsCalled fates stage past e
called_taken fates stage past e most top rise timed t =
    let soon = soonest fates stage past t.due top rise t.is_least
    in record {
      due = t.due.moment;
      clock = let is : e.clock.0 ≡ next_clock (last_clock past) t.due.moment = t.clock_is in omega arith;
      steers = soon.steers;
      copies = soon.copies;
      switches = λ n v is. let s = switch_is (wire fates past) stage past t.due n v t.is_least (t.call ∙ is)
          in (s.0, sym s.1);
      arrives = λ k hop is.
          let a =
          arriving_next stage most past t.due k hop (wire fates past) timed.copies (t.call ∙ is)
          (arrives_from k hop is)
          in let late : record_moment stage k < a.copy.moment =
          subst (λ (n : ℕ). record_moment stage n < a.copy.moment) a.packet a.on_way.late
          in let moment = a.moment
          in omega arith;
    } where
      arrives_from : (k : ℕ) (hop : Hop) → call_of e.what ≡ Arrives k hop → arrival_due (wire fates past) ≡ t.due ∷ []
      arrives_from k hop is = subst (λ (c : Call). IsFrom (wire fates past) stage past t.due c) is t.from

called_loss : (fates : List Fate) (stage : Stage) (past : List Event) (e : Event) → loss_call (call_of e.what) ≡ true
    → e.clock.0 ≡ suc (last_clock past) → IsCalled fates stage past e
called_loss fates stage past e loss clock = record {
  due = 0;
  clock = omega arith;
  steers = each_always (λ x. 0 ≤ x.moment) (λ x. omega arith) (packets_left stage past);
  copies = all_always (λ u. 0 ≤ u.moment) (λ u. omega arith) (wire fates past);
  switches = λ n v is. absurd (let bad : loss_call (Switches n v) ≡ true = rw is at loss in cc);
  arrives = λ k hop is. absurd (let bad : loss_call (Arrives k hop) ≡ true = rw is at loss in cc);
}

called : (fates : List Fate) (stage : Stage) (past : List Event) (e : Event) (most top : ℕ)
    → AreRising 0 top (map (λ r. r.moment.0) stage.capture.records)
    → IsTimed stage most fates past → IsNextBy fates stage past e → IsCalled fates stage past e
called fates stage past e most top rise old next = elim (taken (wire fates past) stage past e (due_loss fates past) next) [
  | inl l ↦ called_loss fates stage past e (due_is_loss fates past (call_of e.what) l.0) l.1
  | inr t ↦ called_taken fates stage past e most top rise old t.1
]

switch_call : (what : What) (n : ℕ) → is_switch_of what n ≡ true → (v : ℕ) × (call_of what ≡ Switches n v)
switch_call (Switch m v) n is =
    let same : m.0 ≡ n = eqb-true m.0 n is in (v.0, ap (λ (x : ℕ). Switches x v.0) same)
switch_call (Publish v) n is = absurd (cc)
switch_call (Steer k m) n is = absurd (cc)
switch_call (Lose k hop) n is = absurd (cc)
switch_call (Arrive k hop server verdict) n is = absurd (cc)
switch_call (Close server flow closed) n is = absurd (cc)
switch_call (Retire server h at result) n is = absurd (cc)
switch_call Sync n is = absurd (cc)

earlier_now : (stage : Stage) (m due : ℕ) (what : What) → due ≤ m
    → ((k : ℕ) (hop : Hop) → call_of what ≡ Arrives k hop → record_moment stage k < due) → IsEarlier stage m what
earlier_now stage m due (Arrive k hop server verdict) le arrives = let h = arrives k hop refl in omega arith
earlier_now stage m due (Publish v) le arrives = tt
earlier_now stage m due (Switch n v) le arrives = tt
earlier_now stage m due (Steer k n) le arrives = tt
earlier_now stage m due (Lose k hop) le arrives = tt
earlier_now stage m due (Close server flow closed) le arrives = tt
earlier_now stage m due (Retire server h at result) le arrives = tt
earlier_now stage m due Sync le arrives = tt

ahead_step : (fates : List Fate) (stage : Stage) (past : List Event) (e : Event) (m : ℕ)
    → (c : IsCalled fates stage past e) → IsAhead stage past m → c.due ≤ m → IsAhead stage (e ∷ past) m
ahead_step fates stage past e m c old le = record {
  clock = let a = c.clock in let b = old.clock in omega arith;
  switched = λ n v is. elim (cases_Bool (is_switch_of e.what n)) [
    | inl now ↦
        let count : switched_by (e ∷ past) n ≡ suc (switched_by past n) = rw now (omega arith)
        in let call = switch_call e.what n now
        in let s = c.switches n call.0 call.1
        in let same : switched_by past n ≡ v = omega arith
        in subst (λ (x : ℕ). change_moment (next_change stage.script.plan x) + lag_of stage n ≤ m) same
        (let d = s.1 in omega arith)
    | inr not ↦
        let count : switched_by (e ∷ past) n ≡ switched_by past n = rw not (omega arith)
        in old.switched n v (sym count ∙ is)
  ];
  arrived = (earlier_now stage m c.due e.what le c.arrives, old.arrived);
}

on_way_step : (fates : List Fate) (stage : Stage) (most : ℕ) (past : List Event) (e : Event)
    → (c : IsCalled fates stage past e) → (u : Underway) → IsOnWay stage most past u → c.due ≤ u.moment
    → IsOnWay stage most (e ∷ past) u
on_way_step fates stage most past e c u old le = record {
  placed = let p = old.placed in omega arith;
  slow = let p = old.placed in let s = old.slow in let k = c.clock in omega arith;
  late = old.late;
  soon = old.soon;
}

-- THE WHOLE

pub timed : (stage : Stage) (most top : ℕ) → AreRising 0 top (map (λ r. r.moment.0) stage.capture.records)
    → (fates : List Fate) (past : List Event) → Follows fates stage past → AreWithin most fates past
    → IsTimed stage most fates past
timed stage most top rise fates [] follows within = record {
  steers = each_always (λ x. IsAhead stage [] x.moment)
      (λ x. record { clock = omega arith; switched = λ n v is. absurd (omega arith); arrived = tt })
      (packets_left stage []);
  copies = tt;
}
timed stage most top rise fates (e ∷ past) follows within =
    let old = timed stage most top rise (before fates) past follows.1 within.1
    in let c = called (before fates) stage past e most top rise old follows.0
    in let punctual =
    punctual_kind stage most (before fates) past e.clock.0 e.what old
    (λ kind. (taken_kind (before fates) stage past e kind follows.0).1)
    in record {
      steers =
          left_more (λ x. IsAhead stage (e ∷ past) x.moment) stage past e
          (each_so (λ x. IsAhead stage past x.moment) (λ x. c.due ≤ x.moment) (λ x. IsAhead stage (e ∷ past) x.moment)
          (λ x a le. ahead_step (before fates) stage past e x.moment c a le) (packets_left stage past) old.steers
          c.steers);
      copies =
          all_sent (IsOnWay stage most (e ∷ past)) (fate_now fates) (length past) e.clock.0 (sending_of e.what) _
          (λ s is. sent_on_way (before fates) (fate_now fates) past e s
          (sent_clock stage most past e.clock.0 e.what s punctual is)
          (subst (λ (o : Option Sending). IfSome o (λ x. (fate_now fates).delay ≤ most)) is within.0))
          (all_after (IsOnWay stage most (e ∷ past)) e.what (wire (before fates) past)
          (all_so (IsOnWay stage most past) (λ u. c.due ≤ u.moment) (IsOnWay stage most (e ∷ past))
          (on_way_step (before fates) stage most past e c) (wire (before fates) past) old.copies c.copies));
    } where
      sent_on_way : (fates : List Fate) (f : Fate) (past : List Event) (e : Event) (s : Sending)
          → (record_moment stage s.packet < e.clock.0)
          × (e.clock.0 ≤ record_moment stage s.packet + delays most (hop_number s.hop) + suc (length past))
          → f.delay ≤ most
          → IsOnWay stage most (e ∷ past)
          (record { moment = e.clock.0 + f.delay; place = length past; packet = s.packet; hop = s.hop })
      sent_on_way fates f past e s clock delay = record {
        placed = omega arith;
        slow = omega arith;
        late = let h = clock.0 in omega arith;
        soon = let h = clock.1 in omega arith;
      }

-- each event of a packet comes so soon
pub punctual : (stage : Stage) (most top : ℕ) → AreRising 0 top (map (λ r. r.moment.0) stage.capture.records)
    → (fates : List Fate) (past : List Event) (e : Event) → Follows fates stage (e ∷ past)
    → AreWithin most fates (e ∷ past) → IsPunctual stage most past e.clock.0 e.what
punctual stage most top rise fates past e follows within =
    punctual_kind stage most (before fates) past e.clock.0 e.what
    (timed stage most top rise (before fates) past follows.1 within.1)
    (λ kind. (taken_kind (before fates) stage past e kind follows.0).1)
