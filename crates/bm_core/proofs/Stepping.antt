-- What comes next in a replay, with its answers, is a step of a run.
use Rattle.std.proofs.Common.{◌≡◌, ℕ, zero, suc, ◌+◌, ◌<◌, ◌≤◌, Bool, true, false, cond, ◌&&◌, ◌||◌, inl, inr, List, []}
use Rattle.std.proofs.Common.{◌∷◌, Option, Some, None, is_some, length, refl, subst, ◌∙◌, arith, eqb}
use Rattle.std.specs.Prelude.{IfSome, nat_lt}
use Rattle.std.proofs.lemmas.Bool.{cases_Bool, both_ways, or_right}
use Rattle.std.proofs.lemmas.Bool.Decides.{nat_tests}
use Rattle.std.proofs.lemmas.Option.{slice_get_cases, same_Some}
use Rattle.bm_base.specs.declared.ids.ServerId.{ServerId}
use Rattle.bm_base.specs.declared.label.Hop.{Hop}
use Rattle.bm_base.proofs.Hops.{same_hop_refl}
use Rattle.bm_base.specs.declared.label.Hop.TheVariants.{Direct, Chained, Twice}
use Rattle.bm_base.specs.declared.fate.Fate.{Fate}
use Rattle.bm_core.specs.Schedule.{Underway}
use Rattle.bm_core.specs.declared.events.Verdict.TheVariants.{Accept, Process, Forward, Reset, Drop}
use Rattle.bm_core.specs.declared.events.What.{What}
use Rattle.bm_core.specs.declared.events.What.TheVariants.{Publish, Switch, Steer, Lose, Arrive, Close, Retire, Sync}
use Rattle.bm_core.specs.declared.events.Event.{Event}
use Rattle.bm_core.specs.declared.events.Stage.{Stage}
use Rattle.bm_table.specs.declared.script.Command.{Command}
use Rattle.bm_table.specs.declared.script.Command.TheVariants.{Change as ChangeCommand, Close as CloseCommand}
use Rattle.bm_table.specs.declared.script.Command.TheVariants.{Retire as RetireCommand, Sync as SyncCommand}
use Rattle.bm_table.specs.Tables.{next_change, IsOrderly}
use Rattle.bm_core.specs.Past.{newest, segment_of, sends, is_sent, is_sent_at, Sending, sending_of}
use Rattle.bm_core.specs.Runs.{last_clock, own_clock, Actor, actor_of, is_by, MayCome, IsStep, Run}
use Rattle.bm_core.specs.Accounts.{fate_now, before, counts}
use Rattle.bm_core.specs.declared.schedule.Call.{Call}
use Rattle.bm_core.specs.declared.schedule.Call.TheVariants.{Retires, Arrives, Steers, Loses}
use Rattle.bm_core.specs.declared.schedule.Due.{Due}
use Rattle.bm_core.specs.Schedule.{call_of, packets_from, retire_dues, retire_commands, retires}
use Rattle.bm_core.specs.Schedule.{put, put_all, put_sent, rest, after_arrive, wire, first_of, arrival_due, left}
use Rattle.bm_core.specs.Schedule.{steers, loss_of_fate, due_loss, IsNextBy, Follows}
use Rattle.bm_core.specs.Inside.Schedule.{IsAnswered}
use Rattle.bm_core.proofs.Schedules.{Each, each_append, each_dropped, IsFrom, IsTaken, taken, taken_kind, counted}
use Rattle.bm_core.proofs.Schedules.{balance, class_of_steers, loss_call, no_loss_taken}
use Rattle.bm_core.proofs.Switching.{published, publish_first}
use Rattle.bm_core.proofs.Accounted.{steer_at, steer_within, steer_records}

-- CLOCKS

own_within : (stage : Stage) (past : List Event) → Run stage past → (a : Actor)
    → IfSome (own_clock stage past a) (λ c. c ≤ last_clock past)
own_within stage [] run a = tt
own_within stage (e ∷ past) run a = elim (cases_Bool (is_by (actor_of stage e.what) a)) [
  | inl is ↦ rw is (omega arith)
  | inr other ↦ rw other (lift (own_clock stage past a) (own_within stage past run.1 a))
] where
  lift : (o : Option ℕ) → IfSome o (λ c. c ≤ last_clock past) → IfSome o (λ c. c ≤ e.clock.0)
  lift None h = tt
  lift (Some c) h = let x = run.0.clock in omega arith

own_rises : (stage : Stage) (past : List Event) → Run stage past → (clock : ℕ) → last_clock past < clock
    → (o : Option Actor) → IfSome o (λ a. IfSome (own_clock stage past a) (λ c. c < clock))
own_rises stage past run clock later None = tt
own_rises stage past run clock later (Some a) = lift (own_clock stage past a) (own_within stage past run a) where
  lift : (o : Option ℕ) → IfSome o (λ c. c ≤ last_clock past) → IfSome o (λ c. c < clock)
  lift None h = tt
  lift (Some c) h = omega arith

-- COPIES UNDER WAY WERE SENT

abbrev pub AllSent : List Event → List Underway → Type 0
AllSent past [] = Unit {0}
AllSent past (u ∷ w) = (is_sent past u.packet u.hop ≡ true) × AllSent past w

put_keeps : (past : List Event) (u : Underway) (w : List Underway) → is_sent past u.packet u.hop ≡ true → AllSent past w
    → AllSent past (put u w)
put_keeps past u [] h all = (h, tt)
put_keeps past u (x ∷ w) h all = elim (cases_Bool (nat_lt u.moment x.moment)) [
  | inl is ↦ rw is (h, all)
  | inr other ↦ rw other (all.0, put_keeps past u w h all.1)
]

put_all_keeps : (past : List Event) (n : ℕ) (u : Underway) (w : List Underway) → is_sent past u.packet u.hop ≡ true
    → AllSent past w → AllSent past (put_all n u w)
put_all_keeps past zero u w h all = all
put_all_keeps past (suc n) u w h all = put_keeps past u (put_all n u w) h (put_all_keeps past n u w h all)

rest_keeps : (past : List Event) (w : List Underway) → AllSent past w → AllSent past (rest w)
rest_keeps past [] all = tt
rest_keeps past (u ∷ w) all = all.1

after_keeps : (past : List Event) (what : What) (w : List Underway) → AllSent past w
    → AllSent past (after_arrive what w)
after_keeps past (Arrive k hop server verdict) w all = rest_keeps past w all
after_keeps past _ w all = all

more_sent : (e : Event) (past : List Event) (w : List Underway) → AllSent past w → AllSent (e ∷ past) w
more_sent e past [] all = tt
more_sent e past (u ∷ w) all = (or_right (sends e.what u.packet u.hop) _ all.0, more_sent e past w all.1)

sent_keeps : (f : Fate) (e : Event) (past : List Event) (o : Option Sending) (w : List Underway) → sending_of e.what ≡ o
    → AllSent (e ∷ past) w → AllSent (e ∷ past) (put_sent f (length past) e.clock.0 o w)
sent_keeps f e past None w is all = all
sent_keeps f e past (Some s) w is all =
    put_all_keeps (e ∷ past) f.copies _ w (rw (is, same_hop_refl s.hop) (here s.packet)) all where
      here : (k : ℕ) → ((eqb k k && true) || is_sent past s.packet s.hop) ≡ true
      here k = let h : eqb k k ≡ true = grind (arith, nat_tests) in rw h refl

-- copies under way were sent
pub wire_sent : (fates : List Fate) (past : List Event) → AllSent past (wire fates past)
wire_sent fates [] = tt
wire_sent fates (e ∷ past) =
    sent_keeps (fate_now fates) e past (sending_of e.what) _ refl
    (more_sent e past _ (after_keeps past e.what _ (wire_sent (before fates) past)))

first_sent : (past : List Event) (w : List Underway) (d : Due) (k : ℕ) (hop : Hop) → AllSent past w
    → arrival_due w ≡ d ∷ [] → d.call ≡ Arrives k hop → is_sent past k hop ≡ true
first_sent past [] d k hop all e c = absurd (cc)
first_sent past (u ∷ w) d k hop all e c =
    let p : u.packet ≡ k = grind arith
    in let q : u.hop ≡ hop = grind arith
    in rw (← p, ← q) all.0

-- A PACKET THAT COMES NEXT WAS NOT STEERED

sends_direct : (what : What) (k : ℕ) → sends what k Direct ≡ true → steer_at k (call_of what) ≡ true
sends_direct (Steer j m) k e = grind arith
sends_direct (Arrive j Direct server (Forward to)) k e = absurd (let h : (eqb j k && false) ≡ true = e in grind arith)
sends_direct (Arrive j Chained server (Forward to)) k e =
    absurd (let h : (eqb j k && false) ≡ true = e in grind arith)
sends_direct (Arrive j Twice server (Forward to)) k e = absurd (cc)
sends_direct (Arrive j h server Accept) k e = absurd (cc)
sends_direct (Arrive j h server (Process t)) k e = absurd (cc)
sends_direct (Arrive j h server (Reset why)) k e = absurd (cc)
sends_direct (Arrive j h server (Drop why)) k e = absurd (cc)
sends_direct (Publish v) k e = absurd (cc)
sends_direct (Switch m v) k e = absurd (cc)
sends_direct (Lose j h) k e = absurd (cc)
sends_direct (Close server flow closed) k e = absurd (cc)
sends_direct (Retire server h at result) k e = absurd (cc)
sends_direct Sync k e = absurd (cc)

sent_counts : (past : List Event) (k : ℕ) → is_sent past k Direct ≡ true
    → 0 < counts past (λ what. steer_at k (call_of what))
sent_counts [] k e = absurd (cc)
sent_counts (x ∷ past) k e = elim (cases_Bool (sends x.what k Direct)) [
  | inl is ↦ rw (sends_direct x.what k is) (omega arith)
  | inr other ↦ let old = sent_counts past k (rw other at e) in omega arith
]

head_counts : (k : ℕ) (dues : List Due) (d : Due) → first_of dues ≡ d ∷ [] → d.call ≡ Steers k
    → 0 < counted (steer_at k) dues
head_counts k [] d e c = absurd (cc)
head_counts k (x ∷ dues) d e c =
    let h : x.call ≡ Steers k = grind arith
    in let same : eqb k k ≡ true = grind (arith, nat_tests)
    in rw (h, same) (omega arith)

at_most_one : (b : Bool) → cond b 1 0 ≤ 1
at_most_one true = omega arith
at_most_one false = omega arith

-- the packet of a Steer that comes next is new, and has a segment
pub new_packet : (fates : List Fate) (stage : Stage) (past : List Event) (k : ℕ) (d : Due) → Follows fates stage past
    → d.call ≡ Steers k → first_of (left (packets_from 1 stage.capture.records) past steers) ≡ d ∷ []
    → (is_sent past k Direct ≡ false) × (is_some (segment_of stage k) ≡ true)
new_packet fates stage past k d follows c e = (fresh, known) where
  bal : counts past (λ what. steer_at k (call_of what)) + counted (steer_at k)
      (left (packets_from 1 stage.capture.records) past steers) ≡ cond (is_some (segment_of stage k)) 1 0
  bal = balance (steer_at k) steers (packets_from 1 stage.capture.records) stage (steer_within k)
      (class_of_steers stage) fates past follows ∙ steer_records stage k

  head : 0 < counted (steer_at k) (left (packets_from 1 stage.capture.records) past steers)
  head = head_counts k _ d e c

  fresh : is_sent past k Direct ≡ false
  fresh = elim (cases_Bool (is_sent past k Direct)) [
    | inl is ↦ absurd (let a =
        sent_counts past k is in let b = bal in let h = head in let one =
        at_most_one (is_some (segment_of stage k)) in omega arith)
    | inr other ↦ other
  ]

  known : is_some (segment_of stage k) ≡ true
  known = elim (cases_Bool (is_some (segment_of stage k))) [
    | inl is ↦ is
    | inr other ↦ absurd (let b =
        bal in let h = head in let z : ◌≡◌ {A = ℕ} (cond (is_some (segment_of stage k)) 1 0) 0 =
        rw other refl in omega arith)
  ]

-- A LOSS THAT IS DUE

due_loss_sent : (fates : List Fate) (past : List Event) (k : ℕ) (hop : Hop) → due_loss fates past ≡ Some (Loses k hop)
    → is_sent_at past k hop (last_clock past) ≡ true
due_loss_sent fates [] k hop e = absurd (cc)
due_loss_sent fates (x ∷ past) k hop e = by (sending_of x.what) refl e where
  by : (o : Option Sending) → sending_of x.what ≡ o → loss_of_fate (fate_now fates) o ≡ Some (Loses k hop)
      → is_sent_at (x ∷ past) k hop x.clock.0 ≡ true
  by None is h = absurd (cc)
  by (Some s) is h = elim (cases_Bool (eqb (fate_now fates).copies 0)) [
    | inl zero_copies ↦
        let c : Loses s.packet s.hop ≡ Loses k hop = same_Some _ _ (rw zero_copies at h)
        in let p : s.packet ≡ k = cc
        in let q : s.hop ≡ hop = cc
        in let a : eqb k k ≡ true = grind (arith, nat_tests)
        in let b : eqb x.clock.0 x.clock.0 ≡ true = grind (arith, nat_tests)
        in rw (is, p, q, same_hop_refl hop, a, b) refl
    | inr other ↦ absurd (let n : ◌≡◌ {A = Option Call} None (Some (Loses k hop)) = rw other at h in cc)
  ]

-- A RETIRE COMES AFTER ITS MOMENT

-- the stated moment is that of the retire
abbrev pub IsStated : Due → Call → Type 0
IsStated d (Retires s h at) = d.moment ≡ at
IsStated d _ = Unit {0}

retires_stated : (s : ServerId) (at n : ℕ) → Each (λ d. IsStated d d.call) (retire_dues s at n)
retires_stated s at zero = tt
retires_stated s at (suc n) =
    each_append (λ d. IsStated d d.call) (retire_dues s at n) _ (retires_stated s at n) (refl, tt)

all_stated : (shards : ℕ) (commands : List Command) → Each (λ d. IsStated d d.call) (retire_commands shards commands)
all_stated shards [] = tt
all_stated shards (CloseCommand at s f ∷ commands) = all_stated shards commands
all_stated shards (ChangeCommand v ∷ commands) = all_stated shards commands
all_stated shards (RetireCommand at s ∷ commands) =
    each_append (λ d. IsStated d d.call) (retire_dues s at.0 shards) _ (retires_stated s at.0 shards)
    (all_stated shards commands)
all_stated shards (SyncCommand at ∷ commands) = all_stated shards commands

first_stated : (dues : List Due) (d : Due) → Each (λ x. IsStated x x.call) dues → first_of dues ≡ d ∷ []
    → IsStated d d.call
first_stated [] d each e = absurd (cc)
first_stated (x ∷ dues) d each e = let same : x ≡ d = cc in subst (λ (y : Due). IsStated y y.call) same each.0

retire_moment : (stage : Stage) (past : List Event) (d : Due) (s : ServerId) (h at : ℕ)
    → first_of (left (retire_commands stage.script.setting.shards stage.script.commands) past retires) ≡ d ∷ []
    → d.call ≡ Retires s h at → d.moment ≡ at
retire_moment stage past d s h at e c =
    subst (λ (x : Call). IsStated d x) c
    (first_stated _ d
    (each_dropped (λ x. IsStated x x.call) (counts past (λ what. retires (call_of what))) _
    (all_stated stage.script.setting.shards stage.script.commands)) e)

-- THE STEP

pub may_publish : (stage : Stage) (n : ℕ) → is_some (next_change stage.script.plan n) ≡ true
    → suc n ≤ length stage.script.plan.changes
may_publish stage n is = elim (slice_get_cases stage.script.plan.changes n).1 [
  | inl inside ↦ let a = inside.1 in omega arith
  | inr past_end ↦ absurd (let h : ◌≡◌ {A = Bool} false true = rw past_end.1 at is in cc)
]

may : (fates : List Fate) (stage : Stage) (past : List Event) (clock : ℕ) (what : What) → Follows fates stage past
    → IsOrderly stage.script.plan
    → (loss_call (call_of what) ≡ false → IsTaken (wire fates past) stage past clock (call_of what))
    → (loss_call (call_of what) ≡ true → (due_loss fates past ≡ Some (call_of what)) × (clock ≡ suc (last_clock past)))
    → IsAnswered stage past clock what → MayCome stage past clock what
may fates stage past clock (Publish v) follows orderly t l a =
    let x = (t refl).from in (x.1, rw x.1 (may_publish stage (newest past) x.0))
may fates stage past clock (Switch m v) follows orderly t l a =
    let x = t refl
    in (
      x.from.0,
      published stage past x.due v.0 orderly x.from.1 (next_change stage.script.plan (newest past)) refl
          (publish_first (wire fates past) stage past x.due x.is_least),
    )
may fates stage past clock (Steer k m) follows orderly t l a =
    let x = t refl
    in let n = new_packet fates stage past k x.due follows x.call x.from
    in (a, n.0, n.1)
may fates stage past clock (Lose k hop) follows orderly t l a =
    let x = l refl in (last_clock past, (let e = x.1 in omega arith), due_loss_sent fates past k hop x.0)
may fates stage past clock (Arrive k hop server verdict) follows orderly t l a =
    let x = t refl
    in record {
      segment = a.segment;
      is_segment = a.is_segment;
      label = a.label;
      is_label = a.is_label;
      sent = first_sent past (wire fates past) x.due k hop (wire_sent fates past) x.from x.call;
      place = a.place;
      verdict_is = a.verdict_is;
    }
may fates stage past clock (Close server flow closed) follows orderly t l a = a
may fates stage past clock (Retire server h at result) follows orderly t l a =
    let x = t refl
    in let m : x.due.moment ≡ at.0 = retire_moment stage past x.due server h at.0 x.from x.call
    in let after = x.after
    in ((omega arith), a)
may fates stage past clock Sync follows orderly t l a = tt

-- what comes next is a step
pub step : (fates : List Fate) (stage : Stage) (past : List Event) (e : Event) → IsOrderly stage.script.plan
    → Run stage past → Follows fates stage past → IsNextBy fates stage past e → IsAnswered stage past e.clock.0 e.what
    → IsStep stage past e
step fates stage past e orderly run follows next answered = record {
  clock = let h = later in omega arith;
  own = own_rises stage past run e.clock.0 later (actor_of stage e.what);
  may = may fates stage past e.clock.0 e.what follows orderly
      (λ kind. (taken_kind fates stage past e kind next).1)
      (λ kind. elim (taken (wire fates past) stage past e (due_loss fates past) next) [
        | inl l ↦ l
        | inr t ↦ absurd (both_ways _ (no_loss (wire fates past) t.1.due (call_of e.what) t.1.from) kind)
      ])
      answered;
} where
  later : last_clock past < e.clock.0
  later = elim (taken (wire fates past) stage past e (due_loss fates past) next)
      [ inl l ↦ (let h = l.1 in omega arith) | inr t ↦ t.1.later ]

  no_loss : (w : List Underway) (d : Due) (c : Call) → IsFrom w stage past d c → loss_call c ≡ false
  no_loss w d c from = no_loss_taken w stage past d c from
