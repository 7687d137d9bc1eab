-- A replay, played event by event: what comes next, with its answers.
use Rattle.std.proofs.Common.{◌≡◌, ℕ, zero, suc, ◌<◌, List, [], ◌∷◌, Option, Some, None, is_some, refl, sym, ap, subst}
use Rattle.std.specs.Prelude.{IfSome}
use Rattle.std.proofs.lemmas.Option.{same_Some}
use Rattle.bm_base.specs.declared.ids.ServerId.{ServerId}
use Rattle.bm_base.specs.declared.flow.Flow.{Flow}
use Rattle.bm_base.specs.declared.flow.Segment.{Segment}
use Rattle.bm_base.specs.declared.label.Label.{Label}
use Rattle.bm_base.specs.declared.label.Hop.{Hop}
use Rattle.bm_base.specs.declared.fate.Fate.{Fate}
use Rattle.bm_base.specs.Labels.{arrives_at}
use Rattle.bm_table.specs.Tables.{IsOrderly}
use Rattle.bm_core.specs.declared.events.What.{What}
use Rattle.bm_core.specs.declared.events.What.TheVariants.{Publish, Switch, Steer, Lose, Arrive, Close, Retire, Sync}
use Rattle.bm_core.specs.declared.events.Event.{Event}
use Rattle.bm_core.specs.declared.events.Stage.{Stage}
use Rattle.bm_core.specs.declared.schedule.Call.{Call}
use Rattle.bm_core.specs.declared.schedule.Call.TheVariants.{Publishes, Switches, Closes, Retires, Syncs, Arrives}
use Rattle.bm_core.specs.declared.schedule.Call.TheVariants.{Steers, Loses}
use Rattle.bm_core.specs.declared.schedule.Due.{Due}
use Rattle.bm_core.specs.Past.{segment_of, timeout, newest, label_of, held, Sending, sending_of}
use Rattle.bm_core.specs.Verdicts.{verdict_at}
use Rattle.bm_core.specs.Runs.{last_clock, next_clock}
use Rattle.bm_core.specs.Accounts.{IsRouted}
use Rattle.std.proofs.Math.Nat.{mod-lt}
use Rattle.bm_table.specs.declared.setting.RouteKind.{RouteKind}
use Rattle.bm_table.specs.declared.setting.RouteKind.TheVariants.{Port, Turn}
use Rattle.bm_core.specs.Stages.{IsSound}
use Rattle.bm_core.specs.Rules.{mux_of_kind, setting_mux, RouteBy, RuleBy}
use Rattle.bm_core.specs.Schedule.{call_of, least, wire, can_come, due_loss, ComesNext}
use Rattle.bm_core.specs.Inside.Schedule.{IsAnswered}
use Rattle.bm_core.proofs.Determined.{IsTold}
use Rattle.bm_core.proofs.Retiring.{retirement_of, retirement_is}
use Rattle.bm_core.proofs.Stepping.{step}

-- ANSWERS

-- the copy's arrival at the server, with its verdict
abbrev pub arrive_at : Stage → List Event → ℕ → ℕ → Hop → Label → Segment → Option ServerId → Option What
arrive_at stage past clock k hop l s None = None
arrive_at stage past clock k hop l s (Some server) =
    Some (Arrive k hop server (verdict_at stage past clock l hop server s))

abbrev pub arrive : Stage → List Event → ℕ → ℕ → Hop → Option Segment → Option Label → Option What
arrive stage past clock k hop (Some s) (Some l) = arrive_at stage past clock k hop l s (arrives_at l.entry hop)
arrive stage past clock k hop (Some s) None = None
arrive stage past clock k hop None l = None

abbrev pub steer : (ℕ → Flow → ℕ) → ℕ → Option Segment → Option What
steer mux k None = None
steer mux k (Some s) = Some (Steer k (record { 0 = mux k s.flow }))

-- the call with its answers
abbrev pub answer : (ℕ → Flow → ℕ) → Stage → List Event → ℕ → Call → Option What
answer mux stage past clock (Publishes v) = Some (Publish (record { 0 = v }))
answer mux stage past clock (Switches m v) = Some (Switch (record { 0 = m }) (record { 0 = v }))
answer mux stage past clock (Closes s f) = Some (Close s f (is_some (held stage past s f)))
answer mux stage past clock (Retires s h at) =
    Some (Retire s h (record { 0 = at }) (retirement_of stage.script.plan (timeout stage) (newest past) s at))
answer mux stage past clock Syncs = Some Sync
answer mux stage past clock (Arrives k hop) = arrive stage past clock k hop (segment_of stage k) (label_of stage past k)
answer mux stage past clock (Steers k) = steer mux k (segment_of stage k)
answer mux stage past clock (Loses k hop) = Some (Lose k hop)

abbrev pub at_clock : ℕ → Option What → Option Event
at_clock clock None = None
at_clock clock (Some what) = Some (record { clock = record { 0 = clock }; what = what })

abbrev pub from_due : (ℕ → Flow → ℕ) → Stage → List Event → Option Due → Option Event
from_due mux stage past None = None
from_due mux stage past (Some d) =
    at_clock (next_clock (last_clock past) d.moment)
    (answer mux stage past (next_clock (last_clock past) d.moment) d.call)

-- what comes next: the loss that is due, or else the least that can come
abbrev pub coming : (ℕ → Flow → ℕ) → Stage → List Event → Option Call → List Due → Option Event
coming mux stage past (Some loss) dues =
    at_clock (suc (last_clock past)) (answer mux stage past (suc (last_clock past)) loss)
coming mux stage past None dues = from_due mux stage past (least dues)

abbrev pub fate_for : (ℕ → Hop → Fate) → Option Sending → Fate
fate_for fate None = record { copies = 1; delay = 0 }
fate_for fate (Some s) = fate s.packet s.hop

-- the fates by the rule, one for each event
abbrev pub fates_by : (ℕ → Hop → Fate) → List Event → List Fate
fates_by fate [] = []
fates_by fate (e ∷ past) = fate_for fate (sending_of e.what) ∷ fates_by fate past

abbrev pub next_event : (ℕ → Flow → ℕ) → (ℕ → Hop → Fate) → Stage → List Event → Option Event
next_event mux fate stage past =
    coming mux stage past (due_loss (fates_by fate past) past) (can_come (wire (fates_by fate past) past) stage past)

-- at most n more events
unfoldable pub play : (ℕ → Flow → ℕ) → (ℕ → Hop → Fate) → Stage → ℕ → List Event → List Event
play mux fate stage zero past = past
play mux fate stage (suc n) past =
    elim (next_event mux fate stage past) [ None ↦ past | Some e ↦ play mux fate stage n (e ∷ past) ]

-- THE ANSWERS ARE RIGHT

record IsAnswer (mux : ℕ → Flow → ℕ) (stage : Stage) (past : List Event) (clock : ℕ) (c : Call) (what : What) : Type
    0 where
  call : call_of what ≡ c
  routed : IsRouted (RouteBy mux) stage what
  answered : IsAnswered stage past clock what

-- each mux that the route answers is there
abbrev pub IsWithinMuxes : Stage → (ℕ → Flow → ℕ) → Type 0
IsWithinMuxes stage mux = (k : ℕ) (f : Flow) → mux k f < stage.script.setting.muxes

told : (mux : ℕ → Flow → ℕ) (stage : Stage) (past : List Event) (clock : ℕ) (c : Call) (w what : What)
    → ◌≡◌ {A = Option What} (Some w) (Some what) → IsAnswer mux stage past clock c w
    → IsAnswer mux stage past clock c what
told mux stage past clock c w what e is = subst (λ (x : What). IsAnswer mux stage past clock c x) (same_Some _ _ e) is

arrive_at_is : (mux : ℕ → Flow → ℕ) (stage : Stage) (past : List Event) (clock k : ℕ) (hop : Hop) (l : Label)
    (s : Segment) (o : Option ServerId) (what : What)
    → segment_of stage k ≡ Some s → label_of stage past k ≡ Some l → arrives_at l.entry hop ≡ o
    → arrive_at stage past clock k hop l s o ≡ Some what → IsAnswer mux stage past clock (Arrives k hop) what
arrive_at_is mux stage past clock k hop l s None what is_s is_l at e = absurd (cc)
arrive_at_is mux stage past clock k hop l s (Some server) what is_s is_l at e =
    told mux stage past clock (Arrives k hop) _ what e (record {
      call = refl;
      routed = tt;
      answered = record { segment = s; is_segment = is_s; label = l; is_label = is_l; place = at; verdict_is = refl };
    })

arrive_is : (mux : ℕ → Flow → ℕ) (stage : Stage) (past : List Event) (clock k : ℕ) (hop : Hop) (what : What)
    (o : Option Segment) (p : Option Label)
    → segment_of stage k ≡ o → label_of stage past k ≡ p → arrive stage past clock k hop o p ≡ Some what
    → IsAnswer mux stage past clock (Arrives k hop) what
arrive_is mux stage past clock k hop what (Some s) (Some l) is_s is_l e =
    arrive_at_is mux stage past clock k hop l s (arrives_at l.entry hop) what is_s is_l refl e
arrive_is mux stage past clock k hop what (Some s) None is_s is_l e = absurd (cc)
arrive_is mux stage past clock k hop what None p is_s is_l e = absurd (cc)

routed_to : (mux : ℕ → Flow → ℕ) (stage : Stage) (k : ℕ) (s : Segment) (o : Option Segment) → o ≡ Some s
    → IfSome o (λ x. mux k s.flow ≡ mux k x.flow)
routed_to mux stage k s None is = absurd (cc)
routed_to mux stage k s (Some x) is = ap (λ (y : Segment). mux k y.flow) (sym (same_Some _ _ is))

steer_is : (mux : ℕ → Flow → ℕ) (stage : Stage) → IsWithinMuxes stage mux
    → (past : List Event) (clock k : ℕ) (what : What) (o : Option Segment)
    → segment_of stage k ≡ o → steer mux k o ≡ Some what → IsAnswer mux stage past clock (Steers k) what
steer_is mux stage within past clock k what None is e = absurd (cc)
steer_is mux stage within past clock k what (Some s) is e =
    told mux stage past clock (Steers k) _ what e
    (record { call = refl; routed = routed_to mux stage k s (segment_of stage k) is; answered = within k s.flow })

answer_is : (mux : ℕ → Flow → ℕ) (stage : Stage) → IsWithinMuxes stage mux
    → (past : List Event) (clock : ℕ) (c : Call) (what : What) → answer mux stage past clock c ≡ Some what
    → IsAnswer mux stage past clock c what
answer_is mux stage within past clock (Publishes v) what e =
    told mux stage past clock (Publishes v) _ what e (record { call = refl; routed = tt; answered = tt })
answer_is mux stage within past clock (Switches m v) what e =
    told mux stage past clock (Switches m v) _ what e (record { call = refl; routed = tt; answered = tt })
answer_is mux stage within past clock (Closes s f) what e =
    told mux stage past clock (Closes s f) _ what e (record { call = refl; routed = tt; answered = refl })
answer_is mux stage within past clock (Retires s h at) what e =
    told mux stage past clock (Retires s h at) _ what e
    (record {
      call = refl;
      routed = tt;
      answered =
          retirement_is stage.script.plan (timeout stage) (newest past) s at;
    })
answer_is mux stage within past clock Syncs what e =
    told mux stage past clock Syncs _ what e (record { call = refl; routed = tt; answered = tt })
answer_is mux stage within past clock (Arrives k hop) what e =
    arrive_is mux stage past clock k hop what (segment_of stage k) (label_of stage past k) refl refl e
answer_is mux stage within past clock (Steers k) what e =
    steer_is mux stage within past clock k what (segment_of stage k) refl e
answer_is mux stage within past clock (Loses k hop) what e =
    told mux stage past clock (Loses k hop) _ what e (record { call = refl; routed = tt; answered = tt })

-- the event is the call's, at the clock, with right answers
record IsCalled (mux : ℕ → Flow → ℕ) (stage : Stage) (past : List Event) (clock : ℕ) (c : Call) (e : Event) : Type
    0 where
  clock_is : e.clock.0 ≡ clock
  answer : IsAnswer mux stage past e.clock.0 c e.what

at_clock_is : (mux : ℕ → Flow → ℕ) (stage : Stage) (past : List Event) (clock : ℕ) (c : Call) (e : Event)
    (o : Option What) → ((what : What) → o ≡ Some what → IsAnswer mux stage past clock c what)
    → at_clock clock o ≡ Some e → IsCalled mux stage past clock c e
at_clock_is mux stage past clock c e None right is = absurd (cc)
at_clock_is mux stage past clock c e (Some what) right is =
    subst (λ (x : Event). IsCalled mux stage past clock c x) (same_Some _ _ is)
    (record { clock_is = refl; answer = right what refl })

-- what comes next, with its answers
pub record IsPlayed (mux : ℕ → Flow → ℕ) (stage : Stage) (past : List Event) (loss : Option Call) (dues : List Due)
    (e : Event) : Type 0 where
  pub next : ComesNext loss dues past e
  pub routed : IsRouted (RouteBy mux) stage e.what
  pub answered : IsAnswered stage past e.clock.0 e.what

least_is : (mux : ℕ → Flow → ℕ) (stage : Stage) → IsWithinMuxes stage mux
    → (past : List Event) (dues : List Due) (e : Event) (o : Option Due) → least dues ≡ o
    → from_due mux stage past o ≡ Some e → IsPlayed mux stage past None dues e
least_is mux stage within past dues e None l is = absurd (cc)
least_is mux stage within past dues e (Some d) l is =
    let called : IsCalled mux stage past (next_clock (last_clock past) d.moment) d.call e =
    at_clock_is mux stage past (next_clock (last_clock past) d.moment) d.call e _
    (answer_is mux stage within past _ d.call) is
    in record {
      next = rw l (called.answer.call, called.clock_is);
      routed = called.answer.routed;
      answered =
          called.answer.answered;
    }

coming_is : (mux : ℕ → Flow → ℕ) (stage : Stage) → IsWithinMuxes stage mux
    → (past : List Event) (loss : Option Call) (dues : List Due) (e : Event) → coming mux stage past loss dues ≡ Some e
    → IsPlayed mux stage past loss dues e
coming_is mux stage within past (Some c) dues e is =
    let called : IsCalled mux stage past (suc (last_clock past)) c e =
    at_clock_is mux stage past (suc (last_clock past)) c e _ (answer_is mux stage within past _ c) is
    in record {
      next = (called.answer.call, called.clock_is);
      routed = called.answer.routed;
      answered =
          called.answer.answered;
    }
coming_is mux stage within past None dues e is = least_is mux stage within past dues e (least dues) refl is

-- WHAT IS PLAYED IS A REPLAY

fate_is : (fate : ℕ → Hop → Fate) (o : Option Sending) → IfSome o (λ s. RuleBy fate s.packet s.hop (fate_for fate o))
fate_is fate None = tt
fate_is fate (Some s) = refl

-- a replay so far, with the answers of the route and the rule
abbrev pub IsToldBy : (ℕ → Flow → ℕ) → (ℕ → Hop → Fate) → Stage → List Event → Type 0
IsToldBy mux fate stage past = IsTold (RouteBy mux) (RuleBy fate) stage (fates_by fate past) past

one_more : (mux : ℕ → Flow → ℕ) (fate : ℕ → Hop → Fate) (stage : Stage) → IsOrderly stage.script.plan
    → IsWithinMuxes stage mux → (past : List Event) (e : Event) → IsToldBy mux fate stage past
    → next_event mux fate stage past ≡ Some e → IsToldBy mux fate stage (e ∷ past)
one_more mux fate stage orderly within past e t is =
    let played =
    coming_is mux stage within past (due_loss (fates_by fate past) past)
    (can_come (wire (fates_by fate past) past) stage past) e is
    in record {
      run = (step (fates_by fate past) stage past e orderly t.run t.follows played.next played.answered, t.run);
      follows = (played.next, t.follows);
      answered = ((played.routed, fate_is fate (sending_of e.what)), t.answered);
    }

play_step : (mux : ℕ → Flow → ℕ) (fate : ℕ → Hop → Fate) (stage : Stage) → IsOrderly stage.script.plan
    → IsWithinMuxes stage mux → (n : ℕ) (past : List Event) → IsToldBy mux fate stage past
    → ((e : Event) → IsToldBy mux fate stage (e ∷ past) → IsToldBy mux fate stage (play mux fate stage n (e ∷ past)))
    → (o : Option Event) → next_event mux fate stage past ≡ o
    → IsToldBy mux fate stage (elim o [ None ↦ past | Some e ↦ play mux fate stage n (e ∷ past) ])
play_step mux fate stage orderly within n past t old None is = t
play_step mux fate stage orderly within n past t old (Some e) is =
    old e (one_more mux fate stage orderly within past e t is)

pub play_told : (mux : ℕ → Flow → ℕ) (fate : ℕ → Hop → Fate) (stage : Stage) → IsOrderly stage.script.plan
    → IsWithinMuxes stage mux → (n : ℕ) (past : List Event) → IsToldBy mux fate stage past
    → IsToldBy mux fate stage (play mux fate stage n past)
unfolding play
play_told mux fate stage orderly within zero past t = t
play_told mux fate stage orderly within (suc n) past t =
    play_step mux fate stage orderly within n past t
    (λ e more. play_told mux fate stage orderly within n (e ∷ past) more) (next_event mux fate stage past) refl

-- the muxes of a sound stage's route are there
mux_of_kind_within : (r : RouteKind) (muxes k : ℕ) (f : Flow) → 0 < muxes → mux_of_kind r muxes k f < muxes
mux_of_kind_within Port muxes k f some = mod-lt f.sport some
mux_of_kind_within Turn muxes k f some = mod-lt k some

pub mux_within : (stage : Stage) → IsSound stage → IsWithinMuxes stage (setting_mux stage.script.setting)
mux_within stage sound k f =
    let some =
    sound.script.setting.muxes.0 in mux_of_kind_within stage.script.setting.route stage.script.setting.muxes k f some
