-- Each copy of a packet that doesn't open its flow is processed or, as a direct one, forwarded.
use Rattle.std.proofs.Common.{◌≡◌, ℕ, zero, suc, ◌+◌, ◌<◌, ◌≤◌, Bool, true, false, ◌&&◌, ◌⊎◌, inl, inr, List, ◌∷◌}
use Rattle.std.proofs.Common.{Option, Some, None, length, is_some, refl, sym, ap, ◌∙◌, subst, eqb, leb, ltb, arith}
use Rattle.std.specs.Prelude.{◌≢◌, IfSome}
use Rattle.std.proofs.lemmas.Bool.{and_from, and_parts, both_ways, cases_Bool, cases_lt, eq-eqb, eqb-true}
use Rattle.std.proofs.lemmas.Bool.{false_from_ne_true, lt-ltb}
use Rattle.std.proofs.lemmas.Option.{none-some, same_Some}
use Rattle.bm_base.specs.declared.fate.Fate.{Fate}
use Rattle.bm_base.specs.declared.flow.Flow.{Flow}
use Rattle.bm_base.specs.declared.flow.Segment.{Segment}
use Rattle.bm_base.specs.declared.ids.ServerId.{ServerId}
use Rattle.bm_base.specs.declared.label.Hop.{Hop}
use Rattle.bm_base.specs.declared.label.Hop.TheVariants.{Direct, Chained, Twice}
use Rattle.bm_base.specs.declared.label.Label.{Label}
use Rattle.bm_base.specs.Segments.{is_opening}
use Rattle.bm_core.specs.Accounts.{arrives, counts, steers_packet}
use Rattle.bm_core.specs.Causes.{is_process}
use Rattle.bm_core.specs.declared.events.Event.{Event}
use Rattle.bm_core.specs.declared.events.Stage.{Stage}
use Rattle.bm_core.specs.declared.events.Verdict.{Verdict}
use Rattle.bm_core.specs.declared.events.Verdict.TheVariants.{Forward}
use Rattle.bm_core.specs.declared.events.What.{What}
use Rattle.bm_core.specs.declared.events.What.TheVariants.{Publish, Switch, Steer, Lose, Arrive, Close, Retire, Sync}
use Rattle.bm_core.specs.Past.{Accepted, accept_after, accept_of, bucket, is_accept, is_forward, is_of, label_of}
use Rattle.bm_core.specs.Past.{newest, segment_of, shard, timeout, version_of}
use Rattle.bm_core.specs.Pins.{IsKeptArrival, IsPinned, IsPinnedArrival, IsPinnedEvent}
use Rattle.bm_core.specs.Runs.{AtEach, IsArrival, IsStep, MayCome, Run}
use Rattle.bm_core.specs.Stages.{IsSound}
use Rattle.bm_core.specs.Threads.{ArrivesInOrder, arrives_later, is_from, is_in}
use Rattle.bm_core.proofs.Pasts.{is_of_flow, label_is, label_stays, newest_within, same_flow_refl}
use Rattle.bm_core.proofs.Pinned.{kept}
use Rattle.bm_table.proofs.Tables.{eq-same_server}
use Rattle.bm_table.specs.Planned.{Planned}
use Rattle.bm_table.specs.Tables.{moves, moves_next, same_server}
use Rattle.bm_load.proofs.Along.{counts_here, counts_more, counts_not, counts_within, downward, each_along, each_both}
use Rattle.bm_load.proofs.Along.{each_for, each_so, none_here, upward}
use Rattle.bm_load.proofs.Opening.{IsOpener, accept_is_its, accepted, arrives_now}
use Rattle.bm_load.proofs.Shape.{AreOnce, AreWellServed, IsLoadLike, IsRunLike, IsWellServed, once}
use Rattle.bm_load.proofs.Steering.{AreNoOlder, IsEarliest, IsFirst, flow_mux, has_muxes, labels_before, none_from_not}
use Rattle.bm_load.proofs.Steering.{none_or_some, unlabelled_unsteered}
use Rattle.bm_load.proofs.Steps.{IsLoadStep, load_steps}

if_some : {A : Type 0} (o : Option A) (P : A → Type 0) → ((x : A) → o ≡ Some x → P x) → IfSome o P
if_some None P so = tt
if_some (Some x) P so = so x refl

-- WHERE THE OPENING PACKET'S COPY CAME

arrives_is : (what : What) (o : ℕ) → arrives what o Direct ≡ true
    → (server : ServerId) × (verdict : Verdict) × (what ≡ Arrive o Direct server verdict)
arrives_is (Arrive k Direct server verdict) o is =
    let same : k ≡ o = eqb-true k o (and_parts (eqb k o) _ is).0
    in (server, verdict, ap (λ (j : ℕ). Arrive j Direct server verdict) same)
arrives_is (Arrive k Chained server verdict) o is = absurd (let bad = (and_parts (eqb k o) false is).1 in cc)
arrives_is (Arrive k Twice server verdict) o is = absurd (let bad = (and_parts (eqb k o) false is).1 in cc)
arrives_is (Publish v) o is = absurd (cc)
arrives_is (Switch m v) o is = absurd (cc)
arrives_is (Steer k m) o is = absurd (cc)
arrives_is (Lose k hop) o is = absurd (cc)
arrives_is (Close server flow closed) o is = absurd (cc)
arrives_is (Retire server h at result) o is = absurd (cc)
arrives_is Sync o is = absurd (cc)

-- the event is an arrival of the packet at the server
abbrev pub comes : What → ℕ → ServerId → Bool
comes (Arrive k hop server verdict) j s = eqb k j && same_server server s
comes _ j s = false

-- a packet without a label hasn't arrived
uncome_step : (stage : Stage) (past : List Event) (clock : ℕ) (what : What) (k : ℕ) (s : ServerId)
    → MayCome stage past clock what → label_of stage past k ≡ None → comes what k s ≡ false
uncome_step stage past clock (Arrive j hop server verdict) k s may none =
    false_from_ne_true _ (λ is.
    let same : j ≡ k = eqb-true j k (and_parts (eqb j k) _ is).0
    in let lab : label_of stage past k ≡ Some may.label = rw same at may.is_label
    in none-some may.label (sym none ∙ lab))
uncome_step stage past clock (Steer j m) k s may none = refl
uncome_step stage past clock (Publish v) k s may none = refl
uncome_step stage past clock (Switch m v) k s may none = refl
uncome_step stage past clock (Lose j hop) k s may none = refl
uncome_step stage past clock (Close server flow closed) k s may none = refl
uncome_step stage past clock (Retire server h at result) k s may none = refl
uncome_step stage past clock Sync k s may none = refl

uncome : (stage : Stage) (past : List Event) → AtEach (IsLoadStep stage) past → (k : ℕ) (s : ServerId)
    → label_of stage past k ≡ None → counts past (λ what. comes what k s) ≡ 0
uncome stage past steps k s =
    upward (IsLoadStep stage) (λ x. label_of stage x k ≡ None → counts x (λ what. comes what k s) ≡ 0) (λ none. refl)
    (λ x e older here old none.
    let before : label_of stage x k ≡ None =
    none_from_not (label_of stage x k) (λ l lab. none-some l (sym none ∙ label_stays stage x e k l here.step lab))
    in counts_not x e (λ what. comes what k s) (uncome_step stage x e.clock.0 e.what k s here.step.may before)
    ∙ old before)
    past steps

comes_later : (stage : Stage) (past : List Event) (k o : ℕ) (s : Segment) (l : Label) (home : ServerId) (h m : ℕ)
    → segment_of stage k ≡ Some s → label_of stage past k ≡ Some l → shard stage s.flow ≡ h → l.mux.0 ≡ m → o < k
    → (what : What) → comes what k home ≡ true → arrives_later stage past what home h m o ≡ true
comes_later stage past k o s l home h m is lab near from later (Arrive j hop server verdict) comes =
    let parts = and_parts (eqb j k) (same_server server home) comes
    in let same : j ≡ k = eqb-true j k parts.0
    in let a : is_in (segment_of stage j) stage h ≡ true = rw (same, is) (eq-eqb _ _ near)
    in let b : is_from (label_of stage past j) m ≡ true = rw (same, lab) (eq-eqb _ _ from)
    in let c : ltb o j ≡ true = lt-ltb o j (rw same later)
    in rw (parts.1, a, b, c) refl
comes_later stage past k o s l home h m is lab near from later (Steer j x) comes = absurd (cc)
comes_later stage past k o s l home h m is lab near from later (Publish v) comes = absurd (cc)
comes_later stage past k o s l home h m is lab near from later (Switch x v) comes = absurd (cc)
comes_later stage past k o s l home h m is lab near from later (Lose j hop) comes = absurd (cc)
comes_later stage past k o s l home h m is lab near from later (Close server flow closed) comes = absurd (cc)
comes_later stage past k o s l home h m is lab near from later (Retire server x at result) comes = absurd (cc)
comes_later stage past k o s l home h m is lab near from later Sync comes = absurd (cc)

-- the packet has no label but this
abbrev pub IsLabelled : Stage → ℕ → Label → List Event → Type 0
IsLabelled stage o own past = (l : Label) → label_of stage past o ≡ Some l → l ≡ own

labelled_before : (stage : Stage) (o : ℕ) (own : Label) (all : List Event) → AtEach (IsLoadStep stage) all
    → label_of stage all o ≡ Some own → AtEach (λ past e. IsLabelled stage o own past) all
labelled_before stage o own all steps is =
    each_so (λ past e. IsLabelled stage o own (e ∷ past) × IsLabelled stage o own past)
    (λ past e. IsLabelled stage o own past) (λ past e both. both.1) all
    (downward (IsLoadStep stage) (IsLabelled stage o own)
    (λ past e older here later l lab. later l (label_stays stage past e o l here.step lab)) all steps
    (λ l lab. same_Some _ _ (sym lab ∙ is)))

-- a step at which the opening packet has no label but this
abbrev IsLabelledStep : Stage → ℕ → Label → List Event → Event → Type 0
IsLabelledStep stage o own past e = IsLoadStep stage past e × IsLabelled stage o own past

-- until the opening packet arrives, no other packet of its flow arrives at its server
abbrev pub IsHomeFirst : Stage → ℕ → Flow → ServerId → List Event → Type 0
IsHomeFirst stage o f home past =
    counts past (λ what. arrives what o Direct) ≡ 0
    → (k : ℕ) (s : Segment) → k ≢ o → segment_of stage k ≡ Some s → s.flow ≡ f
    → counts past (λ what. comes what k home) ≡ 0

home_step : {stage : Stage} {n o : ℕ} {t : Segment} (own : Label) → IsLoadLike stage n → IsOpener stage o t
    → IsEarliest stage o t.flow → (past : List Event) (e : Event) → AtEach (IsLoadStep stage) past
    → IsLabelledStep stage o own past e → IsHomeFirst stage o t.flow own.entry.cur (e ∷ past)
    → IsHomeFirst stage o t.flow own.entry.cur past
home_step {stage = stage} {o = o} {t = t} own like opener earliest past e older here later none k s other is flow =
    elim (cases_Bool (arrives e.what o Direct)) [
      | inl now ↦ elim (none_or_some (label_of stage past k)) [
        | inl unlabelled ↦ uncome stage past older k own.entry.cur unlabelled
        | inr labelled ↦
            let arrival = arrives_is e.what o now
            in let may : IsArrival stage past e.clock.0 o Direct arrival.0 arrival.1 = rw arrival.2 at here.0.step.may
            in let ordered : ArrivesInOrder stage past o arrival.0 = rw arrival.2 at here.0.ordered
            in let order : counts past (λ what. arrives_later stage past what arrival.0 (shard stage t.flow)
            may.label.mux.0 o) ≡ 0 = rw (may.is_label, opener.is_segment) at ordered
            in let home : arrival.0 ≡ own.entry.cur =
            same_Some _ _ (sym may.place) ∙ ap (λ (l : Label). l.entry.cur) (here.1 may.label may.is_label)
            in let order' : counts past (λ what. arrives_later stage past what own.entry.cur (shard stage t.flow)
            may.label.mux.0 o) ≡ 0 = rw home at order
            in let its : labelled.0.mux.0 ≡ flow_mux stage s.flow =
            has_muxes like past older k s labelled.0 is labelled.1
            in let mine : may.label.mux.0 ≡ flow_mux stage t.flow =
            has_muxes like past older o t may.label opener.is_segment may.is_label
            in let from : labelled.0.mux.0 ≡ may.label.mux.0 =
            its ∙ ap (λ (f : Flow). flow_mux stage f) flow ∙ sym mine
            in let below : o < k = after o k (earliest k s is flow) other
            in let within = counts_within (λ what. comes what k own.entry.cur)
            (λ what. arrives_later stage past what own.entry.cur (shard stage t.flow) may.label.mux.0 o)
            (comes_later stage past k o s labelled.0 own.entry.cur (shard stage t.flow) may.label.mux.0 is labelled.1
            (ap (λ (f : Flow). shard stage f) flow) from below) past
            in omega arith
      ]
      | inr not ↦
          let fewer = later (counts_not past e (λ what. arrives what o Direct) not ∙ none) k s other is flow
          in let more = counts_more past e (λ what. comes what k own.entry.cur)
          in omega arith
    ] where
      after : (a b : ℕ) → a ≤ b → (b ≡ a → ⊥) → a < b
      after a b low other = elim (cases_lt a b) [ inl below ↦ below | inr above ↦ absurd (other (omega arith)) ]

-- THE FLOW'S ONE ACCEPT

accept_now : (stage : Stage) (past : List Event) (k : ℕ) (hop : Hop) (server : ServerId) (verdict : Verdict) (f : Flow)
    (old : Option Accepted) (s : Segment) → is_accept verdict ≡ true → segment_of stage k ≡ Some s → s.flow ≡ f
    → accept_after stage past (Arrive k hop server verdict) f old
    ≡ Some (record { server = server; version = version_of (label_of stage past k); place = length past })
accept_now stage past k hop server verdict f old s accepts is flow =
    let of : is_of (segment_of stage k) f ≡ true = rw (is, flow) (same_flow_refl f)
    in rw (accepts, of) refl

-- what isn't the opening packet's arrival leaves the flow's last Accept
accept_same : {stage : Stage} {o : ℕ} {t : Segment} (past : List Event) (clock : ℕ) (what : What)
    (old : Option Accepted) → IsOpener stage o t → MayCome stage past clock what → arrives what o Direct ≡ false
    → accept_after stage past what t.flow old ≡ old
accept_same {stage = stage} {o = o} {t = t} past clock (Arrive k hop server verdict) old opener may not =
    let other : (is_accept verdict && is_of (segment_of stage k) t.flow) ≡ false =
    false_from_ne_true _ (λ now.
    let parts = and_parts (is_accept verdict) _ now
    in let flow : may.segment.flow ≡ t.flow =
    is_of_flow (segment_of stage k) may.segment t.flow may.is_segment parts.1
    in both_ways _ not
    (arrives_now k o hop server verdict
    (accept_is_its past clock k hop server verdict opener may may.segment may.is_segment flow parts.0)))
    in rw other refl
accept_same past clock (Steer k m) old opener may not = refl
accept_same past clock (Publish v) old opener may not = refl
accept_same past clock (Switch m v) old opener may not = refl
accept_same past clock (Lose k hop) old opener may not = refl
accept_same past clock (Close server flow closed) old opener may not = refl
accept_same past clock (Retire server h at result) old opener may not = refl
accept_same past clock Sync old opener may not = refl

-- the flow's last Accept, at the server and of the version of this label
pub record IsAcceptBy (stage : Stage) (f : Flow) (own : Label) (past : List Event) (a : Accepted) : Type 0 where
  pub accept : accept_of stage past f ≡ Some a
  pub server : a.server ≡ own.entry.cur
  pub version : a.version ≡ own.version.0

abbrev HasAccept : Stage → ℕ → Flow → Label → List Event → Type 0
HasAccept stage o f own past =
    (counts past (λ what. arrives what o Direct) ≡ 0) ⊎ ((a : Accepted) × IsAcceptBy stage f own past a)

has_accept_step : {stage : Stage} {n o : ℕ} {t : Segment} (own : Label) → IsLoadLike stage n → IsOpener stage o t
    → (past : List Event) (e : Event) → AtEach (IsLoadStep stage) past
    → IsLabelledStep stage o own past e → HasAccept stage o t.flow own past → HasAccept stage o t.flow own (e ∷ past)
has_accept_step {stage = stage} {o = o} {t = t} own like opener past e older here old =
    elim (cases_Bool (arrives e.what o Direct)) [
      | inl now ↦
          let arrival = arrives_is e.what o now
          in let may : IsArrival stage past e.clock.0 o Direct arrival.0 arrival.1 = rw arrival.2 at here.0.step.may
          in let accepts : is_accept arrival.1 ≡ true =
          ap is_accept (accepted like opener past e older here.0 Direct arrival.0 arrival.1 arrival.2).0
          in let same : may.label ≡ own = here.1 may.label may.is_label
          in inr (
            record { server = arrival.0; version = version_of (label_of stage past o); place = length past },
            record {
              accept =
                  subst (λ (w : What). accept_after stage past w t.flow (accept_of stage past t.flow)
                  ≡ Some (record {
                    server = arrival.0;
                    version = version_of (label_of stage past o);
                    place = length past;
                  })) (sym arrival.2)
                  (accept_now stage past o Direct arrival.0 arrival.1 t.flow (accept_of stage past t.flow) t accepts
                  opener.is_segment refl);
              server = same_Some _ _ (sym may.place) ∙ ap (λ (l : Label). l.entry.cur) same;
              version = rw may.is_label (ap (λ (l : Label). l.version.0) same);
            },
          )
      | inr not ↦
          let kept = accept_same past e.clock.0 e.what (accept_of stage past t.flow) opener here.0.step.may not
          in elim old [
            | inl none ↦ inl (counts_not past e (λ what. arrives what o Direct) not ∙ none)
            | inr some ↦ inr (
              some.0,
              record { accept = kept ∙ some.1.accept; server = some.1.server; version = some.1.version },
            )
          ]
    ]

-- from its arrival on, the opening packet's Accept is the flow's last
abbrev pub IsSettled : Stage → ℕ → Flow → Accepted → List Event → Type 0
IsSettled stage o f a past = 1 ≤ counts past (λ what. arrives what o Direct) → accept_of stage past f ≡ Some a

settled_step : {stage : Stage} {o : ℕ} {t : Segment} (a : Accepted) → IsOpener stage o t → (past : List Event)
    (e : Event) → AtEach (IsLoadStep stage) past → IsLoadStep stage past e → IsSettled stage o t.flow a (e ∷ past)
    → IsSettled stage o t.flow a past
settled_step {stage = stage} {o = o} {t = t} a opener past e older here later some =
    elim (cases_Bool (arrives e.what o Direct)) [
      | inl now ↦ absurd
          (let few = here.few o in let more = counts_here past e (λ what. arrives what o Direct) now in omega arith)
      | inr not ↦
          let more = counts_more past e (λ what. arrives what o Direct)
          in sym (accept_same past e.clock.0 e.what (accept_of stage past t.flow) opener here.step.may not)
          ∙ later (omega arith)
    ]

-- THE PREMISES

moves_most : (plan : Planned) (b v w : ℕ) → moves plan b v w ≤ w
moves_most plan b v zero = omega arith
moves_most plan b v (suc w) = elim (cases_Bool (leb v w && moves_next plan w b)) [
  | inl moved ↦ rw moved (let old = moves_most plan b v w in omega arith)
  | inr stays ↦ rw stays (let old = moves_most plan b v w in omega arith)
]

-- a step of the flow whose opening packet has this label and this Accept
pub record IsFlowStep (stage : Stage) (o : ℕ) (t : Segment) (own : Label) (a : Accepted) (past : List Event)
    (e : Event) : Type 0 where
  pub step : IsLoadStep stage past e
  pub labelled : IsLabelled stage o own past
  pub first : IsFirst stage o t.flow past
  pub no_older : AreNoOlder stage o t.flow past
  pub home : IsHomeFirst stage o t.flow own.entry.cur (e ∷ past)
  pub settled : IsSettled stage o t.flow a past
  pub settles : IsSettled stage o t.flow a (e ∷ past)

module _ {stage : Stage} {n o : ℕ} {t : Segment} (own : Label) (a : Accepted) (like : IsLoadLike stage n)
    (opener : IsOpener stage o t) (server_is : a.server ≡ own.entry.cur) (version_is : a.version ≡ own.version.0) where
  one_accept : (past : List Event) (e : Event) → IsFlowStep stage o t own a past e
      → (k : ℕ) (hop : Hop) (server : ServerId) (verdict : Verdict) (s : Segment)
      → e.what ≡ Arrive k hop server verdict → segment_of stage k ≡ Some s → s.flow ≡ t.flow
      → is_accept verdict ≡ true → (server ≡ a.server) × (length past ≡ a.place)
  one_accept past e here k hop server verdict s arrives_here is flow accepts =
      let may : IsArrival stage past e.clock.0 k hop server verdict = rw arrives_here at here.step.step.may
      in let its = arrives_now k o hop server verdict
      (accept_is_its past e.clock.0 k hop server verdict opener may s is flow accepts)
      in let now : arrives e.what o Direct ≡ true =
      subst (λ (w : What). arrives w o Direct ≡ true) (sym arrives_here) its
      in let some = counts_here past e (λ what. arrives what o Direct) now
      in let settled : accept_of stage (e ∷ past) t.flow ≡ Some a = here.settles (omega arith)
      in let made : accept_of stage (e ∷ past) t.flow
      ≡ Some (record { server = server; version = version_of (label_of stage past k); place = length past }) =
      subst (λ (w : What). accept_after stage past w t.flow (accept_of stage past t.flow)
      ≡ Some (record { server = server; version = version_of (label_of stage past k); place = length past }))
      (sym arrives_here)
      (accept_now stage past k hop server verdict t.flow (accept_of stage past t.flow) s accepts is flow)
      in let same : record { server = server; version = version_of (label_of stage past k); place = length past } ≡ a =
      same_Some _ _ (sym made ∙ settled)
      in (ap (λ (x : Accepted). x.server) same, ap (λ (x : Accepted). x.place) same)

  behind : (past : List Event) (e : Event) → IsFlowStep stage o t own a past e
      → (k : ℕ) (hop : Hop) (server : ServerId) (verdict : Verdict) (s : Segment)
      → e.what ≡ Arrive k hop server verdict → segment_of stage k ≡ Some s → s.flow ≡ t.flow
      → k ≢ o → server ≡ a.server → accept_of stage past t.flow ≡ Some a
  behind past e here k hop server verdict s arrives_here is flow other at =
      let not : arrives e.what o Direct ≡ false =
      subst (λ (w : What). arrives w o Direct ≡ false) (sym arrives_here)
      (false_from_ne_true _ (λ its. other (eqb-true k o (and_parts (eqb k o) _ its).0)))
      in let come : comes e.what k own.entry.cur ≡ true =
      subst (λ (w : What). comes w k own.entry.cur ≡ true) (sym arrives_here)
      (and_from _ _ (eq-eqb k k refl) (eq-same_server server own.entry.cur (at ∙ server_is)))
      in let same = counts_not past e (λ what. arrives what o Direct) not
      in elim (cases_lt 0 (counts past (λ what. arrives what o Direct))) [
        | inl some ↦ here.settled (omega arith)
        | inr none ↦ absurd
            (both_ways _
            (none_here past e (λ what. comes what k own.entry.cur) (here.home (omega arith) k s other is flow)) come)
      ]

  versions : (past : List Event) (e : Event) → AtEach (IsLoadStep stage) past → IsFlowStep stage o t own a past e
      → (k : ℕ) (s : Segment) (l : Label) → segment_of stage k ≡ Some s → s.flow ≡ t.flow
      → label_of stage past k ≡ Some l
      → (a.version ≤ l.version.0) × (moves stage.script.plan (bucket stage t.flow) a.version l.version.0 ≤ 1)
  versions past e older here k s l is flow lab =
      let run : Run stage past = each_so (IsLoadStep stage) (IsStep stage) (λ x y step. step.step) past older
      in let published : l.version.0 ≤ newest past = (label_is stage past run k l lab).published
      in let newest_one : newest past ≤ length stage.script.plan.changes = newest_within stage past run
      in let one = like.one_change
      in let most = moves_most stage.script.plan (bucket stage t.flow) a.version l.version.0
      in elim (none_or_some (label_of stage past o)) [
        | inl none ↦ absurd (none-some l (sym (here.first none k s is flow) ∙ lab))
        | inr mine ↦
            let low : mine.0.version.0 ≤ l.version.0 = here.no_older k s l mine.0 is flow lab mine.1
            in let same : mine.0 ≡ own = here.labelled mine.0 mine.1
            in let same' : mine.0.version.0 ≡ own.version.0 = ap (λ (x : Label). x.version.0) same
            in (omega arith, omega arith)
      ]

  pinned_event : (past : List Event) (e : Event) → AtEach (IsLoadStep stage) past → IsFlowStep stage o t own a past e
      → (what : What) → e.what ≡ what → IsPinnedEvent stage t.flow o a past e.clock.0 what
  pinned_event past e older here (Arrive k hop server verdict) at =
      if_some (segment_of stage k)
      (λ s. s.flow ≡ t.flow → IsPinnedArrival stage t.flow o a past e.clock.0 k server verdict)
      (λ s is flow. record {
        one = one_accept past e here k hop server verdict s at is flow;
        in_time =
            λ other away. if_some (label_of stage past k)
            (λ l. IfSome l.entry.prev (λ p. e.clock.0 ≤ p.stamp.0 + timeout stage))
            (λ l lab. if_some l.entry.prev (λ p. e.clock.0 ≤ p.stamp.0 + timeout stage)
            (λ p past. let early = here.step.clock in let long = like.long in omega arith));
        after = behind past e here k hop server verdict s at is flow;
        version =
            λ other. if_some (label_of stage past k)
            (λ l. (a.version ≤ l.version.0)
            × (moves stage.script.plan (bucket stage t.flow) a.version l.version.0 ≤ 1))
            (λ l lab. versions past e older here k s l is flow lab);
      })
  pinned_event past e older here (Close server flow closed) at =
      absurd (let quiet = rw at at here.step.quiet in cc)
  pinned_event past e older here (Retire server h at' result) at =
      absurd (let quiet = rw at at here.step.quiet in cc)
  pinned_event past e older here (Steer k m) at = tt
  pinned_event past e older here (Publish v) at = tt
  pinned_event past e older here (Switch m v) at = tt
  pinned_event past e older here (Lose k hop) at = tt
  pinned_event past e older here Sync at = tt

-- THE OTHER PACKETS

-- a copy of another packet of the flow is processed or, as a direct one, forwarded
abbrev pub IsServedOther : Stage → Flow → ℕ → What → Type 0
IsServedOther stage f o (Arrive k hop server verdict) =
    IfSome (segment_of stage k)
    (λ s. s.flow ≡ f → k ≢ o → (is_process verdict ≡ true) ⊎ ((hop ≡ Direct) × (is_forward verdict ≡ true)))
IsServedOther stage f o _ = Unit {0}

kept_other : (stage : Stage) (f : Flow) (o : ℕ) (a : Accepted) (past : List Event) (clock : ℕ) (what : What)
    → IsKeptArrival stage f o a past clock what → IsServedOther stage f o what
kept_other stage f o a past clock (Arrive k hop server verdict) kept =
    if_some (segment_of stage k)
    (λ s. s.flow ≡ f → k ≢ o → (is_process verdict ≡ true) ⊎ ((hop ≡ Direct) × (is_forward verdict ≡ true)))
    (λ s is flow other.
    let served : s.flow ≡ f → k ≢ o → ((is_process verdict ≡ true) × (server ≡ a.server))
    ⊎ ((hop ≡ Direct) × (verdict ≡ Forward a.server)) = rw is at kept
    in elim (served flow other) [
      | inl here ↦ inl here.0
      | inr onward ↦ inr (onward.0, ap is_forward onward.1)
    ])
kept_other stage f o a past clock (Steer k m) kept = tt
kept_other stage f o a past clock (Publish v) kept = tt
kept_other stage f o a past clock (Switch m v) kept = tt
kept_other stage f o a past clock (Lose k hop) kept = tt
kept_other stage f o a past clock (Close server flow closed) kept = tt
kept_other stage f o a past clock (Retire server h at result) kept = tt
kept_other stage f o a past clock Sync kept = tt

earliest_opener : {stage : Stage} {n o : ℕ} {t : Segment} → IsLoadLike stage n → IsOpener stage o t
    → IsEarliest stage o t.flow
earliest_opener {o = o} like opener k s is flow =
    let opened = like.opened k s is
    in let same : opened.0 ≡ o =
    opener.alone opened.0 opened.1 opened.2 (opened.3 ∙ flow) opened.4
    in subst (λ (j : ℕ). j ≤ k) same opened.5

flow_steps : {stage : Stage} {n o : ℕ} {t : Segment} (all : List Event) (own : Label) (a : Accepted)
    → IsLoadLike stage n → IsOpener stage o t → AtEach (IsLoadStep stage) all → label_of stage all o ≡ Some own
    → accept_of stage all t.flow ≡ Some a → counts all (λ what. arrives what o Direct) ≡ 1
    → AtEach (IsFlowStep stage o t own a) all
flow_steps {stage = stage} {o = o} {t = t} all own a like opener steps label accept one =
    let f : Flow = t.flow
    in let home : ServerId = own.entry.cur
    in let Labelled : List Event → Event → Type 0 = IsLabelledStep stage o own
    in let Ordered : List Event → Event → Type 0 = λ past e. IsFirst stage o f past × AreNoOlder stage o f past
    in let Homed : List Event → Event → Type 0 =
    λ past e. IsHomeFirst stage o f home (e ∷ past) × IsHomeFirst stage o f home past
    in let Settled : List Event → Event → Type 0 =
    λ past e. IsSettled stage o f a (e ∷ past) × IsSettled stage o f a past
    in let One : List Event → Event → Type 0 = λ past e. Labelled past e × Ordered past e
    in let Two : List Event → Event → Type 0 = λ past e. Homed past e × Settled past e
    in let earliest : IsEarliest stage o f = earliest_opener like opener
    in let labelled : AtEach Labelled all =
    each_both (IsLoadStep stage) (λ past e. IsLabelled stage o own past) Labelled (λ past e p q. (p, q)) all steps
    (labelled_before stage o own all steps label)
    in let ordered : AtEach Ordered all =
    labels_before o t like opener.is_segment earliest all steps (λ none. absurd (none-some own (sym none ∙ label)))
    in let homed : AtEach Homed all =
    downward Labelled (IsHomeFirst stage o f home)
    (λ past e older here later.
    home_step own like opener earliest past e (each_so Labelled (IsLoadStep stage) (λ x y both. both.0) past older) here
    later) all labelled
    (λ none. absurd (omega arith))
    in let settled : AtEach Settled all =
    downward (IsLoadStep stage) (IsSettled stage o f a) (settled_step a opener) all steps (λ some. accept)
    in each_both One Two (IsFlowStep stage o t own a)
    (λ past e p q. record {
      step = p.0.0;
      labelled = p.0.1;
      first = p.1.0;
      no_older = p.1.1;
      home = q.0.0;
      settled = q.1.1;
      settles = q.1.0;
    })
    all (each_both Labelled Ordered One (λ past e p q. (p, q)) all labelled ordered)
    (each_both Homed Settled Two (λ past e p q. (p, q)) all homed settled)

some_once : {A : Type 0} (o : Option A) (x : A) → o ≡ Some x → once (is_some o) ≡ 1
some_once o x is = rw is refl

-- the label and the Accept of a flow's opening packet, after all events
pub record HasOpened (stage : Stage) (o : ℕ) (t : Segment) (all : List Event) : Type 0 where
  pub own : Label
  pub label : label_of stage all o ≡ Some own
  pub arrived : counts all (λ what. arrives what o Direct) ≡ 1
  pub by : Accepted
  pub accept : IsAcceptBy stage t.flow own all by

has_opened : {stage : Stage} {n o : ℕ} {t : Segment} {all : List Event} → IsLoadLike stage n → AreOnce stage n all
    → IsOpener stage o t → AtEach (IsLoadStep stage) all → HasOpened stage o t all
has_opened {stage = stage} {o = o} {t = t} {all = all} like one opener steps =
    let single : once (is_some (segment_of stage o)) ≡ 1 = some_once (segment_of stage o) t opener.is_segment
    in let steered : counts all (λ what. steers_packet what o) ≡ 1 = one.steered o ∙ single
    in let arrived : counts all (λ what. arrives what o Direct) ≡ 1 = one.direct o ∙ single
    in elim (none_or_some (label_of stage all o)) [
      | inl none ↦ absurd
          (let bad = unlabelled_unsteered stage o t opener.is_segment all none in omega arith)
      | inr label ↦
          let own : Label = label.0
          in let labelled : AtEach (IsLabelledStep stage o own) all =
          each_both (IsLoadStep stage) (λ past e. IsLabelled stage o own past) (IsLabelledStep stage o own)
          (λ past e p q. (p, q)) all steps (labelled_before stage o own all steps label.1)
          in elim (upward (IsLabelledStep stage o own) (HasAccept stage o t.flow own) (inl refl)
          (λ past e older here old.
          has_accept_step own like opener past e
          (each_so (IsLabelledStep stage o own) (IsLoadStep stage) (λ x y both. both.0) past older) here old)
          all labelled) [
            | inl none ↦ absurd (omega arith)
            | inr some ↦ record { own = own; label = label.1; arrived = arrived; by = some.0; accept = some.1 }
          ]
    ]

-- the opening packet and its flow keep to the premises of the law on pinned connections
pinned : {stage : Stage} {n o : ℕ} {t : Segment} {all : List Event} → IsLoadLike stage n → IsOpener stage o t
    → AtEach (IsLoadStep stage) all → (opened : HasOpened stage o t all) → IsPinned stage all o
pinned {stage = stage} {o = o} {t = t} {all = all} like opener steps opened = record {
  segment = t;
  is_segment = opener.is_segment;
  opens = opener.opens;
  only = opener.alone;
  no_rst = λ k s is flow. like.no_rst k s is;
  accept = opened.by;
  is_accept_of = opened.accept.accept;
  each =
      each_along (IsFlowStep stage o t opened.own opened.by)
      (λ past e. IsPinnedEvent stage t.flow o opened.by past e.clock.0 e.what)
      (λ past e older here.
      pinned_event opened.own opened.by like opener opened.accept.server opened.accept.version past e
      (each_so (IsFlowStep stage o t opened.own opened.by) (IsLoadStep stage) (λ x y it. it.step) past older) here
      e.what refl) all
      (flow_steps all opened.own opened.by like opener steps opened.label opened.accept.accept opened.arrived);
}

flow_served : {stage : Stage} {n o : ℕ} {t : Segment} {all : List Event} → IsSound stage → IsLoadLike stage n
    → AreOnce stage n all → Run stage all → AtEach (IsLoadStep stage) all → IsOpener stage o t
    → AtEach (λ past e. IsServedOther stage t.flow o e.what) all
unfolding pinned
flow_served {stage = stage} {o = o} {t = t} {all = all} sound like one run steps opener =
    let opened : HasOpened stage o t all = has_opened like one opener steps
    in let pin : IsPinned stage all o = pinned like opener steps opened
    in each_so (λ past e. IsKeptArrival stage pin.segment.flow o pin.accept past e.clock.0 e.what)
    (λ past e. IsServedOther stage t.flow o e.what)
    (λ past e it. kept_other stage t.flow o opened.by past e.clock.0 e.what it) all
    (kept stage sound all run o pin).each

-- EACH ARRIVAL

-- a packet that opens its flow
pub record Opener (stage : Stage) : Type 0 where
  pub packet : ℕ
  pub segment : Segment
  pub opener : IsOpener stage packet segment

opener_of : {stage : Stage} {n : ℕ} → IsLoadLike stage n → (o : ℕ) (t : Segment) → segment_of stage o ≡ Some t
    → is_opening t ≡ true → IsOpener stage o t
opener_of like o t is opens = record {
  is_segment = is;
  opens = opens;
  alone = λ k s at flow also. like.alone k o s t at is flow also opens;
}

served_step : {stage : Stage} {n : ℕ} → IsLoadLike stage n → (past : List Event) (e : Event)
    → AtEach (IsLoadStep stage) past → IsLoadStep stage past e
    → ((x : Opener stage) → IsServedOther stage x.segment.flow x.packet e.what)
    → (what : What) → e.what ≡ what → IsWellServed n past e.clock.0 what
served_step {stage = stage} {n = n} like past e older here others (Arrive k hop server verdict) at =
    let may : IsArrival stage past e.clock.0 k hop server verdict = rw at at here.step.may
    in let opens : is_opening may.segment ≡ leb k n = like.opens k may.segment may.is_segment
    in elim (cases_Bool (leb k n)) [
      | inl first ↦
          let opener = opener_of like k may.segment may.is_segment (opens ∙ first)
          in rw first (accepted like opener past e older here hop server verdict at).0
      | inr later ↦
          let opened = like.opened k may.segment may.is_segment
          in let opener : IsOpener stage opened.0 opened.1 = opener_of like opened.0 opened.1 opened.2 opened.4
          in let theirs : IsServedOther stage opened.1.flow opened.0 (Arrive k hop server verdict) =
          rw at at (others (record { packet = opened.0; segment = opened.1; opener = opener }))
          in let its : may.segment.flow ≡ opened.1.flow → k ≢ opened.0
          → (is_process verdict ≡ true) ⊎ ((hop ≡ Direct) × (is_forward verdict ≡ true)) =
          rw may.is_segment at theirs
          in let early : leb opened.0 n ≡ true = sym (like.opens opened.0 opened.1 opened.2) ∙ opened.4
          in rw later
          (its (sym opened.3)
          (λ same. both_ways _ later (subst (λ (j : ℕ). leb j n ≡ true) (sym same) early)))
    ]
served_step like past e older here others (Steer k m) at = tt
served_step like past e older here others (Publish v) at = tt
served_step like past e older here others (Switch m v) at = tt
served_step like past e older here others (Lose k hop) at = tt
served_step like past e older here others (Close server flow closed) at = tt
served_step like past e older here others (Retire server h at' result) at = tt
served_step like past e older here others Sync at = tt

-- each copy of one of the first n packets is accepted, each other one processed or forwarded
pub well_served : {stage : Stage} {n : ℕ} {fates : List Fate} {all : List Event} → IsSound stage
    → IsRunLike stage n fates all → AreOnce stage n all → AreWellServed n all
well_served {stage = stage} {n = n} {all = all} sound run one =
    let Others : Opener stage → List Event → Event → Type 0 =
    λ x past e. IsServedOther stage x.segment.flow x.packet e.what
    in let Older : List Event → Event → Type 0 = λ past e. AtEach (IsLoadStep stage) past × IsLoadStep stage past e
    in let steps : AtEach (IsLoadStep stage) all = load_steps run one
    in each_both Older (λ past e. (x : Opener stage) → Others x past e)
    (λ past e. IsWellServed n past e.clock.0 e.what)
    (λ past e here others. served_step run.like past e here.0 here.1 others e.what refl) all
    (each_along (IsLoadStep stage) Older (λ past e older here. (older, here)) all steps)
    (each_for Others all (λ x. flow_served sound run.like one run.run steps x.opener))
