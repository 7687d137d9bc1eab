-- The labels of one flow's packets: of one mux, the opening packet's first, and none of an older version than it.
use Rattle.std.proofs.Common.{◌≡◌, ℕ, ◌≤◌, true, false, ◌&&◌, ◌⊎◌, inl, inr, List, [], ◌∷◌, Option, Some}
use Rattle.std.proofs.Common.{None, refl, sym, ap, ◌∙◌, subst, eqb, leb, arith}
use Rattle.std.proofs.lemmas.Bool.{and_from, both_ways, cases_Bool, eq-eqb, eqb-true, le-leb}
use Rattle.std.proofs.lemmas.Option.{none-some, same_Some}
use Rattle.std.specs.Prelude.{IfSome}
use Rattle.bm_base.specs.declared.flow.Flow.{Flow}
use Rattle.bm_base.specs.declared.flow.Segment.{Segment}
use Rattle.bm_base.specs.declared.ids.MuxId.{MuxId}
use Rattle.bm_base.specs.declared.ids.Version.{Version}
use Rattle.bm_base.specs.declared.label.Label.{Label}
use Rattle.bm_core.specs.Accounts.{counts, steers_packet}
use Rattle.bm_core.specs.declared.events.Event.{Event}
use Rattle.bm_core.specs.declared.events.Stage.{Stage}
use Rattle.bm_core.specs.declared.events.What.{What}
use Rattle.bm_core.specs.declared.events.What.TheVariants.{Publish, Switch, Steer, Lose, Arrive, Close, Retire, Sync}
use Rattle.bm_core.specs.Past.{label_after, label_of, labelled, segment_of, switched, version_at}
use Rattle.bm_core.specs.Rules.{setting_mux}
use Rattle.bm_core.specs.Runs.{AtEach, MayCome}
use Rattle.bm_core.specs.Threads.{steers_later}
use Rattle.bm_core.proofs.Pasts.{labelled_sent}
use Rattle.bm_load.proofs.Along.{counts_here, counts_more, counts_not, downward, each_along, each_both, each_so, upward}
use Rattle.bm_load.proofs.Shape.{IsLoadLike}
use Rattle.bm_load.proofs.Steps.{IsLoadStep, IsOrdered}

pub none_or_some : {A : Type 0} (o : Option A) → (o ≡ None) ⊎ ((x : A) × (o ≡ Some x))
none_or_some None = inl refl
none_or_some (Some x) = inr (x, refl)

pub none_from_not : {A : Type 0} (o : Option A) → ((x : A) → o ≡ Some x → ⊥) → o ≡ None
none_from_not None not = refl
none_from_not (Some x) not = absurd (not x refl)

same_mux : (a b : MuxId) → a.0 ≡ b.0 → a ≡ b
same_mux a b is = ap (λ (n : ℕ). record { 0 = n }) is

-- WHAT LABELS A PACKET

-- the event that labels a packet steers it
label_cases : (stage : Stage) (past : List Event) (what : What) (k : ℕ) (l : Label)
    → label_after stage past what k (label_of stage past k) ≡ Some l
    → (label_of stage past k ≡ Some l)
    ⊎ ((m : MuxId) × (what ≡ Steer k m) × (labelled stage past m (segment_of stage k) ≡ Some l))
label_cases stage past (Steer packet m) k l is = elim (cases_Bool (eqb packet k)) [
  | inl same ↦ inr (m, ap (λ (j : ℕ). Steer j m) (eqb-true packet k same), rw same at is)
  | inr other ↦ inl (rw other at is)
]
label_cases stage past (Publish v) k l is = inl is
label_cases stage past (Switch m v) k l is = inl is
label_cases stage past (Lose j hop) k l is = inl is
label_cases stage past (Arrive j hop server verdict) k l is = inl is
label_cases stage past (Close server flow closed) k l is = inl is
label_cases stage past (Retire server h at result) k l is = inl is
label_cases stage past Sync k l is = inl is

labelled_is : (stage : Stage) (past : List Event) (m : MuxId) (o : Option Segment) (s : Segment) (l : Label)
    → o ≡ Some s → labelled stage past m o ≡ Some l → (l.mux ≡ m) × (l.version ≡ version_at past m)
labelled_is stage past m None s l is lab = absurd (cc)
labelled_is stage past m (Some t) s l is lab =
    (ap (λ (x : Label). x.mux) (sym (same_Some _ _ lab)), ap (λ (x : Label). x.version) (sym (same_Some _ _ lab)))

-- a packet without a label wasn't steered
label_none : (stage : Stage) (past : List Event) (what : What) (k : ℕ) (s : Segment) (old : Option Label)
    → segment_of stage k ≡ Some s → label_after stage past what k old ≡ None
    → (steers_packet what k ≡ false) × (old ≡ None)
label_none stage past (Steer packet m) k s old is none = elim (cases_Bool (eqb packet k)) [
  | inl same ↦ absurd (let bad = rw (same, is) at none in cc)
  | inr other ↦ (other, rw other at none)
]
label_none stage past (Publish v) k s old is none = (refl, none)
label_none stage past (Switch m v) k s old is none = (refl, none)
label_none stage past (Lose j hop) k s old is none = (refl, none)
label_none stage past (Arrive j hop server verdict) k s old is none = (refl, none)
label_none stage past (Close server flow closed) k s old is none = (refl, none)
label_none stage past (Retire server h at result) k s old is none = (refl, none)
label_none stage past Sync k s old is none = (refl, none)

pub unlabelled_unsteered : (stage : Stage) (k : ℕ) (s : Segment) → segment_of stage k ≡ Some s → (past : List Event)
    → label_of stage past k ≡ None → counts past (λ what. steers_packet what k) ≡ 0
unlabelled_unsteered stage k s is [] none = refl
unlabelled_unsteered stage k s is (e ∷ past) none =
    let both = label_none stage past e.what k s (label_of stage past k) is none
    in counts_not past e (λ what. steers_packet what k) both.0 ∙ unlabelled_unsteered stage k s is past both.1

-- what doesn't steer a packet leaves its label
label_same : (stage : Stage) (past : List Event) (what : What) (k : ℕ) (old : Option Label)
    → steers_packet what k ≡ false → label_after stage past what k old ≡ old
label_same stage past (Steer packet m) k old not = rw not refl
label_same stage past (Publish v) k old not = refl
label_same stage past (Switch m v) k old not = refl
label_same stage past (Lose j hop) k old not = refl
label_same stage past (Arrive j hop server verdict) k old not = refl
label_same stage past (Close server flow closed) k old not = refl
label_same stage past (Retire server h at result) k old not = refl
label_same stage past Sync k old not = refl

steers_is : (what : What) (k : ℕ) → steers_packet what k ≡ true → (m : MuxId) × (what ≡ Steer k m)
steers_is (Steer packet m) k is = (m, ap (λ (j : ℕ). Steer j m) (eqb-true packet k is))
steers_is (Publish v) k is = absurd (cc)
steers_is (Switch m v) k is = absurd (cc)
steers_is (Lose j hop) k is = absurd (cc)
steers_is (Arrive j hop server verdict) k is = absurd (cc)
steers_is (Close server flow closed) k is = absurd (cc)
steers_is (Retire server h at result) k is = absurd (cc)
steers_is Sync k is = absurd (cc)

-- a packet with a label was steered at the label's mux
label_counted : (stage : Stage) (o k : ℕ) (s : Segment) (l : Label) → segment_of stage k ≡ Some s → o ≤ k
    → (past : List Event) → label_of stage past k ≡ Some l → 1 ≤ counts past (λ what. steers_later what l.mux o)
label_counted stage o k s l is low [] lab = absurd (cc)
label_counted stage o k s l is low (e ∷ past) lab = elim (label_cases stage past e.what k l lab) [
  | inl old ↦
      let before = label_counted stage o k s l is low past old
      in let more = counts_more past e (λ what. steers_later what l.mux o)
      in omega arith
  | inr new ↦
      let at : l.mux ≡ new.0 = (labelled_is stage past new.0 (segment_of stage k) s l is new.2).0
      in let passes : (eqb new.0.0 l.mux.0 && leb o k) ≡ true =
      and_from _ _ (eq-eqb _ _ (ap (λ (x : MuxId). x.0) (sym at))) (le-leb o k low)
      in let here : steers_later e.what l.mux o ≡ true =
      subst (λ (w : What). steers_later w l.mux o ≡ true) (sym new.1) passes
      in let more = counts_here past e (λ what. steers_later what l.mux o) here
      in omega arith
]

-- THE MUX OF A FLOW

abbrev pub flow_mux : Stage → Flow → ℕ
flow_mux stage f = setting_mux stage.script.setting 0 f

-- each label of a flow's packets is of the flow's mux
abbrev pub HasMuxes : Stage → List Event → Type 0
HasMuxes stage past =
    (k : ℕ) (s : Segment) (l : Label) → segment_of stage k ≡ Some s → label_of stage past k ≡ Some l
    → l.mux.0 ≡ flow_mux stage s.flow

routed_mux : {stage : Stage} {n : ℕ} (past : List Event) (e : Event) (k : ℕ) (s : Segment) (m : MuxId)
    → IsLoadLike stage n → IsLoadStep stage past e → segment_of stage k ≡ Some s → e.what ≡ Steer k m
    → m.0 ≡ flow_mux stage s.flow
routed_mux {stage = stage} past e k s m like step is steers =
    let routed : IfSome (segment_of stage k) (λ t. m.0 ≡ setting_mux stage.script.setting k t.flow) =
    rw steers at step.routed
    in let here : m.0 ≡ setting_mux stage.script.setting k s.flow = rw is at routed
    in here ∙ like.one_mux k 0 s.flow

pub has_muxes : {stage : Stage} {n : ℕ} → IsLoadLike stage n → (past : List Event)
    → AtEach (IsLoadStep stage) past → HasMuxes stage past
has_muxes {stage = stage} like past steps =
    upward (IsLoadStep stage) (HasMuxes stage) (λ k s l is lab. absurd (cc))
    (λ past e older here old k s l is lab. elim (label_cases stage past e.what k l lab) [
      | inl before ↦ old k s l is before
      | inr new ↦
          ap (λ (x : MuxId). x.0) (labelled_is stage past new.0 (segment_of stage k) s l is new.2).0
          ∙ routed_mux past e k s new.0 like here is new.1
    ])
    past steps

-- THE OPENING PACKET FIRST

-- while a flow's opening packet has no label, none of its packets has one
abbrev pub IsFirst : Stage → ℕ → Flow → List Event → Type 0
IsFirst stage o f past =
    label_of stage past o ≡ None → (k : ℕ) (s : Segment) → segment_of stage k ≡ Some s → s.flow ≡ f
    → label_of stage past k ≡ None

-- no packet of the flow is before this one
abbrev pub IsEarliest : Stage → ℕ → Flow → Type 0
IsEarliest stage o f = (k : ℕ) (s : Segment) → segment_of stage k ≡ Some s → s.flow ≡ f → o ≤ k

first_step : {stage : Stage} {n : ℕ} (o : ℕ) (t : Segment) → IsLoadLike stage n → segment_of stage o ≡ Some t
    → IsEarliest stage o t.flow → (past : List Event) (e : Event) → AtEach (IsLoadStep stage) past
    → IsLoadStep stage past e → IsFirst stage o t.flow (e ∷ past) → IsFirst stage o t.flow past
first_step {stage = stage} o t like opens earliest past e older here later none k s is flow =
    elim (cases_Bool (steers_packet e.what o)) [
      | inl steers ↦
          none_from_not (label_of stage past k) (λ l lab.
          let steer = steers_is e.what o steers
          in let own : steer.0.0 ≡ flow_mux stage t.flow = routed_mux past e o t steer.0 like here opens steer.1
          in let its : l.mux.0 ≡ flow_mux stage s.flow = has_muxes like past older k s l is lab
          in let same : steer.0 ≡ l.mux =
          same_mux _ _ (own ∙ ap (λ (f : Flow). flow_mux stage f) (sym flow) ∙ sym its)
          in let order : counts past (λ what. steers_later what steer.0 o) ≡ 0 = rw steer.1 at here.ordered
          in let none' : counts past (λ what. steers_later what l.mux o) ≡ 0 = rw same at order
          in let some = label_counted stage o k s l is (earliest k s is flow) past lab
          in omega arith)
      | inr not ↦
          (label_none stage past e.what k s (label_of stage past k) is
          (later (label_same stage past e.what o (label_of stage past o) not ∙ none) k s is flow)).1
    ]

-- NO OLDER VERSION

version_more : (stage : Stage) (past : List Event) (what : What) (m : MuxId) → IsOrdered stage past what
    → (version_at past m).0 ≤ (switched what m (version_at past m)).0
version_more stage past (Switch x v) m order = elim (cases_Bool (eqb x.0 m.0)) [
  | inl same ↦
      let at : x ≡ m = same_mux x m (eqb-true _ _ same)
      in let rises : (version_at past m).0 ≤ v.0 = rw at at order
      in rw same rises
  | inr other ↦ rw other (omega arith)
]
version_more stage past (Publish v) m order = omega arith
version_more stage past (Steer k x) m order = omega arith
version_more stage past (Lose k hop) m order = omega arith
version_more stage past (Arrive k hop server verdict) m order = omega arith
version_more stage past (Close server flow closed) m order = omega arith
version_more stage past (Retire server h at result) m order = omega arith
version_more stage past Sync m order = omega arith

-- a label's version is no newer than its mux's
abbrev AreReached : Stage → List Event → Type 0
AreReached stage past =
    (k : ℕ) (s : Segment) (l : Label) → segment_of stage k ≡ Some s → label_of stage past k ≡ Some l
    → l.version.0 ≤ (version_at past l.mux).0

are_reached : (stage : Stage) (past : List Event) → AtEach (IsLoadStep stage) past → AreReached stage past
are_reached stage past steps =
    upward (IsLoadStep stage) (AreReached stage) (λ k s l is lab. absurd (cc))
    (λ past e older here old k s l is lab.
    let more = version_more stage past e.what l.mux here.ordered
    in elim (label_cases stage past e.what k l lab) [
      | inl before ↦ let low = old k s l is before in omega arith
      | inr new ↦
          let at = labelled_is stage past new.0 (segment_of stage k) s l is new.2
          in let low : l.version ≡ version_at past l.mux = rw at.0 at.1
          in omega (arith, ap (λ x. x.0) low)
    ])
    past steps

-- a step at which the opening packet is first
abbrev pub IsFirstStep : Stage → ℕ → Flow → List Event → Event → Type 0
IsFirstStep stage o f past e = IsLoadStep stage past e × (IsFirst stage o f (e ∷ past) × IsFirst stage o f past)

-- the flow's packets have versions no older than its opening packet's
abbrev pub AreNoOlder : Stage → ℕ → Flow → List Event → Type 0
AreNoOlder stage o f past =
    (k : ℕ) (s : Segment) (l own : Label) → segment_of stage k ≡ Some s → s.flow ≡ f
    → label_of stage past k ≡ Some l → label_of stage past o ≡ Some own → own.version.0 ≤ l.version.0

unsteered : {stage : Stage} {f : Flow} (past : List Event) (e : Event) (o k : ℕ) (s : Segment) (m : MuxId) (l : Label)
    → IsLoadStep stage past e → IsFirst stage o f past → e.what ≡ Steer o m → segment_of stage k ≡ Some s
    → s.flow ≡ f → label_of stage past k ≡ Some l → ⊥
unsteered {stage = stage} past e o k s m l here first steers is flow lab =
    let may : MayCome stage past e.clock.0 (Steer o m) = rw steers at here.step.may
    in let none : label_of stage past o ≡ None =
    none_from_not (label_of stage past o) (λ x own. both_ways _ may.1 (labelled_sent stage past o x own))
    in none-some l (sym (first none k s is flow) ∙ lab)

no_older_step : {stage : Stage} {n : ℕ} (o : ℕ) (t : Segment) → IsLoadLike stage n → segment_of stage o ≡ Some t
    → (past : List Event) (e : Event) → AtEach (IsLoadStep stage) past
    → IsFirstStep stage o t.flow past e → AreNoOlder stage o t.flow past → AreNoOlder stage o t.flow (e ∷ past)
no_older_step {stage = stage} o t like opens past e older here old k s l own is flow lab first =
    elim (label_cases stage past e.what k l lab) [
      | inl before ↦ elim (label_cases stage past e.what o own first) [
        | inl earlier ↦ old k s l own is flow before earlier
        | inr now ↦ absurd (unsteered past e o k s now.0 l here.0 here.1.1 now.1 is flow before)
      ]
      | inr new ↦
          let its = labelled_is stage past new.0 (segment_of stage k) s l is new.2
          in let mux : new.0.0 ≡ flow_mux stage s.flow = routed_mux past e k s new.0 like here.0 is new.1
          in elim (label_cases stage past e.what o own first) [
            | inl earlier ↦
                let low = are_reached stage past older o t own opens earlier
                in let home : own.mux.0 ≡ flow_mux stage t.flow = has_muxes like past older o t own opens earlier
                in let same : own.mux ≡ new.0 =
                same_mux _ _ (home ∙ ap (λ (f : Flow). flow_mux stage f) (sym flow) ∙ sym mux)
                in let high : l.version ≡ version_at past own.mux = rw same its.1
                in omega (arith, ap (λ (v : Version). v.0) high)
            | inr now ↦
                let at = labelled_is stage past now.0 (segment_of stage o) t own opens now.2
                in let one : Steer k new.0 ≡ Steer o now.0 = sym new.1 ∙ now.1
                in let same : new.0 ≡ now.0 = cc
                in let high : l.version ≡ own.version = its.1 ∙ ap (λ (m : MuxId). version_at past m) same ∙ sym at.1
                in omega (arith, ap (λ (v : Version). v.0) high)
          ]
    ]

-- what holds of the labels before each step, where the flow is that of its opening packet
pub labels_before : {stage : Stage} {n : ℕ} (o : ℕ) (t : Segment) → IsLoadLike stage n → segment_of stage o ≡ Some t
    → IsEarliest stage o t.flow → (all : List Event) → AtEach (IsLoadStep stage) all → IsFirst stage o t.flow all
    → AtEach (λ past e. IsFirst stage o t.flow past × AreNoOlder stage o t.flow past) all
labels_before {stage = stage} o t like opens earliest all steps first =
    let First : List Event → Event → Type 0 =
    λ past e. IsFirst stage o t.flow (e ∷ past) × IsFirst stage o t.flow past
    in let each : AtEach First all =
    downward (IsLoadStep stage) (IsFirst stage o t.flow) (first_step o t like opens earliest) all steps first
    in let both : AtEach (IsFirstStep stage o t.flow) all =
    each_both (IsLoadStep stage) First (IsFirstStep stage o t.flow) (λ past e p q. (p, q)) all steps each
    in each_along (IsFirstStep stage o t.flow)
    (λ past e. IsFirst stage o t.flow past × AreNoOlder stage o t.flow past)
    (λ past e older here. (
      here.1.1,
      upward (IsFirstStep stage o t.flow) (AreNoOlder stage o t.flow) (λ k s l own is flow lab. absurd (cc))
          (λ rest x before now old.
          no_older_step o t like opens rest x
          (each_so (IsFirstStep stage o t.flow) (IsLoadStep stage) (λ y z both. both.0) rest before) now old)
          past older,
    ))
    all both
