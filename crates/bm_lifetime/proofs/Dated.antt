-- The version in a packet's label is that of the last change that came its mux's lag before the packet.
use Rattle.std.proofs.Common.{◌≡◌, ℕ, suc, ◌+◌, ◌<◌, ◌≤◌, ◌⊎◌, false, inl, inr, List, [], ◌∷◌, Option, Some}
use Rattle.std.proofs.Common.{None, length, refl, sym, ap, ◌∙◌, subst, arith, eqb}
use Rattle.std.specs.Prelude.{IfSome, if◌then◌else◌, map}
use Rattle.std.proofs.lemmas.Bool.{cases_Bool, eqb-true}
use Rattle.std.proofs.lemmas.Option.{same_Some, slice_get_cases}
use Rattle.bm_base.specs.Captures.{AreRising}
use Rattle.bm_base.specs.declared.fate.Fate.{Fate}
use Rattle.bm_base.specs.declared.flow.Flow.{Flow}
use Rattle.bm_base.specs.declared.flow.Segment.{Segment}
use Rattle.bm_base.specs.declared.ids.MuxId.{MuxId}
use Rattle.bm_base.specs.declared.ids.Version.{Version}
use Rattle.bm_base.specs.declared.label.Label.{Label}
use Rattle.bm_table.specs.declared.plan.Change.{Change}
use Rattle.bm_table.specs.Tables.{change_moment, next_change}
use Rattle.bm_core.specs.Accounts.{AreAnswered, IsRouted, Rules, before}
use Rattle.bm_core.specs.declared.events.Event.{Event}
use Rattle.bm_core.specs.declared.events.Stage.{Stage}
use Rattle.bm_core.specs.declared.events.What.{What}
use Rattle.bm_core.specs.declared.events.What.TheVariants.{Publish, Switch, Steer, Lose, Arrive, Close, Retire, Sync}
use Rattle.bm_core.specs.declared.schedule.Call.{Call}
use Rattle.bm_core.specs.declared.schedule.Call.TheVariants.{Steers}
use Rattle.bm_core.specs.Past.{is_switch_of, label_after, label_of, labelled, segment_of, switched, version_at}
use Rattle.bm_core.specs.Rules.{RouteBy}
use Rattle.bm_core.specs.Runs.{MayCome, Run}
use Rattle.bm_core.specs.Schedule.{Follows, call_of, first_of, rank_of, wire}
use Rattle.bm_core.specs.Threads.{record_moment}
use Rattle.bm_core.proofs.Schedules.{IsFrom, IsTaken, loss_call, taken_kind}
use Rattle.bm_lifetime.proofs.Soonest.{lag_of, packets_left, steered_before, switched_by}
use Rattle.bm_lifetime.proofs.Timed.{AreWithin, steered_next, timed}

-- VERSIONS

version_step : (fates : List Fate) (stage : Stage) (past : List Event) (clock : ℕ) (what : What) (m : MuxId)
    → (loss_call (call_of what) ≡ false → IsTaken (wire fates past) stage past clock (call_of what))
    → (version_at past m).0 ≡ switched_by past m.0 → (n : ℕ)
    → n ≡ (if is_switch_of what m.0 then 1 else 0) + switched_by past m.0
    → (switched what m (version_at past m)).0 ≡ n
version_step fates stage past clock (Switch x v) m take old n is = elim (cases_Bool (eqb x.0 m.0)) [
  | inl same ↦
      let here : x.0 ≡ m.0 = eqb-true x.0 m.0 same
      in let next : v.0 ≡ suc (switched_by past x.0) = (take refl).from.2
      in let next' : v.0 ≡ suc (switched_by past m.0) =
      subst (λ (y : ℕ). v.0 ≡ suc (switched_by past y)) here next
      in let is' : n ≡ 1 + switched_by past m.0 = rw same at is
      in rw same (omega arith)
  | inr other ↦ let is' : n ≡ 0 + switched_by past m.0 = rw other at is in rw other (omega arith)
]
version_step fates stage past clock (Publish v) m take old n is = omega (arith, old, is)
version_step fates stage past clock (Steer k x) m take old n is = omega (arith, old, is)
version_step fates stage past clock (Lose k hop) m take old n is = omega (arith, old, is)
version_step fates stage past clock (Arrive k hop server verdict) m take old n is = omega (arith, old, is)
version_step fates stage past clock (Close server flow closed) m take old n is = omega (arith, old, is)
version_step fates stage past clock (Retire server h at result) m take old n is = omega (arith, old, is)
version_step fates stage past clock Sync m take old n is = omega (arith, old, is)

-- a mux's version is how often it has switched
pub version_counted : (fates : List Fate) (stage : Stage) (past : List Event) → Follows fates stage past → (m : MuxId)
    → (version_at past m).0 ≡ switched_by past m.0
version_counted fates stage [] follows m = refl
version_counted fates stage (e ∷ past) follows m =
    version_step (before fates) stage past e.clock.0 e.what m
    (λ kind. (taken_kind (before fates) stage past e kind follows.0).1)
    (version_counted (before fates) stage past follows.1 m) (switched_by (e ∷ past) m.0) refl

-- LABELS

-- the event that labels a packet steers it
pub label_cases : (stage : Stage) (past : List Event) (what : What) (k : ℕ) (l : Label)
    → label_after stage past what k (label_of stage past k) ≡ Some l
    → (label_of stage past k ≡ Some l)
    ⊎ ((m : MuxId) × (what ≡ Steer k m) × (labelled stage past m (segment_of stage k) ≡ Some l))
label_cases stage past (Steer packet m) k l is = elim (cases_Bool (eqb packet k)) [
  | inl same ↦ inr (m, ap (λ (j : ℕ). Steer j m) (eqb-true packet k same), rw same at is)
  | inr other ↦ inl (rw other at is)
]
label_cases stage past (Publish v) k l is = inl is
label_cases stage past (Switch m v) k l is = inl is
label_cases stage past (Lose j hop) k l is = inl is
label_cases stage past (Arrive j hop server verdict) k l is = inl is
label_cases stage past (Close server flow closed) k l is = inl is
label_cases stage past (Retire server h at result) k l is = inl is
label_cases stage past Sync k l is = inl is

labelled_is : (stage : Stage) (past : List Event) (m : MuxId) (o : Option Segment) (s : Segment) (l : Label)
    → o ≡ Some s → labelled stage past m o ≡ Some l → (l.mux ≡ m) × (l.version ≡ version_at past m)
labelled_is stage past m None s l is lab = absurd (cc)
labelled_is stage past m (Some t) s l is lab =
    (ap (λ (x : Label). x.mux) (sym (same_Some _ _ lab)), ap (λ (x : Label). x.version) (sym (same_Some _ _ lab)))

-- the label of packet k is of the mux that the route gives, the change that made its version came the mux's lag before
-- the packet, and the next change didn't
pub record IsDated (stage : Stage) (mux : ℕ → Flow → ℕ) (k : ℕ) (s : Segment) (l : Label) : Type 0 where
  pub mux_is : l.mux.0 ≡ mux k s.flow
  pub after : (v : ℕ) → l.version.0 ≡ suc v
      → change_moment (next_change stage.script.plan v) + lag_of stage l.mux.0 ≤ record_moment stage k
  pub earlier : l.version.0 < length stage.script.plan.changes
      → record_moment stage k < change_moment (next_change stage.script.plan l.version.0) + lag_of stage l.mux.0

new_dated : (stage : Stage) (mux : ℕ → Flow → ℕ) (F : Rules) (most top : ℕ)
    → AreRising 0 top (map (λ r. r.moment.0) stage.capture.records)
    → (fates : List Fate) (past : List Event) (e : Event) → Follows fates stage (e ∷ past)
    → AreWithin most fates (e ∷ past) → MayCome stage past e.clock.0 e.what → IsRouted (RouteBy mux) stage e.what
    → (k : ℕ) (s : Segment) (l : Label) (m : MuxId) → segment_of stage k ≡ Some s → e.what ≡ Steer k m
    → labelled stage past m (segment_of stage k) ≡ Some l → IsDated stage mux k s l
new_dated stage mux F most top rise fates past e follows within may routed k s l m is steers labels =
    let call : call_of e.what ≡ Steers k = ap call_of steers
    in let kind : loss_call (call_of e.what) ≡ false = rw call refl
    in let t = (taken_kind (before fates) stage past e kind follows.0).1
    in let from : first_of (packets_left stage past) ≡ t.due ∷ [] =
    subst (λ (c : Call). IsFrom (wire (before fates) past) stage past t.due c) call t.from
    in let old = timed stage most top rise (before fates) past follows.1 within.1
    in let next = steered_next stage past t.due k old.steers (t.call ∙ call) from
    in let its = labelled_is stage past m (segment_of stage k) s l is labels
    in let mux_same : l.mux.0 ≡ m.0 = ap (λ (x : MuxId). x.0) its.0
    in let version : l.version.0 ≡ switched_by past m.0 =
    ap (λ (x : Version). x.0) its.1 ∙ version_counted (before fates) stage past follows.1 m
    in let moment : t.due.moment ≡ record_moment stage k = next.moment
    in let there : MayCome stage past e.clock.0 (Steer k m) =
    subst (λ (w : What). MayCome stage past e.clock.0 w) steers may
    in let way : IsRouted (RouteBy mux) stage (Steer k m) =
    subst (λ (w : What). IsRouted (RouteBy mux) stage w) steers routed
    in let way' : m.0 ≡ mux k s.flow =
    subst (λ (o : Option Segment). IfSome o (λ x. m.0 ≡ mux k x.flow)) is way
    in let rank : rank_of t.due.call ≡ 6 = ap rank_of (t.call ∙ call)
    in record {
      mux_is = mux_same ∙ way';
      after = λ v suc_v.
          let h = next.ahead.switched m.0 v (sym version ∙ suc_v)
          in subst
          (λ (n : ℕ). change_moment (next_change stage.script.plan v) + lag_of stage n ≤ record_moment stage k)
          (sym mux_same) (omega arith);
      earlier = λ below. elim (slice_get_cases stage.script.plan.changes l.version.0).1 [
        | inl at ↦
            let change : next_change stage.script.plan (switched_by past m.0) ≡ Some at.0 =
            ap (λ (n : ℕ). next_change stage.script.plan n) (sym version) ∙ at.2
            in let h =
            steered_before (wire (before fates) past) stage past t.due m.0 at.0 t.is_least rank there.0 change
            in let own : record_moment stage k < change_moment (Some at.0) + lag_of stage m.0 = omega arith
            in subst
            (λ (n : ℕ). record_moment stage k
            < change_moment (next_change stage.script.plan l.version.0) + lag_of stage n) (sym mux_same)
            (subst (λ (o : Option Change). record_moment stage k < change_moment o + lag_of stage m.0) (sym at.2) own)
        | inr beyond ↦ absurd (let h = beyond.0 in omega arith)
      ];
    }

pub dated : (stage : Stage) (mux : ℕ → Flow → ℕ) (F : Rules) (most top : ℕ)
    → AreRising 0 top (map (λ r. r.moment.0) stage.capture.records)
    → (fates : List Fate) (past : List Event) → Follows fates stage past → AreWithin most fates past
    → Run stage past → AreAnswered (RouteBy mux) F stage fates past
    → (k : ℕ) (s : Segment) (l : Label) → segment_of stage k ≡ Some s → label_of stage past k ≡ Some l
    → IsDated stage mux k s l
dated stage mux F most top rise fates [] follows within run answered k s l is lab = absurd (cc)
dated stage mux F most top rise fates (e ∷ past) follows within run answered k s l is lab =
    elim (label_cases stage past e.what k l lab) [
      | inl old ↦
          dated stage mux F most top rise (before fates) past follows.1 within.1 run.1 answered.1 k s l is old
      | inr new ↦
          new_dated stage mux F most top rise fates past e follows within run.0.may answered.0.0 k s l new.0 is new.1
          new.2
    ]
