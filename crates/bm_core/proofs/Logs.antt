-- What a history says of a mux and its labels, the mux's log says.
use Rattle.std.proofs.Common.{◌≡◌, ℕ, Bool, true, false, cond, List, [], ◌∷◌, Option, Some, None, inl, inr, refl, sym}
use Rattle.std.proofs.Common.{ap, subst, ◌∙◌, eqb}
use Rattle.std.proofs.lemmas.Bool.{cases_Bool, eq-eqb}
use Rattle.std.proofs.lemmas.Option.{same_Some}
use Rattle.bm_base.specs.declared.ids.MuxId.{MuxId}
use Rattle.bm_base.specs.declared.flow.Segment.{Segment}
use Rattle.bm_base.specs.declared.label.Label.{Label}
use Rattle.bm_core.specs.declared.events.What.{What}
use Rattle.bm_core.specs.declared.events.What.TheVariants.{Publish, Switch, Steer, Lose, Arrive, Close, Retire, Sync}
use Rattle.bm_core.specs.declared.events.Event.{Event}
use Rattle.bm_core.specs.declared.events.Stage.{Stage}
use Rattle.bm_core.specs.Past.{segment_of, switched, version_at, labelled, label_after, label_of}
use Rattle.bm_core.specs.Runs.{actor_of, is_by}
use Rattle.bm_core.specs.Runs.Actor.{MuxOf}
use Rattle.bm_core.specs.Logs.{log_of}

-- an event of another actor is not in the log, one of the actor is
pick : {A : Type 0} (b : Bool) (e : Event) (past : List Event) (f : List Event → A) (x : A)
    → (b ≡ true → f (e ∷ past) ≡ x) → (b ≡ false → f past ≡ x) → f (cond b (e ∷ past) past) ≡ x
pick true e past f x y n = y refl
pick false e past f x y n = n refl

version_step : (stage : Stage) (past : List Event) (e : Event) (what : What) (m : MuxId) → e.what ≡ what
    → version_at (log_of stage past (MuxOf m.0)) m ≡ version_at past m
    → version_at
    (cond (is_by (actor_of stage what) (MuxOf m.0)) (e ∷ log_of stage past (MuxOf m.0)) (log_of stage past (MuxOf m.0)))
    m ≡ switched what m (version_at past m)
version_step stage past e (Switch x v) m is old =
    pick (eqb x.0 m.0) e (log_of stage past (MuxOf m.0)) (λ (l : List Event). version_at l m)
    (switched (Switch x v) m (version_at past m))
    (λ same. rw (is, same) refl) (λ other. rw other old)
version_step stage past e (Steer k x) m is old =
    pick (eqb x.0 m.0) e (log_of stage past (MuxOf m.0)) (λ (l : List Event). version_at l m) (version_at past m)
    (λ same. rw is old) (λ other. old)
version_step stage past e (Publish v) m is old = old
version_step stage past e (Lose k hop) m is old = old
version_step stage past e (Arrive k hop server verdict) m is old =
    pick (is_by (actor_of stage (Arrive k hop server verdict)) (MuxOf m.0)) e (log_of stage past (MuxOf m.0))
    (λ (l : List Event). version_at l m) (version_at past m) (λ same. rw is old) (λ other. old)
version_step stage past e (Close server flow closed) m is old = old
version_step stage past e (Retire server h at result) m is old = old
version_step stage past e Sync m is old = old

-- the version of a mux is that of its own log
pub version_in_log : (stage : Stage) (past : List Event) (m : MuxId)
    → version_at (log_of stage past (MuxOf m.0)) m ≡ version_at past m
version_in_log stage [] m = refl
version_in_log stage (e ∷ past) m = version_step stage past e e.what m refl (version_in_log stage past m)

label_mux : (stage : Stage) (past : List Event) (x : MuxId) (o : Option Segment) (l : Label)
    → labelled stage past x o ≡ Some l → x ≡ l.mux
label_mux stage past x None l h = absurd (cc)
label_mux stage past x (Some s) l h = ap (λ (y : Label). y.mux) (same_Some _ _ h)

label_step : (stage : Stage) (past : List Event) (e : Event) (what : What) (m : MuxId) (k : ℕ) (l : Label)
    → e.what ≡ what → l.mux ≡ m
    → (label_of stage past k ≡ Some l → label_of stage (log_of stage past (MuxOf m.0)) k ≡ Some l)
    → label_after stage past what k (label_of stage past k) ≡ Some l
    → label_of stage
    (cond (is_by (actor_of stage what) (MuxOf m.0)) (e ∷ log_of stage past (MuxOf m.0)) (log_of stage past (MuxOf m.0)))
    k ≡ Some l
label_step stage past e (Steer j x) m k l is by old h =
    elim (cases_Bool (eqb j k)) [
      | inl same ↦
          let new : labelled stage past x (segment_of stage k) ≡ Some l = rw same at h
          in let mux : x ≡ m = label_mux stage past x (segment_of stage k) l new ∙ by
          in let own : eqb x.0 m.0 ≡ true = eq-eqb _ _ (ap (λ (y : MuxId). y.0) mux)
          in rw (own, is, same) (in_log (segment_of stage k) new mux)
      | inr other ↦
          pick (eqb x.0 m.0) e (log_of stage past (MuxOf m.0)) (λ (y : List Event). label_of stage y k) (Some l)
          (λ own. rw (is, other) (old (rw other at h))) (λ away. old (rw other at h))
    ] where
      in_log : (o : Option Segment) → labelled stage past x o ≡ Some l → x ≡ m
          → labelled stage (log_of stage past (MuxOf m.0)) x o ≡ Some l
      in_log None n mux = absurd (cc)
      in_log (Some s) n mux =
          let v : version_at (log_of stage past (MuxOf m.0)) x ≡ version_at past x =
          subst (λ (y : MuxId). version_at (log_of stage past (MuxOf m.0)) y ≡ version_at past y) (sym mux)
          (version_in_log stage past m)
          in rw v n
label_step stage past e (Switch x v) m k l is by old h =
    pick (eqb x.0 m.0) e (log_of stage past (MuxOf m.0)) (λ (y : List Event). label_of stage y k) (Some l)
    (λ own. rw is (old h)) (λ away. old h)
label_step stage past e (Arrive j hop server verdict) m k l is by old h =
    pick (is_by (actor_of stage (Arrive j hop server verdict)) (MuxOf m.0)) e (log_of stage past (MuxOf m.0))
    (λ (y : List Event). label_of stage y k) (Some l) (λ own. rw is (old h)) (λ away. old h)
label_step stage past e (Publish v) m k l is by old h = old h
label_step stage past e (Lose j hop) m k l is by old h = old h
label_step stage past e (Close server flow closed) m k l is by old h = old h
label_step stage past e (Retire server x at result) m k l is by old h = old h
label_step stage past e Sync m k l is by old h = old h

-- a packet's label is that of its mux's own log
pub label_in_log : (stage : Stage) (past : List Event) (k : ℕ) (l : Label) → label_of stage past k ≡ Some l
    → label_of stage (log_of stage past (MuxOf l.mux.0)) k ≡ Some l
label_in_log stage [] k l h = absurd (cc)
label_in_log stage (e ∷ past) k l h = label_step stage past e e.what l.mux k l refl refl (label_in_log stage past k l) h
