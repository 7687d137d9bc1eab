-- What is kept of labels stays right with each event.
use Rattle.std.proofs.Common.{◌≡◌, ℕ, zero, suc, ◌<◌, ◌==◌, true, false, inl, inr, List, ◌∷◌, length, set}
use Rattle.std.proofs.Common.{Bool, Option, Some, None, refl, sym, ap, ◌∙◌, arith}
use Rattle.std.proofs.lemmas.Bool.{cases_lt, cases_eq, eq-eqb, ne_eqb}
use Rattle.std.proofs.lemmas.Grind.{common_steps}
use Rattle.std.proofs.lemmas.Option.{slice_get_past}
use Rattle.std.proofs.Math.ListN.{length-set}
use Rattle.bm_base.specs.Captures.{steerable}
use Rattle.bm_base.specs.declared.capture.Record.{Record}
use Rattle.bm_base.specs.declared.flow.Segment.{Segment}
use Rattle.bm_base.specs.declared.ids.MuxId.{MuxId}
use Rattle.bm_base.specs.declared.label.Label.{Label}
use Rattle.bm_core.specs.declared.events.Event.{Event}
use Rattle.bm_core.specs.declared.events.Stage.{Stage}
use Rattle.bm_core.specs.declared.events.What.{What}
use Rattle.bm_core.specs.declared.events.What.TheVariants.{Publish, Switch, Steer, Lose, Arrive, Close, Retire, Sync}
use Rattle.bm_core.specs.Past.{label_after, label_of, labelled, segment_of, version_at}
use Rattle.bm_state.specs.declared.labels.Labels.{Labels}
use Rattle.bm_state.specs.declared.labels.Steering.{Steering}
use Rattle.bm_state.specs.Labels.{KeepsLabels, label_from, steering_in}

-- THE FIRST

pub labels_none : (stage : Stage) (k : ℕ) (segment : Option Segment) → label_from stage segment None ≡ None
labels_none stage k None = refl
labels_none stage k (Some s) = refl

-- A STEER

-- a packet past the records has no segment
pub no_segment : (stage : Stage) (k : ℕ) → length stage.capture.records < k → segment_of stage k ≡ None
no_segment stage zero past = absurd (omega arith)
no_segment stage (suc i) past = ap (λ (r : Option Record). steerable r) (slice_get_past stage.capture.records i (omega arith))

label_written : (stage : Stage) (past : List Event) (segment : Option Segment) (s : Steering) (m : MuxId) → s.mux ≡ m
    → s.version ≡ version_at past m → label_from stage segment (Some s) ≡ labelled stage past m segment
label_written stage past None s m here at = refl
label_written stage past (Some segment) s m here at = rw (here, at) refl

label_unwritten : (stage : Stage) (past : List Event) (segment : Option Segment) (old : Option Steering) (m : MuxId)
    → segment ≡ None → label_from stage segment old ≡ labelled stage past m segment
label_unwritten stage past segment old m none = rw none refl

pub labels_steer : (stage : Stage) (past : List Event) (e : Event) (old new : Labels) (packet : ℕ) (m : MuxId)
    (s : Steering) → e.what ≡ Steer packet m → s.mux ≡ m → s.version ≡ version_at past m
    → new.steerings.items ≡ set old.steerings.items packet (Some s) → KeepsLabels stage past old
    → KeepsLabels stage (e ∷ past) new
labels_steer stage past e old new packet m s is here at puts keeps = record {
  count = ap length puts ∙ length-set old.steerings.items packet (Some s) ∙ keeps.count;
  label_of_each = λ k. rw is (elim (cases_eq packet k) [
    | inl same ↦
        let t : (packet == k) ≡ true = eq-eqb packet k same
        in elim (cases_lt k (length old.steerings.items)) [
          | inl within ↦
              let kept : steering_in new k ≡ Some s = (let i = puts in rw i (grind (arith, common_steps)))
              in rw (t, kept) (label_written stage past (segment_of stage k) s m here at)
          | inr beyond ↦
              let count = keeps.count
              in let none : segment_of stage k ≡ None = no_segment stage k (omega (arith, count, beyond))
              in rw t (label_unwritten stage past (segment_of stage k) (steering_in new k) m none)
        ]
    | inr other ↦
        let t : (packet == k) ≡ false = ne_eqb packet k other
        in let kept : steering_in new k ≡ steering_in old k = (let i = puts in rw i (grind (arith, common_steps)))
        in rw (t, kept) (keeps.label_of_each k)
  ]);
}

-- ANOTHER EVENT

abbrev pub is_steer : What → Bool
is_steer (Steer k m) = true
is_steer _ = false

same_label : (stage : Stage) (past : List Event) (what : What) (k : ℕ) (before : Option Label) → is_steer what ≡ false
    → label_after stage past what k before ≡ before
same_label stage past (Publish v) k before other = refl
same_label stage past (Switch m v) k before other = refl
same_label stage past (Steer p m) k before other = absurd (cc)
same_label stage past (Lose p hop) k before other = refl
same_label stage past (Arrive p hop server verdict) k before other = refl
same_label stage past (Close server flow closed) k before other = refl
same_label stage past (Retire server h at result) k before other = refl
same_label stage past Sync k before other = refl

pub labels_same : (stage : Stage) (past : List Event) (e : Event) (what : What) (labels : Labels) → e.what ≡ what
    → is_steer what ≡ false → KeepsLabels stage past labels → KeepsLabels stage (e ∷ past) labels
labels_same stage past e what labels is other keeps = record {
  count = keeps.count;
  label_of_each = λ k. keeps.label_of_each k
      ∙ sym (ap (λ (w : What). label_after stage past w k (label_of stage past k)) is
      ∙ same_label stage past what k (label_of stage past k) other);
}
