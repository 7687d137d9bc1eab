-- What is kept of labels.
use Rattle.std.specs.Prelude.{◌≡◌, ℕ, suc, List, length, Option, Some, None, option_map, slice_index_or}
use Rattle.bm_base.specs.declared.flow.Flow.{Flow}
use Rattle.bm_base.specs.declared.flow.Segment.{Segment}
use Rattle.bm_base.specs.declared.label.Label.{Label}
use Rattle.bm_core.specs.declared.events.Event.{Event}
use Rattle.bm_core.specs.declared.events.Stage.{Stage}
use Rattle.bm_core.specs.Past.{bucket, label_of, segment_of}
use Rattle.bm_table.specs.Tables.{table}
use Rattle.bm_state.specs.declared.labels.Labels.{Labels}
use Rattle.bm_state.specs.declared.labels.Steering.{Steering}

-- the label that is written on a packet of the flow
abbrev pub label_by : Stage → Flow → Steering → Label
label_by stage f s = record {
  mux = s.mux;
  version = s.version;
  entry = table stage.script.plan s.version.0 (bucket stage f);
}

-- the label of a packet with this segment, if it was steered
abbrev pub label_from : Stage → Option Segment → Option Steering → Option Label
label_from stage None steering = None
label_from stage (Some s) steering = option_map (label_by stage s.flow) steering

-- what is kept of the packet
abbrev pub steering_in : Labels → ℕ → Option Steering
steering_in labels k = slice_index_or labels.steerings.items k None

-- this is kept after these events
pub record KeepsLabels (stage : Stage) (past : List Event) (labels : Labels) : Type 0 where
  pub count : length labels.steerings.items ≡ suc (length stage.capture.records)
  pub label_of_each : (k : ℕ)
      → label_from stage (segment_of stage k) (steering_in labels k) ≡ label_of stage past k
