-- What the contracts of private calls and the proofs of bodies use in addition to Schedule.
use Rattle.std.specs.Prelude.{◌≡◌, ℕ, ◌<◌}
use Rattle.std.specs.Prelude.{List}
use Rattle.std.specs.Prelude.{Some, is_some}
use Rattle.bm_base.specs.declared.ids.ServerId.{ServerId}
use Rattle.bm_base.specs.declared.flow.Segment.{Segment}
use Rattle.bm_base.specs.declared.label.Hop.{Hop}
use Rattle.bm_base.specs.declared.label.Label.{Label}
use Rattle.bm_table.specs.Tables.{IsRetirement}
use Rattle.bm_core.specs.declared.events.Verdict.{Verdict}
use Rattle.bm_core.specs.declared.events.What.{What}
use Rattle.bm_core.specs.declared.events.What.TheVariants.{Steer, Arrive}
use Rattle.bm_core.specs.declared.events.What.TheVariants.{Close, Retire}
use Rattle.bm_core.specs.declared.events.Event.{Event}
use Rattle.bm_core.specs.declared.events.Stage.{Stage}
use Rattle.bm_core.specs.Past.{newest, segment_of}
use Rattle.bm_core.specs.Past.{label_of, held, timeout}
use Rattle.bm_base.specs.Labels.{arrives_at}
use Rattle.bm_core.specs.Verdicts.{verdict_at}

-- the arrival is where the packet's label sends it, and has the verdict that the server's shard
-- gives it
pub record IsServing (stage : Stage) (past : List Event) (clock k : ℕ) (hop : Hop)
    (server : ServerId) (verdict : Verdict) : Type 0 where
  pub segment : Segment
  pub is_segment : segment_of stage k ≡ Some segment
  pub label : Label
  pub is_label : label_of stage past k ≡ Some label
  pub place : arrives_at label.entry hop ≡ Some server
  pub verdict_is : verdict ≡ verdict_at stage past clock label hop server segment

-- what the event answers is what the route, the tables and the shards answer
abbrev pub IsAnswered : Stage → List Event → ℕ → What → Type 0
IsAnswered stage past clock (Steer k m) = m.0 < stage.script.setting.muxes
IsAnswered stage past clock (Arrive k hop server verdict) =
    IsServing stage past clock k hop server verdict
IsAnswered stage past clock (Close server flow closed) =
    closed ≡ is_some (held stage past server flow)
IsAnswered stage past clock (Retire server h at result) =
    IsRetirement stage.script.plan (timeout stage) (newest past) server at.0 result
IsAnswered stage past clock _ = Unit {0}
