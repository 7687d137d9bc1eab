-- The ranges of a stage's numbers, which a report and its counts need.
use Rattle.std.specs.Prelude.{◌≡◌, ◌≤◌, length}
use Rattle.bm_core.specs.declared.events.Stage.{Stage}
use Rattle.bm_table.specs.Settings.{IsWithin}

-- its buckets, shards and records are at most as many as may be, and the plan has as many buckets
-- as the setting
pub record HasRanges (stage : Stage) : Type 0 where
  pub buckets : IsWithin 1 65536 stage.script.setting.buckets
  pub shards : IsWithin 1 64 stage.script.setting.shards
  pub planned : stage.script.plan.buckets ≡ stage.script.setting.buckets
  pub records : length stage.capture.records ≤ 200000
