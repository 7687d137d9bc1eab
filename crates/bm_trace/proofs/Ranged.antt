-- A sound stage has its numbers in their ranges.
use Rattle.bm_core.specs.declared.events.Stage.{Stage}
use Rattle.bm_core.specs.Stages.{IsSound}
use Rattle.bm_trace.specs.Ranges.{HasRanges}

pub ranges_of : (stage : Stage) → IsSound stage → HasRanges stage
ranges_of stage s =
    record {
      buckets = s.script.setting.buckets;
      shards = s.script.setting.shards;
      planned = s.script.buckets;
      records =
          s.capture.few;
    }
