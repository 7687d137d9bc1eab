-- What comes after the lines of a report's events.
use Rattle.std.specs.Prelude.{◌≡◌, reverse, string_bytes}
use Rattle.bm_core.specs.declared.events.History.{History}
use Rattle.bm_trace.specs.Inside.Counts.{without_strays}
use Rattle.bm_trace.specs.Report.{record_lines}
use Rattle.bm_trace.specs.Totals.{totals_of}
use Rattle.bm_trace.specs.declared.rest.Rest.{Rest}

-- it has the lines of all records, and the totals as if no event were a stray
pub record IsRest (h : History) (rest : Rest) : Type 0 where
  pub lines : string_bytes rest.lines
      ≡ record_lines (reverse h.events) 1 h.stage.capture.records
  pub sums : rest.sums ≡ without_strays (totals_of h)
