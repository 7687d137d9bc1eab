use Rattle.std.proofs.Common.{◌≡◌, take, reverse, string_bytes}
use Rattle.bm_trace.specs.Report as report
use Rattle.bm_trace.proofs.rest.lines_of_records.Given as goal

abbrev pub invariant-loop-place : goal.invariant-loop-place
invariant-loop-place l = record {
  written : string_bytes l.lines ≡ report.record_lines (reverse l.h.events) 1 (take l.place l.records);
}
