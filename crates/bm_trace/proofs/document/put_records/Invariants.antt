use Rattle.std.proofs.Common.{◌≡◌, take, reverse, string_bytes}
use Rattle.bm_trace.specs.Inside.Parts.{HandsOn}
use Rattle.bm_trace.specs.Report as report
use Rattle.bm_trace.proofs.document.put_records.Given as goal

abbrev pub invariant-loop-place : goal.invariant-loop-place
invariant-loop-place g l = record {
  written : HandsOn (g.K.Sink.written l.fn.out) (string_bytes l.fn.lines) (g.K.Sink.written l.out)
      (string_bytes l.lines) (report.record_lines (reverse l.h.events) 1 (take l.place l.records));
  later : g.K.Sink.faults l.out ≡ g.K.Sink.faults l.fn.out;
}
