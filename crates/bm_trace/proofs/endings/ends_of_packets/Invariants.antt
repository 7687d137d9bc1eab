use Rattle.std.proofs.Common.{◌≡◌, ℕ, ◌+◌, ◌<◌, vec_len, take, reverse}
use Rattle.bm_trace.specs.Inside.Ends.{words_of_ends}
use Rattle.bm_trace.specs.Inside.EndTables.{ends_at}
use Rattle.bm_trace.specs.Report as report
use Rattle.bm_trace.proofs.endings.ends_of_packets.Given as goal

abbrev pub invariant-loop-event : goal.invariant-loop-event
invariant-loop-event l = record {
  count : vec_len l.table.firsts ≡ l.packets;
  ends : (k : ℕ) → k < l.packets
      → words_of_ends (ends_at l.table k) ≡ report.ends_of (reverse (take l.event-index l.events)) (k + 1);
}
