use Rattle.std.proofs.Common.{◌≤◌, ◌*◌, length}
use Rattle.bm_board_bench.proofs.batches.steer.Given as goal

abbrev pub invariant-loop : goal.invariant-loop
invariant-loop l = length l.mux.log ≤ l.counter * 257
