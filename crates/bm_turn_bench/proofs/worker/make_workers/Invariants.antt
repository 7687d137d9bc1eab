use Rattle.std.proofs.Common.{◌≡◌, length}
use Rattle.bm_turn_bench.proofs.worker.make_workers.Given as goal

abbrev pub invariant-loop : goal.invariant-loop
invariant-loop l = length l.rows.items ≡ l.counter

abbrev pub invariant-loop-2 : goal.invariant-loop-2
invariant-loop-2 l = length l.rows.items ≡ l.threads
