use Rattle.std.proofs.Common.{◌≡◌}
use Rattle.bm_thread_tests.proofs.publish.watch.Given as goal

abbrev pub invariant-loop : goal.invariant-loop
invariant-loop l = l.look.board ≡ l.initial.look.board
