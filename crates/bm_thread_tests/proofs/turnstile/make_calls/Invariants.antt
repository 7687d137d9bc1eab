use Rattle.std.proofs.Common.{◌≡◌}
use Rattle.bm_turnstile.specs.Sittings.{who}
use Rattle.bm_thread_tests.proofs.turnstile.make_calls.Given as goal

abbrev pub invariant-loop-call : goal.invariant-loop-call
invariant-loop-call g l = (who l.mine ≡ who l.fn.seat) × (l.mine.turns ≡ l.call)
