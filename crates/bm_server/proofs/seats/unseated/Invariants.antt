use Rattle.std.proofs.Common.{◌≡◌, map}
use Rattle.bm_server.proofs.seats.unseated.Given as goal

abbrev pub invariant-loop-seat : goal.invariant-loop-seat
invariant-loop-seat l = map (λ r. r.items) l.all.items ≡ l.yielded
