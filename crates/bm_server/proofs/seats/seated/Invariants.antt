use Rattle.std.proofs.Common.{◌≡◌, map}
use Rattle.bm_server.proofs.seats.seated.Given as goal

abbrev pub invariant-loop-seats : goal.invariant-loop-seats
invariant-loop-seats l = l.all.items ≡ map (λ r. r.items) l.yielded
