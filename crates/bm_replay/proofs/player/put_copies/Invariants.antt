use Rattle.std.proofs.Common.{◌≡◌}
use Rattle.bm_replay.specs.Inside.Flights.{copies_put}
use Rattle.bm_replay.proofs.player.put_copies.Given as goal

abbrev pub invariant-loop : goal.invariant-loop
invariant-loop l = l.wire ≡ copies_put l.counter (record { due = l.due; flight = l.flight }) l.fn.wire
