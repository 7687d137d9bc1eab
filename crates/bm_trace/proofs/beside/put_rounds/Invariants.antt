use Rattle.std.proofs.Common.{◌≡◌, ◌-◌, length}
use Rattle.bm_trace.specs.Inside.Pieces.{IsRound, PutsLines}
use Rattle.bm_trace.proofs.beside.put_rounds.Given as goal

abbrev pub invariant-loop-round : goal.invariant-loop-round
invariant-loop-round g l = record {
  round : IsRound l.h l.round;
  written : PutsLines l.h 0 l.round.from (g.K.Sink.written l.fn.out) (g.K.Sink.written l.out);
  later : g.K.Sink.faults l.out ≡ g.K.Sink.faults l.fn.out;
}

abbrev pub decreases-loop-round : goal.decreases-loop-round
decreases-loop-round g l = length l.h.events - l.round.from
