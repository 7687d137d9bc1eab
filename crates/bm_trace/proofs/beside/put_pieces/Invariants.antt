use Rattle.std.proofs.Common.{◌≡◌, ℕ, ◌≤◌, length}
use Rattle.bm_core.specs.declared.events.History.{History}
use Rattle.bm_trace.specs.Inside.Pieces.{AreWritten, PutsLines, place_of}
use Rattle.bm_trace.proofs.beside.put_pieces.Given as goal

abbrev pub invariant-loop-piece : goal.invariant-loop-piece
invariant-loop-piece g l = record {
  written : (h : History) (from : ℕ) → from ≤ length h.events → AreWritten h from l.pieces
      → PutsLines h from (place_of h from l.piece-index) (g.K.Sink.written l.fn.out) (g.K.Sink.written l.out);
  later : g.K.Sink.faults l.out ≡ g.K.Sink.faults l.fn.out;
}
