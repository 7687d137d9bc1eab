use Rattle.std.proofs.Common.{◌∙◌}
use Rattle.bm_trace.proofs.Parted.{on_err}
use Rattle.bm_trace.proofs.Pieces.{piece_put, piece_refused, written_at}
use Rattle.bm_trace.proofs.beside.put_pieces.Goals as goal

pub returns-in_err-put-clause-err : goal.returns-in_err-put-clause-err
returns-in_err-put-clause-err g c h from within written =
    let there = written_at h from c.loop-piece.piece-index c.args.pieces.now c.piece-item.result written
    c.loop-piece-test.true c.piece-item.is
    in on_err _ _
    (piece_refused h from c.loop-piece.piece-index _ _ _ c.piece-item.result there
    (c.loop-piece.invariant.written h from within written) c.in_err-put.ensures.err)

pub loop-piece-preserved : goal.loop-piece-preserved
loop-piece-preserved g c = record {
  written = λ h from within written.
      let there = written_at h from c.loop-piece.piece-index c.args.pieces.now c.piece-item.result written
      c.loop-piece-test.true c.piece-item.is
      in piece_put h from c.loop-piece.piece-index _ _ _ c.piece-item.result there
      (c.loop-piece.invariant.written h from within written) c.in_ok-put.ensures.ok;
  later = c.in_ok-put.ensures.cause.kept ∙ c.loop-piece.invariant.later;
}
