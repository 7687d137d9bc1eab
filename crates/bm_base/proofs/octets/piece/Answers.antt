use Rattle.std.proofs.Common.{sym}
use Rattle.bm_base.proofs.Pieces.{begins, end_within, piece_at}
use Rattle.bm_base.proofs.octets.piece.Goals as goal

pub slice_bounds-result-count : goal.slice_bounds-result-count
slice_bounds-result-count c =
    rw c.begin-from.ensures (begins c.args.at c.args.ends.now _ c.requires.ends c.requires.within)

pub slice_bounds-result-start : goal.slice_bounds-result-start
slice_bounds-result-start c =
    rw c.begin-from.ensures (begins c.args.at c.args.ends.now _ c.requires.ends c.requires.within)

pub slice_bounds-result-end : goal.slice_bounds-result-end
slice_bounds-result-end c = (end_within c.args.at 0 c.args.ends.now _ c.requires.ends c.requires.within).1

pub returns : goal.returns
returns c =
    rw c.begin-from.ensures
    (sym (piece_at c.args.at c.args.ends.now c.args.octets.now _ c.requires.ends c.requires.within))
