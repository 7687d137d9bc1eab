use Rattle.bm_trace.proofs.Parted.{on_err}
use Rattle.bm_trace.proofs.Pieces.{puts_left, puts_none}
use Rattle.bm_trace.proofs.beside.put_lines_of_events.Goals as goal

pub returns-in_err-round-clause-err : goal.returns-in_err-round-clause-err
returns-in_err-round-clause-err g c =
    let h = c.args.h.now in on_err _ _ (puts_left h 0 0 _ _ (puts_none h 0 _))
