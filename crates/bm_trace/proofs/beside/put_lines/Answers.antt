use Rattle.std.proofs.Common.{length, rules}
use Rattle.bm_trace.proofs.Parted.{on_err}
use Rattle.bm_trace.proofs.Pieces.{puts_all, puts_first, puts_left}
use Rattle.bm_trace.proofs.beside.put_lines.Goals as goal

pub returns-in_err-stray-clause-err : goal.returns-in_err-stray-clause-err
returns-in_err-stray-clause-err g c = on_err _ _ (puts_first c.args.h.now _ _ (search rules))

pub returns-in_err-lines-clause-err : goal.returns-in_err-lines-clause-err
returns-in_err-lines-clause-err g c =
    let h = c.args.h.now
    in on_err _ _ (puts_first h _ _ (puts_left h 0 (length h.events) _ _ (search rules)))

pub returns-clause-ok : goal.returns-clause-ok
returns-clause-ok g c = puts_all c.args.h.now _ _ _ (search rules) (search rules)
