use Rattle.std.proofs.Common.{refl}
use Rattle.bm_trace.proofs.Parted.{behind_records, err_more, first_refused, ok_more, on_err, report_written}
use Rattle.bm_trace.proofs.Parted.{rest_refused, some_last}
use Rattle.bm_trace.proofs.beside.report_beside.Goals as goal

pub returns-in_err-lines-clause-err : goal.returns-in_err-lines-clause-err
returns-in_err-lines-clause-err g c =
    on_err _ _
    (first_refused _ _ _ _ _ _ (behind_records c.args.h.now) refl (some_last c.args.h.now)
    c.in_err-lines.ensures.err)

pub returns-clause-ok : goal.returns-clause-ok
returns-clause-ok g c =
    ok_more c.put_end.result _ _
    (report_written _ _ _ _ _ _ _ _ (behind_records c.args.h.now) refl c.in_ok-lines.ensures.ok)
    c.put_end.ensures.ok

pub returns-clause-err : goal.returns-clause-err
returns-clause-err g c =
    err_more c.put_end.result _ _
    (rest_refused _ _ _ _ _ _ _ _ (behind_records c.args.h.now) refl c.in_ok-lines.ensures.ok)
    c.put_end.ensures.err
