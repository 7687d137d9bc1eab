use Rattle.bm_trace.proofs.Handing.{end_less, end_on, none_less}
use Rattle.bm_trace.proofs.Parted.{err_more, last_put, ok_more, on_err, some_last}
use Rattle.bm_trace.proofs.document.put_end.Goals as goal

pub returns-in_err-write_cut-clause-err : goal.returns-in_err-write_cut-clause-err
returns-in_err-write_cut-clause-err g c = on_err _ _ (none_less _ _ _ (some_last c.args.h.now))

pub returns-in_err-write_totals-clause-err : goal.returns-in_err-write_totals-clause-err
returns-in_err-write_totals-clause-err g c = on_err _ _ (none_less _ _ _ (some_last c.args.h.now))

pub returns-clause-ok : goal.returns-clause-ok
returns-clause-ok g c =
    ok_more c.put_all.result _ _
    (end_on _ _ _ _ _
    (last_put _ _ _ _ _ _ _ c.as_bytes.ensures.value c.in_ok-write_cut.ensures c.in_ok-write_totals.ensures
    c.requires)) c.put_all.ensures.ok

pub returns-clause-err : goal.returns-clause-err
returns-clause-err g c =
    err_more c.put_all.result _ _
    (end_less _ _ _ _ _
    (last_put _ _ _ _ _ _ _ c.as_bytes.ensures.value c.in_ok-write_cut.ensures c.in_ok-write_totals.ensures
    c.requires)) c.put_all.ensures.err
