use Rattle.bm_trace.proofs.Handing.{both_on, less_after, rest_less}
use Rattle.bm_trace.proofs.Parted.{err_more, ok_more, on_err, some_last}
use Rattle.bm_trace.proofs.document.put_rest.Goals as goal

pub returns-in_err-put_records-clause-err : goal.returns-in_err-put_records-clause-err
returns-in_err-put_records-clause-err g c =
    on_err _ _ (rest_less _ _ _ _ _ c.in_err-put_records.ensures.err (some_last c.args.h.now))

pub returns-clause-ok : goal.returns-clause-ok
returns-clause-ok g c =
    ok_more c.put_end.result _ _ (both_on _ _ _ _ _ _ _ _ c.in_ok-put_records.ensures.ok) c.put_end.ensures.ok

pub returns-clause-err : goal.returns-clause-err
returns-clause-err g c =
    err_more c.put_end.result _ _ (less_after _ _ _ _ _ _ _ c.in_ok-put_records.ensures.ok) c.put_end.ensures.err
