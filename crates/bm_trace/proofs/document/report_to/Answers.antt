use Rattle.std.proofs.Common.{rules}
use Rattle.bm_trace.proofs.Parted.{behind_events, err_more, first_refused, ok_more, on_err, report_written}
use Rattle.bm_trace.proofs.Parted.{rest_refused, some_behind}
use Rattle.bm_trace.proofs.document.report_to.Goals as goal

pub returns-in_err-put_events-clause-err : goal.returns-in_err-put_events-clause-err
returns-in_err-put_events-clause-err g c =
    on_err _ _
    (first_refused _ _ _ _ _ _ (behind_events c.args.h.now) (search rules) (some_behind c.args.h.now)
    c.in_err-put_events.ensures.err)

pub returns-clause-ok : goal.returns-clause-ok
returns-clause-ok g c =
    ok_more c.put_rest.result _ _
    (report_written _ _ _ _ _ _ _ _ (behind_events c.args.h.now) (search rules) c.in_ok-put_events.ensures.ok)
    c.put_rest.ensures.ok

pub returns-clause-err : goal.returns-clause-err
returns-clause-err g c =
    err_more c.put_rest.result _ _
    (rest_refused _ _ _ _ _ _ _ _ (behind_events c.args.h.now) (search rules) c.in_ok-put_events.ensures.ok)
    c.put_rest.ensures.err
