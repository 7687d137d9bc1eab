use Rattle.std.proofs.Common.{rules}
use Rattle.bm_trace.proofs.Handing.{buffer_on, buffer_part}
use Rattle.bm_trace.proofs.Parted.{on_err}
use Rattle.bm_trace.proofs.document.put_full.Goals as goal

pub returns-in_err-put_all-clause-err : goal.returns-in_err-put_all-clause-err
returns-in_err-put_all-clause-err g c =
    on_err _ _ (buffer_part _ _ _ _ c.as_bytes.ensures.value c.in_err-put_all.ensures.err)

pub returns-clause-ok : goal.returns-clause-ok
returns-clause-ok g c =
    buffer_on _ _ _ _ _ c.as_bytes.ensures.value (search rules) c.in_ok-put_all.ensures.ok
