use Rattle.std.proofs.Common.{◌∙◌, ap, ◌++◌}
use Rattle.bm_trace.proofs.Parted.{in_memory}
use Rattle.bm_trace.proofs.document.report.Goals as goal

pub returns-clause-ok : goal.returns-clause-ok
returns-clause-ok c =
    c.in_ok-extend_from_slice.ensures.items
    ∙ ap (λ x. c.args.out.now.items ++ x)
    (in_memory c.written.result.now _ _ _ c.new-text.ensures.written c.written.ensures c.in-Ok.ensures.ok)
