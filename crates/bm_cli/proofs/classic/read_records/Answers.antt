use Rattle.std.proofs.Common.{◌∙◌}
use Rattle.bm_cli.proofs.Began.{ok_more}
use Rattle.bm_cli.proofs.classic.read_records.Goals as goal

pub returns-clause-began : goal.returns-clause-began
returns-clause-began g c =
    ok_more c.read_capture-result.result _ _ (λ knows octets stands. c.began-began.ensures ∙ knows octets stands)
    c.read_capture-result.ensures.began

pub returns-clause-early : goal.returns-clause-early
returns-clause-early g c =
    ok_more c.read_capture-result.result _ _ (λ early. rw c.began-began.ensures early)
    c.read_capture-result.ensures.early
