use Rattle.std.proofs.Common.{◌∙◌, arith}
use Rattle.bm_cli.proofs.Began.{ok_more}
use Rattle.bm_cli.proofs.pcapng.read_blocks.Goals as goal

pub returns-clause-began : goal.returns-clause-began
returns-clause-began g c =
    ok_more c.read_ng-result.result _ _ (λ knows octets stands. c.began-began.ensures ∙ knows octets stands)
    c.read_ng-result.ensures.began

pub returns-clause-early : goal.returns-clause-early
returns-clause-early g c = omega (arith, c.began-began.ensures)
