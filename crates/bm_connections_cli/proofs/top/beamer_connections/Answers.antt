use Rattle.bm_connections_cli.proofs.Forms.{of_form, shown_form}
use Rattle.bm_connections_cli.proofs.Outcomes.{fails_by, plain_code}
use Rattle.bm_connections_cli.proofs.top.beamer_connections.Goals as goal

pub returns-clause-program : goal.returns-clause-program
returns-clause-program g c =
    of_form _ _ _ _ _ c.answer.result.status _ (plain_code c.answer.result c.code.result c.code.ensures)
    c.answer.ensures.ends

pub returns-clause-shown : goal.returns-clause-shown
returns-clause-shown g c =
    shown_form _ _ _ _ _ c.answer.result.status _ (plain_code c.answer.result c.code.result c.code.ensures)
    c.answer.ensures.ends

pub returns-clause-fails : goal.returns-clause-fails
returns-clause-fails g c = fails_by _ _ c.answer.result c.code.result c.code.ensures c.answer.ensures.fails
