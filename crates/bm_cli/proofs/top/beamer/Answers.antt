use Rattle.bm_cli.proofs.Forms as forms
use Rattle.bm_cli.proofs.Laws as laws
use Rattle.bm_cli.proofs.top.beamer.Goals as goal

pub returns-clause-program : goal.returns-clause-program
returns-clause-program g c =
    laws.is_program _ _ _ _ _ c.answer.result _ (forms.by_form _) c.code.ensures c.answer.ensures.ends

pub returns-clause-shown : goal.returns-clause-shown
returns-clause-shown g c =
    laws.shown _ _ _ _ _ _ (laws.ended _ _ _ _ _ _ c.answer.result c.code.ensures c.answer.ensures.ends)
