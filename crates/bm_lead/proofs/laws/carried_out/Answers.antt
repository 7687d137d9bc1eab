use Rattle.bm_lead.proofs.Ending.{all_led, all_published}
use Rattle.bm_lead.proofs.laws.carried_out.Goals as goal

pub returns : goal.returns
returns c = λ servers posted leader notes ready led end. (
  all_led c.args.stage.now posted leader notes led end,
  all_published c.args.stage.now servers posted leader notes ready led end,
)
