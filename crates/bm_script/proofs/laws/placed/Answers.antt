use Rattle.bm_script.proofs.Placed.{text-placed}
use Rattle.bm_script.proofs.laws.placed.Goals as goal

pub returns : goal.returns
returns c = text-placed c.args.text.now
