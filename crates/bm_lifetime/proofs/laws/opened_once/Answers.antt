use Rattle.bm_lifetime.proofs.laws.opened_once.Goals as goal
use Rattle.bm_lifetime.proofs.Opened.{once_law}

pub returns : goal.returns
returns c = λ past f k s is only. once_law c.args.stage.now past f k s is only
