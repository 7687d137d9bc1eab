use Rattle.bm_core.proofs.laws.some_replay.Goals as goal
use Rattle.bm_core.proofs.Existing.{exists_law}

pub returns : goal.returns
returns c = exists_law c.args.stage.now c.requires
