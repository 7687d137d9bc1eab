use Rattle.bm_core.proofs.laws.one_replay.Goals as goal
use Rattle.bm_core.proofs.Determined.{replay_law}

pub returns : goal.returns
returns c = λ mux fate p q. replay_law c.args.a.now c.args.b.now c.requires mux fate p q
