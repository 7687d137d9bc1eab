use Rattle.std.proofs.Common.{reverse}
use Rattle.bm_connections.proofs.Sums.{broken_is}
use Rattle.bm_connections.proofs.laws.broken.Goals as goal

pub returns : goal.returns
returns c = λ f. broken_is c.args.h.now.stage f (reverse c.args.h.now.events)
