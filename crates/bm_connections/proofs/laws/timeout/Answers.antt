use Rattle.std.proofs.Common.{refl, reverse}
use Rattle.bm_connections.proofs.Lateness.{enough, least}
use Rattle.bm_connections.proofs.laws.timeout.Goals as goal

pub returns : goal.returns
returns c = record {
  enough = enough c.args.h.now.stage (reverse c.args.h.now.events) _ refl;
  least = least c.args.h.now.stage (reverse c.args.h.now.events) _ refl;
}
