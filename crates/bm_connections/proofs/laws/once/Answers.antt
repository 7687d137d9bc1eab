use Rattle.bm_connections.specs.Seen.{records_of}
use Rattle.bm_connections.proofs.Sums.{once_there}
use Rattle.bm_connections.proofs.laws.once.Goals as goal

pub returns : goal.returns
returns c = λ f. once_there (records_of c.args.stage.now) f
