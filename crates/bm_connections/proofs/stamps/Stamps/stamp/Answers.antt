use Rattle.std.proofs.Common.{rules}
use Rattle.bm_connections.proofs.stamps.Stamps.stamp.Goals as goal

pub returns-in-Some-onward : goal.returns-in-Some-onward
returns-in-Some-onward c = search rules

pub returns-in-None : goal.returns-in-None
returns-in-None c = search rules
