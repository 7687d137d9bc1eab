use Rattle.std.proofs.Common.{rules}
use Rattle.bm_script.proofs.key.Key.since.Goals as goal

pub returns-in-Racks : goal.returns-in-Racks
returns-in-Racks c = search rules
