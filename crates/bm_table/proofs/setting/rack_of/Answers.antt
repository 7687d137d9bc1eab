use Rattle.std.proofs.Common.{rules}
use Rattle.bm_table.proofs.setting.rack_of.Goals as goal

pub returns-clause-rack : goal.returns-clause-rack
returns-clause-rack c = search rules
