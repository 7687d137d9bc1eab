use Rattle.std.proofs.Common.{rules}
use Rattle.bm_state.proofs.author.author_of.Goals as goal

pub returns-in-Close : goal.returns-in-Close
returns-in-Close c = search rules

pub returns-in-Switch : goal.returns-in-Switch
returns-in-Switch c = search rules
