use Rattle.std.proofs.Common.{rules}
use Rattle.bm_core.proofs.verdict.decide.Goals as goal

pub returns-in-Some : goal.returns-in-Some
returns-in-Some c = search rules

pub returns-in-None-3 : goal.returns-in-None-3
returns-in-None-3 c = search rules
