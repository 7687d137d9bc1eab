use Rattle.std.proofs.Common.{rules}
use Rattle.bm_pcapng.proofs.step.framed.Goals as goal

pub returns-in_err-said-clause-block : goal.returns-in_err-said-clause-block
returns-in_err-said-clause-block c = search rules

pub returns-clause-block : goal.returns-clause-block
returns-clause-block c = search rules
