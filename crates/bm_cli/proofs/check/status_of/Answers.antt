use Rattle.std.proofs.Common.{rules}
use Rattle.bm_cli.proofs.check.status_of.Goals as goal

pub returns-in-Yes-clause-status : goal.returns-in-Yes-clause-status
returns-in-Yes-clause-status c = search rules
