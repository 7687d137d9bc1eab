use Rattle.std.proofs.Common.{rules}
use Rattle.bm_pcapng.proofs.section.Section.pass.Goals as goal

pub returns-in-Begins-clause-interfaces : goal.returns-in-Begins-clause-interfaces
returns-in-Begins-clause-interfaces c = search rules
