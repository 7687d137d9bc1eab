use Rattle.std.proofs.Common.{rules}
use Rattle.bm_words.proofs.words.with_names.Goals as goal

pub returns-in-Run-Some-clause-asked : goal.returns-in-Run-Some-clause-asked
returns-in-Run-Some-clause-asked c = search rules
