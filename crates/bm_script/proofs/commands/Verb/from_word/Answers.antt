use Rattle.std.proofs.Common.{rules}
use Rattle.bm_script.proofs.commands.Verb.from_word.Goals as goal

pub returns-in-drain : goal.returns-in-drain
returns-in-drain c = search rules
