use Rattle.std.proofs.Common.{rules}
use Rattle.bm_words.proofs.form.is_name.Goals as goal

pub returns-in-len1-up : goal.returns-in-len1-up
returns-in-len1-up c = search rules
