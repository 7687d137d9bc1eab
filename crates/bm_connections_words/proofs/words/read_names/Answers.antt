use Rattle.std.proofs.Common.{rules}
use Rattle.bm_connections_words.proofs.words.read_names.Goals as goal

pub returns-then-is_name-2 : goal.returns-then-is_name-2
returns-then-is_name-2 c = search rules
