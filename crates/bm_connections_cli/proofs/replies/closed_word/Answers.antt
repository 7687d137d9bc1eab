use Rattle.std.proofs.Common.{rules}
use Rattle.bm_connections_cli.proofs.replies.closed_word.Goals as goal

pub returns-else-closed : goal.returns-else-closed
returns-else-closed c = search rules
