use Rattle.std.proofs.Common.{◌≡◌}
use Rattle.bm_cli.specs.Dues.{Shown}
use Rattle.bm_cli.proofs.Telling.{tells_nothing}
use Rattle.bm_connections_cli.specs.Help.{help_text}
use Rattle.bm_connections_cli.specs.Inside.Ends.{no_lines}
use Rattle.bm_connections_cli.proofs.help.help.Goals as goal

pub returns-in_default : goal.returns-in_default
returns-in_default g c = tells_nothing no_lines (Shown (λ shown. shown ≡ help_text)) _ _
