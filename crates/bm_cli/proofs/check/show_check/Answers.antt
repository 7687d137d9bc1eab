use Rattle.bm_cli.specs.Lines.{beamer_lines}
use Rattle.bm_cli.specs.Checks.{IsCheckOf}
use Rattle.bm_cli.specs.Dues.{Judged}
use Rattle.bm_cli.proofs.Telling.{tells_nothing}
use Rattle.bm_cli.proofs.check.show_check.Goals as goal

pub returns-in_default : goal.returns-in_default
returns-in_default g c = tells_nothing beamer_lines (Judged (IsCheckOf c.args.stage c.args.trace.now)) _ _

pub returns-in-Err : goal.returns-in-Err
returns-in-Err g c = tells_nothing beamer_lines (Judged (IsCheckOf c.args.stage c.args.trace.now)) _ _
