use Rattle.bm_cli.proofs.Telling.{none_written}
use Rattle.bm_cli.proofs.show.write_report.Goals as goal

pub returns-in_default-clause-err : goal.returns-in_default-clause-err
returns-in_default-clause-err g c = none_written c.args.history.now _
