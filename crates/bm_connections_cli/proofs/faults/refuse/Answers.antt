use Rattle.bm_cli.specs.Dues.{Refused}
use Rattle.bm_cli.proofs.Telling.{tells_nothing}
use Rattle.bm_connections_cli.specs.Faults.{names_file}
use Rattle.bm_connections_cli.proofs.faults.refuse.Goals as goal

pub returns-then-eq : goal.returns-then-eq
returns-then-eq g c = tells_nothing (names_file c.args.name.now) (Refused c.args.fault.now) _ _

pub returns-in-Err : goal.returns-in-Err
returns-in-Err g c = tells_nothing (names_file c.args.name.now) (Refused c.args.fault.now) _ _
