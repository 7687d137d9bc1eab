use Rattle.bm_cli.proofs.Began.{classic_began_in}
use Rattle.bm_cli.proofs.Readings.{classic_refused}
use Rattle.bm_cli.proofs.classic.read_classic.Goals as goal

pub returns-in-Ok-clause-began : goal.returns-in-Ok-clause-began
returns-in-Ok-clause-began g c =
    classic_began_in c.read_records.result.1 _ _ c.in-Ok.reader.form c.read_records.result.2 c.in-Ok.ensures.starts
    c.read_records.ensures.began

pub returns-in-Err-clause-capture : goal.returns-in-Err-clause-capture
returns-in-Err-clause-capture g c = classic_refused c.args.vips.now _ _ c.in-Err.fault c.in-Err.ensures.starts
