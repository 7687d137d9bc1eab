use Rattle.bm_cli.proofs.Began.{pcapng_began_in}
use Rattle.bm_cli.proofs.Readings.{pcapng_refused}
use Rattle.bm_cli.proofs.pcapng.read_pcapng.Goals as goal

pub returns-in-Ok-clause-began : goal.returns-in-Ok-clause-began
returns-in-Ok-clause-began g c =
    pcapng_began_in c.read_blocks.result.1 _ _ c.in-Ok.reader.order c.read_blocks.result.2 c.in-Ok.ensures.starts.0
    c.in-Ok.ensures.starts.1 c.read_blocks.ensures.began

pub returns-in-Err-clause-capture : goal.returns-in-Err-clause-capture
returns-in-Err-clause-capture g c = pcapng_refused c.args.vips.now _ c.in-Err.fault c.in-Err.ensures.starts
