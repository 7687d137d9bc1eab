use Rattle.std.proofs.Common.{Ok, Err}
use Rattle.bm_cli.proofs.NamedScripts.{named_read}
use Rattle.bm_cli.proofs.script.read_named_script.Goals as goal

pub returns-in-Ok-clause-script : goal.returns-in-Ok-clause-script
returns-in-Ok-clause-script g c =
    let read = c.in-Ok.ensures in
    named_read _ _ _ _ (Ok c.in-Ok.read.script) read.script read.asked read.all read.cause read.kept

pub returns-in-Err-clause-script : goal.returns-in-Err-clause-script
returns-in-Err-clause-script g c =
    let read = c.in-Err.ensures in
    named_read _ _ _ _ (Err c.in-Err.fault) read.script read.asked read.all read.cause read.kept
