use Rattle.bm_cli.proofs.Telling.{reported_yes}
use Rattle.bm_cli.proofs.checked.printed_is_yes.Goals as goal

pub returns : goal.returns
returns c = reported_yes c.args.mode c.args.stage.now
