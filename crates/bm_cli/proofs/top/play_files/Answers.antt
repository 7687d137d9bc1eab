use Rattle.std.proofs.Common.{Ok, Err}
use Rattle.bm_words.specs.Form.{named}
use Rattle.bm_cli.proofs.Ending.{play_ends}
use Rattle.bm_cli.proofs.Stages.{stage_alone}
use Rattle.bm_cli.proofs.top.play_files.Goals as goal

pub returns-in-Ok-clause-ends : goal.returns-in-Ok-clause-ends
returns-in-Ok-clause-ends g c =
    play_ends c.args.mode (named c.args.names) _ _ _ (Ok c.in-Ok.named.stage) c.show.result
    (stage_alone c.args.mode (named c.args.names) _ _ (Ok c.in-Ok.named.stage)
    _ c.in-Ok.ensures.stage)
    c.show.ensures

pub returns-in-Err-clause-ends : goal.returns-in-Err-clause-ends
returns-in-Err-clause-ends g c =
    play_ends c.args.mode (named c.args.names) _ _ _ (Err c.in-Err.fault) c.refuse.result
    (stage_alone c.args.mode (named c.args.names) _ _ (Err c.in-Err.fault) _
    c.in-Err.ensures.stage)
    c.refuse.ensures
