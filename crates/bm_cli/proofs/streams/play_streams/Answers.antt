use Rattle.std.proofs.Common.{Err}
use Rattle.bm_words.specs.Form.{named}
use Rattle.bm_cli.specs.declared.mode.Mode.TheVariants.{Replay}
use Rattle.bm_cli.proofs.Stages.{stage_alone}
use Rattle.bm_cli.proofs.StreamsOfStages.{streams_end, streams_refused}
use Rattle.bm_cli.proofs.streams.play_streams.Goals as goal

pub returns-in-Ok-clause-ends : goal.returns-in-Ok-clause-ends
returns-in-Ok-clause-ends g c =
    streams_end (named c.args.names) _ _ _ c.in-Ok.named.stage c.in-Ok.named.packets c.show_streams.result c.in-Ok.ensures.capture
    c.show_streams.ensures

pub returns-in-Err-clause-ends : goal.returns-in-Err-clause-ends
returns-in-Err-clause-ends g c =
    streams_refused (named c.args.names) _ _ _ c.in-Err.fault c.refuse.result
    (stage_alone Replay (named c.args.names) _ _ (Err c.in-Err.fault) _ c.in-Err.ensures.stage)
    c.refuse.ensures
