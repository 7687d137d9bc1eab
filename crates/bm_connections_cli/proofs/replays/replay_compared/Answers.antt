use Rattle.std.proofs.Common.{sym, ◌∙◌}
use Rattle.bm_connections_cli.proofs.Replaying.{none_of}
use Rattle.bm_connections_cli.proofs.replays.replay_compared.Goals as goal

pub replay_unchanged-requires-clause-unchanged : goal.replay_unchanged-requires-clause-unchanged
replay_unchanged-requires-clause-unchanged g c κs within =
    none_of c.args.stage.script.plan.changes (sym c.versions.ensures.count ∙ c.if-versions-eq0.true)
