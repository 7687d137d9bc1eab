use Rattle.std.proofs.Common.{◌∙◌, sym, subst}
use Rattle.bm_core.specs.Stages.{IsSound}
use Rattle.bm_connections_cli.proofs.Replaying.{packets_again, replays_are, stage_again}
use Rattle.bm_connections_cli.proofs.replays.replay_both.Goals as goal

pub replay_stage-requires-clause-sound : goal.replay_stage-requires-clause-sound
replay_stage-requires-clause-sound g c κs within =
    subst IsSound (sym (stage_again c.args.stage c.in_ok-base.base.stage c.with_changes-stage.result
    c.in_ok-parted.parted.plan c.in_ok-parted.parted.commands
    (c.in_ok-base.ensures.about ∙ c.in_ok-parted.ensures.base) c.in_ok-parted.ensures.plan
    c.in_ok-parted.ensures.commands c.with_changes-stage.ensures)) c.requires.sound

pub replay_stage-requires-clause-packets : goal.replay_stage-requires-clause-packets
replay_stage-requires-clause-packets g c κs within =
    packets_again c.args.stage c.with_changes-stage.result c.args.packets c.in_ok-base.packets
    (stage_again c.args.stage c.in_ok-base.base.stage c.with_changes-stage.result
    c.in_ok-parted.parted.plan c.in_ok-parted.parted.commands
    (c.in_ok-base.ensures.about ∙ c.in_ok-parted.ensures.base) c.in_ok-parted.ensures.plan
    c.in_ok-parted.ensures.commands c.with_changes-stage.ensures)
    c.in_ok-base.ensures.kept.0 c.requires.packets

pub returns : goal.returns
returns g c =
    replays_are c.args.stage c.in_ok-parted.parted.base c.with_changes-stage.result c.in_ok-base.base
    c.in_ok-history.history c.in_ok-wholes.wholes.items c.in_ok-parted.ensures.base c.in_ok-base.ensures.about
    c.in_ok-base.ensures.made c.in_ok-wholes.ensures
    (stage_again c.args.stage c.in_ok-base.base.stage c.with_changes-stage.result
    c.in_ok-parted.parted.plan c.in_ok-parted.parted.commands
    (c.in_ok-base.ensures.about ∙ c.in_ok-parted.ensures.base) c.in_ok-parted.ensures.plan
    c.in_ok-parted.ensures.commands c.with_changes-stage.ensures)
    c.in_ok-history.ensures.about c.in_ok-history.ensures.made
