use Rattle.bm_connections_cli.proofs.Replaying.{own_base, unchanged_are}
use Rattle.bm_connections_cli.proofs.replays.replay_unchanged.Goals as goal

pub returns : goal.returns
returns g c =
    unchanged_are c.args.stage c.in_ok-history.history c.in_ok-wholes.wholes.items
    (own_base c.args.stage c.requires.sound c.requires.unchanged) c.in_ok-history.ensures.about
    c.in_ok-history.ensures.made c.in_ok-wholes.ensures
