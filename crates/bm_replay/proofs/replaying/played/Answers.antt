use Rattle.bm_fault.specs.Faults.{Gives}
use Rattle.bm_route.specs.Routes.{Answers}
use Rattle.bm_replay.proofs.BeginAndEnd.{begins}
use Rattle.bm_replay.proofs.replaying.played.Goals as goal

pub play-requires-clause-playing : goal.play-requires-clause-playing
play-requires-clause-playing g c =
    begins (Answers g.R.Fn c.args.route.now.rule) (Gives g.F.Fn c.args.faults.now.rule)
    c.args.stage c.in_ok-player.player c.requires.sound c.in_ok-player.ensures.new
