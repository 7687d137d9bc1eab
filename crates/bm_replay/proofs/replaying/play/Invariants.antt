use Rattle.std.proofs.Common.{◌≡◌, ◌-◌, true, length}
use Rattle.bm_fault.specs.Faults.{Gives}
use Rattle.bm_route.specs.Routes.{Answers}
use Rattle.bm_replay.specs.Inside.Playing.{IsPlaying}
use Rattle.bm_replay.proofs.replaying.play.Given as goal

abbrev pub invariant-loop-carrier : goal.invariant-loop-carrier
invariant-loop-carrier g l =
    (l.player.stage ≡ l.fn.player.stage) × (l.keeps_all ≡ true → l.player.packets ≡ l.fn.player.packets)
    × IsPlaying (Answers g.R.Fn l.route.rule) (Gives g.F.Fn l.faults.rule) l.player

abbrev pub decreases-loop-carrier : goal.decreases-loop-carrier
decreases-loop-carrier g l = 12259841 - length l.player.events
