use Rattle.std.specs.Prelude.{All, take}
use Rattle.bm_core.specs.Accounts.{IsRouted}
use Rattle.bm_route.specs.Routes.{Answers}
use Rattle.bm_check.proofs.account.are_routed.Given as goal

abbrev pub invariant-loop-event : goal.invariant-loop-event
invariant-loop-event g l =
    All (λ e. IsRouted (Answers g.R.Fn l.route.rule) l.stage e.what) (take l.event-index l.events)
