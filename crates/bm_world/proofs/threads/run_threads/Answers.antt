use Rattle.std.proofs.Common.{ℕ, refl, subst}
use Rattle.bm_core.specs.declared.events.History.{History}
use Rattle.bm_fault.specs.Faults.{Gives}
use Rattle.bm_route.specs.Routes.{Answers}
use Rattle.bm_world.specs.Inside.Routed.{AreGiven}
use Rattle.bm_world.proofs.Answered.{are_routed, routes_given, run_routed}
use Rattle.bm_world.proofs.threads.run_threads.Goals as goal

pub run_stage-requires-clause-routed : goal.run_stage-requires-clause-routed
run_stage-requires-clause-routed g c κs within =
    let R = Answers g.R.Fn c.args.route.now.rule in
    are_routed R c.args.stage c.in_ok-routes.routes.items
    (subst (λ (n : ℕ). AreGiven R c.args.stage n c.in_ok-routes.routes.items) c.requires.muxes c.in_ok-routes.ensures)

pub returns-clause-run : goal.returns-clause-run
returns-clause-run g c =
    let R = Answers g.R.Fn c.args.route.now.rule in
    let F = Gives g.F.Fn c.args.faults.now.rule in
    let routes = c.in_ok-routes.routes.items in
    let h : History = record { stage = c.args.stage; events = c.of.result } in
    run_routed R F routes h (routes_given R c.args.stage c.args.route.now.muxes routes c.in_ok-routes.ensures)
    (c.in_ok-events.ensures h refl c.of.ensures)
