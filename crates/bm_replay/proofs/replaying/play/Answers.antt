use Rattle.std.proofs.Common.{rules, ◌≡◌, Bool, length, ap, subst, arith}
use Rattle.bm_fault.specs.Faults.{Gives}
use Rattle.bm_route.specs.Routes.{Answers}
use Rattle.bm_replay.specs.declared.player.Player.{Player}
use Rattle.bm_replay.specs.Inside.Playing.{HasPlayed, HasStepped}
use Rattle.bm_replay.proofs.BeginAndEnd.{few_events}
use Rattle.bm_replay.proofs.replaying.play.Goals as goal

pub loop-carrier-smaller : goal.loop-carrier-smaller
loop-carrier-smaller g c =
    let more : HasPlayed (Answers g.R.Fn c.args.route.now.rule) (Gives g.F.Fn c.args.faults.now.rule)
    c.loop-carrier.player c.step.new.self =
    subst (λ (b : Bool). HasStepped (Answers g.R.Fn c.args.route.now.rule) (Gives g.F.Fn c.args.faults.now.rule)
    c.loop-carrier.player c.step.new.self b) c.if-branch.true c.in_ok-step.ensures
    in let one = more.one_more
    in let same : length c.let_go.new.self.events ≡ length c.step.new.self.events =
    ap (λ (p : Player). length p.events) c.let_go.ensures.is
    in let few =
    few_events (Answers g.R.Fn c.args.route.now.rule) (Gives g.F.Fn c.args.faults.now.rule) c.step.new.self more.playing
    in omega arith

pub loop-carrier-preserved : goal.loop-carrier-preserved
loop-carrier-preserved g c = search rules

pub loop-carrier-smaller-then-keeps_all : goal.loop-carrier-smaller-then-keeps_all
loop-carrier-smaller-then-keeps_all g c =
    let more : HasPlayed (Answers g.R.Fn c.args.route.now.rule) (Gives g.F.Fn c.args.faults.now.rule)
    c.loop-carrier.player c.step.new.self =
    subst (λ (b : Bool). HasStepped (Answers g.R.Fn c.args.route.now.rule) (Gives g.F.Fn c.args.faults.now.rule)
    c.loop-carrier.player c.step.new.self b) c.if-branch.true c.in_ok-step.ensures
    in let one = more.one_more
    in let few =
    few_events (Answers g.R.Fn c.args.route.now.rule) (Gives g.F.Fn c.args.faults.now.rule) c.step.new.self more.playing
    in omega arith
