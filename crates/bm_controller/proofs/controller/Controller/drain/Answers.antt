use Rattle.std.proofs.Common.{◌≡◌, ◌≢◌, Some, None, length, subst}
use Rattle.bm_controller.proofs.OneRack.{change-one, only-base, refused-one}
use Rattle.bm_controller.proofs.RackFacts.{all-without}
use Rattle.bm_controller.proofs.controller.Controller.drain.Goals as goal
use Rattle.bm_controller.specs.Commands as commands
use Rattle.bm_controller.specs.Commands.Command.{DrainServer}
use Rattle.bm_controller.specs.Controlled.{Controlled}
use Rattle.bm_controller.specs.declared.refusal.RackRefusal.TheVariants.{Base}
use Rattle.bm_quota.specs.declared.refusal.Refusal.TheVariants.{Memory}
use Rattle.bm_controller.specs.Inside.Kinds.{HasRack}
use Rattle.bm_table.specs.declared.plan.Kind.TheVariants.{Drain}

pub base_of-requires : goal.base_of-requires
base_of-requires c =
    only-base c.self.inside.engine c.args.at (DrainServer c.args.s)
    (length (commands.change_of c.self.inside.engine c.args.at (DrainServer c.args.s)).moves) c.in-Err.refusal
    c.self.invariant.one c.racks.ensures.members c.in-Err.ensures.refused

pub returns-in-Err-clause-refused : goal.returns-in-Err-clause-refused
returns-in-Err-clause-refused c =
    subst (λ (x : Controlled). c.base_of.result ≢ Memory
    → commands.refusal x c.args.at (DrainServer c.args.s) ≡ Some (Base c.base_of.result)) c.self.view_is
    (refused-one c.in-Err.refusal c.base_of.result
    (commands.refusal c.self.inside.engine c.args.at (DrainServer c.args.s)) c.base_of.ensures
    c.in-Err.ensures.refused)

pub returns-clause-ok : goal.returns-clause-ok
returns-clause-ok c =
    subst (λ (x : Controlled). c.drain.new.self ≡ commands.after x c.args.at (DrainServer c.args.s)) c.self.view_is
    c.in-Ok.ensures.ok

pub returns-clause-accepted : goal.returns-clause-accepted
returns-clause-accepted c =
    subst (λ (x : Controlled). commands.refusal x c.args.at (DrainServer c.args.s) ≡ None) c.self.view_is
    c.in-Ok.ensures.accepted

pub returns-clause-change : goal.returns-clause-change
returns-clause-change c =
    subst (λ (x : Controlled). commands.change_of x c.args.at (DrainServer c.args.s)
    ≡ commands.change_of_all x.plan c.args.at (Drain c.args.s) (commands.members_after (DrainServer c.args.s) x.members))
    c.self.view_is
    (change-one c.self.inside.engine.plan c.self.inside.engine.racks c.args.at (Drain c.args.s)
    (commands.members_after (DrainServer c.args.s) c.self.inside.engine.members) c.self.invariant.one
    (all-without (HasRack c.self.inside.engine.racks) c.args.s c.self.inside.engine.members c.racks.ensures.members))

pub returns-clause-rebalanced : goal.returns-clause-rebalanced
returns-clause-rebalanced c =
    subst (λ (x : Controlled). commands.Rebalances x c.args.at (DrainServer c.args.s)) c.self.view_is c.in-Ok.ensures.rebalanced
