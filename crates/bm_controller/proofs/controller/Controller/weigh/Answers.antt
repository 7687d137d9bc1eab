use Rattle.std.proofs.Common.{◌≡◌, ◌≢◌, Some, None, length, subst}
use Rattle.bm_controller.proofs.OneRack.{change-one, only-base, refused-one}
use Rattle.bm_controller.proofs.RackFacts.{all-reweighed}
use Rattle.bm_controller.proofs.controller.Controller.weigh.Goals as goal
use Rattle.bm_controller.specs.Commands as commands
use Rattle.bm_controller.specs.Commands.Command.{WeighServer}
use Rattle.bm_controller.specs.Controlled.{Controlled}
use Rattle.bm_controller.specs.declared.refusal.RackRefusal.TheVariants.{Base}
use Rattle.bm_quota.specs.declared.refusal.Refusal.TheVariants.{Memory}
use Rattle.bm_controller.specs.Inside.Kinds.{HasRack}
use Rattle.bm_table.specs.declared.plan.Kind.TheVariants.{Shift}

pub base_of-requires : goal.base_of-requires
base_of-requires c =
    only-base c.self.inside.engine c.args.at (WeighServer c.args.s c.args.weight)
    (length (commands.change_of c.self.inside.engine c.args.at (WeighServer c.args.s c.args.weight)).moves) c.in-Err.refusal
    c.self.invariant.one c.racks.ensures.members c.in-Err.ensures.refused

pub returns-in-Err-clause-refused : goal.returns-in-Err-clause-refused
returns-in-Err-clause-refused c =
    subst (λ (x : Controlled). c.base_of.result ≢ Memory
    → commands.refusal x c.args.at (WeighServer c.args.s c.args.weight) ≡ Some (Base c.base_of.result)) c.self.view_is
    (refused-one c.in-Err.refusal c.base_of.result
    (commands.refusal c.self.inside.engine c.args.at (WeighServer c.args.s c.args.weight)) c.base_of.ensures
    c.in-Err.ensures.refused)

pub returns-clause-ok : goal.returns-clause-ok
returns-clause-ok c =
    subst (λ (x : Controlled). c.weigh.new.self ≡ commands.after x c.args.at (WeighServer c.args.s c.args.weight)) c.self.view_is
    c.in-Ok.ensures.ok

pub returns-clause-accepted : goal.returns-clause-accepted
returns-clause-accepted c =
    subst (λ (x : Controlled). commands.refusal x c.args.at (WeighServer c.args.s c.args.weight) ≡ None) c.self.view_is
    c.in-Ok.ensures.accepted

pub returns-clause-change : goal.returns-clause-change
returns-clause-change c =
    subst (λ (x : Controlled). commands.change_of x c.args.at (WeighServer c.args.s c.args.weight)
    ≡ commands.change_of_all x.plan c.args.at Shift (commands.members_after (WeighServer c.args.s c.args.weight) x.members))
    c.self.view_is
    (change-one c.self.inside.engine.plan c.self.inside.engine.racks c.args.at Shift
    (commands.members_after (WeighServer c.args.s c.args.weight) c.self.inside.engine.members) c.self.invariant.one
    (all-reweighed (HasRack c.self.inside.engine.racks) c.args.s c.args.weight (λ m below. below)
    c.self.inside.engine.members c.racks.ensures.members))

pub returns-clause-rebalanced : goal.returns-clause-rebalanced
returns-clause-rebalanced c =
    subst (λ (x : Controlled). commands.Rebalances x c.args.at (WeighServer c.args.s c.args.weight)) c.self.view_is c.in-Ok.ensures.rebalanced
