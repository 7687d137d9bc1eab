use Rattle.std.proofs.Common.{◌≡◌, ◌≢◌, Some, None, length, subst}
use Rattle.bm_controller.proofs.OneRack.{only-base, refused-one}
use Rattle.bm_controller.proofs.controller.Controller.shift.Goals as goal
use Rattle.bm_controller.specs.Commands as commands
use Rattle.bm_controller.specs.Commands.Command.{MoveBucket}
use Rattle.bm_controller.specs.Controlled.{Controlled}
use Rattle.bm_controller.specs.declared.refusal.RackRefusal.TheVariants.{Base}
use Rattle.bm_quota.specs.declared.refusal.Refusal.TheVariants.{Memory}

pub base_of-requires : goal.base_of-requires
base_of-requires c =
    only-base c.self.inside.engine c.args.at (MoveBucket c.args.bucket c.args.s)
    (length (commands.change_of c.self.inside.engine c.args.at (MoveBucket c.args.bucket c.args.s)).moves) c.in-Err.refusal
    c.self.invariant.one c.racks.ensures.members c.in-Err.ensures.refused

pub returns-in-Err-clause-refused : goal.returns-in-Err-clause-refused
returns-in-Err-clause-refused c =
    subst (λ (x : Controlled). c.base_of.result ≢ Memory
    → commands.refusal x c.args.at (MoveBucket c.args.bucket c.args.s) ≡ Some (Base c.base_of.result)) c.self.view_is
    (refused-one c.in-Err.refusal c.base_of.result
    (commands.refusal c.self.inside.engine c.args.at (MoveBucket c.args.bucket c.args.s)) c.base_of.ensures
    c.in-Err.ensures.refused)

pub returns-clause-ok : goal.returns-clause-ok
returns-clause-ok c =
    subst (λ (x : Controlled). c.shift.new.self ≡ commands.after x c.args.at (MoveBucket c.args.bucket c.args.s)) c.self.view_is
    c.in-Ok.ensures.ok

pub returns-clause-accepted : goal.returns-clause-accepted
returns-clause-accepted c =
    subst (λ (x : Controlled). commands.refusal x c.args.at (MoveBucket c.args.bucket c.args.s) ≡ None) c.self.view_is
    c.in-Ok.ensures.accepted
