use Rattle.std.proofs.Common.{◌≡◌, ◌≢◌, Some, None, OnOk, IfErr, refl, subst}
use Rattle.bm_controller.proofs.Racked.{home_result, racked_result}
use Rattle.bm_controller.proofs.racks.RackController.add.Goals as goal
use Rattle.bm_controller.specs.Commands as commands
use Rattle.bm_controller.specs.Commands.Command.{AddServer}
use Rattle.bm_controller.specs.declared.refusal.RackRefusal.TheVariants.{Base}
use Rattle.bm_quota.specs.declared.refusal.Refusal.TheVariants.{Memory}

-- the engine's answer, at the rack that the policy names

pub returns-clause-ok : goal.returns-clause-ok
returns-clause-ok g c = λ p.
    subst (λ rack. OnOk c.add.result
    (c.add.new.self ≡ commands.after c.args.self.now.engine c.args.at (AddServer c.args.s c.args.weight rack)))
    (c.rack-rack.ensures.rack p) c.add.ensures.ok

pub returns-clause-accepted : goal.returns-clause-accepted
returns-clause-accepted g c = λ p.
    subst (λ rack. OnOk c.add.result
    (commands.refusal c.args.self.now.engine c.args.at (AddServer c.args.s c.args.weight rack) ≡ None))
    (c.rack-rack.ensures.rack p) c.add.ensures.accepted

pub returns-clause-refused : goal.returns-clause-refused
returns-clause-refused g c = λ p.
    subst (λ rack. IfErr c.add.result (λ refusal. refusal ≢ Base Memory
    → commands.refusal c.args.self.now.engine c.args.at (AddServer c.args.s c.args.weight rack) ≡ Some refusal))
    (c.rack-rack.ensures.rack p) c.add.ensures.refused

pub returns-clause-rebalanced : goal.returns-clause-rebalanced
returns-clause-rebalanced g c = λ p.
    subst (λ rack. OnOk c.add.result
    (commands.Rebalances c.args.self.now.engine c.args.at (AddServer c.args.s c.args.weight rack)))
    (c.rack-rack.ensures.rack p) c.add.ensures.rebalanced

pub returns-clause-racked : goal.returns-clause-racked
returns-clause-racked g c = λ p racked.
    racked_result p.rack c.args.self.now.engine c.add.new.self c.args.at
    (AddServer c.args.s c.args.weight (p.rack c.args.s)) c.add.result (returns-clause-ok g c p) c.add.ensures.err refl
    racked

pub returns-clause-home : goal.returns-clause-home
returns-clause-home g c = λ p racked.
    home_result p.rack c.args.self.now.engine c.add.new.self c.args.at
    (AddServer c.args.s c.args.weight (p.rack c.args.s)) c.add.result (returns-clause-ok g c p)
    (returns-clause-rebalanced g c p) refl racked
