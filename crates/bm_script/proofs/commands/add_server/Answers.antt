use Rattle.std.proofs.Common.{◌≡◌, ◌≢◌, ℕ, IfErr, None, OnOk, Some, subst}
use Rattle.bm_controller.specs.Commands.{after, refusal}
use Rattle.bm_controller.specs.Commands.Command.{AddServer}
use Rattle.bm_controller.specs.declared.refusal.RackRefusal.TheVariants.{Base}
use Rattle.bm_quota.specs.declared.refusal.Refusal.TheVariants.{Memory}
use Rattle.bm_script.proofs.Racked.{policy_of}
use Rattle.bm_table.specs.Settings.{rack_of}
use Rattle.bm_script.proofs.commands.add_server.Goals as goal

pub add-requires-clause-rule : goal.add-requires-clause-rule
add-requires-clause-rule g c =
    policy_of g.P.Fn c.args.controller.now.policy.rule c.args.controller.now.policy.racks c.requires.asks.rule

pub returns-clause-ok : goal.returns-clause-ok
unfolding policy_of
returns-clause-ok g c =
    subst (λ (racks : ℕ). OnOk c.add.result (c.add.new.self.engine
    ≡ after c.args.controller.now.engine c.args.at (AddServer c.args.server c.args.weight (rack_of racks c.args.server))))
    c.requires.asks.racks
    (c.add.ensures.ok (policy_of g.P.Fn c.args.controller.now.policy.rule c.args.controller.now.policy.racks
    c.requires.asks.rule))

pub returns-clause-accepted : goal.returns-clause-accepted
unfolding policy_of
returns-clause-accepted g c =
    subst (λ (racks : ℕ). OnOk c.add.result (refusal c.args.controller.now.engine c.args.at
    (AddServer c.args.server c.args.weight (rack_of racks c.args.server)) ≡ None))
    c.requires.asks.racks
    (c.add.ensures.accepted (policy_of g.P.Fn c.args.controller.now.policy.rule c.args.controller.now.policy.racks
    c.requires.asks.rule))

pub returns-clause-refused : goal.returns-clause-refused
unfolding policy_of
returns-clause-refused g c =
    subst (λ (racks : ℕ). IfErr c.add.result (λ r. r ≢ Base Memory → refusal c.args.controller.now.engine c.args.at
    (AddServer c.args.server c.args.weight (rack_of racks c.args.server)) ≡ Some r))
    c.requires.asks.racks
    (c.add.ensures.refused (policy_of g.P.Fn c.args.controller.now.policy.rule c.args.controller.now.policy.racks
    c.requires.asks.rule))
