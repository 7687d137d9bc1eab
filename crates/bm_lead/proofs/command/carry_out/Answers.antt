use Rattle.std.proofs.Common.{◌+◌, Some, sym, ap, ◌∙◌, subst, arith, drop, length, OnOk}
use Rattle.bm_table.specs.declared.script.Command.{Command}
use Rattle.bm_table.specs.declared.script.Command.TheVariants.{Close, Retire}
use Rattle.bm_lead.specs.Inside.Steps.{CarriesOut}
use Rattle.bm_lead.proofs.Scripted.{command_early, command_known, fewer_published, next_version}
use Rattle.bm_lead.proofs.command.carry_out.Goals as goal

pub publish-requires-clause-version : goal.publish-requires-clause-version
publish-requires-clause-version g c =
    (next_version c.args.leader.now.published.0 (length c.args.shared.now.stage.script.plan.changes) c.args.leader.now.next
    c.args.shared.now.stage.script.commands c.in-Change.version (c.requires.command ∙ ap Some c.in-Change.is)
    c.requires.ready.versions).0

pub publish-requires-clause-there : goal.publish-requires-clause-there
publish-requires-clause-there g c =
    (next_version c.args.leader.now.published.0 (length c.args.shared.now.stage.script.plan.changes) c.args.leader.now.next
    c.args.shared.now.stage.script.commands c.in-Change.version (c.requires.command ∙ ap Some c.in-Change.is)
    c.requires.ready.versions).1

pub close-requires-clause-at : goal.close-requires-clause-at
close-requires-clause-at g c =
    let h = command_early c.args.shared.now.stage c.args.leader.now.next (Close c.in-Close.at c.in-Close.server c.in-Close.flow)
    c.requires.sound (c.requires.command ∙ ap Some c.in-Close.is) in omega arith

pub close-requires-clause-known : goal.close-requires-clause-known
close-requires-clause-known g c =
    command_known c.args.shared.now.stage c.args.leader.now.next (Close c.in-Close.at c.in-Close.server c.in-Close.flow)
    c.requires.sound (c.requires.command ∙ ap Some c.in-Close.is)

pub retire-requires-clause-at : goal.retire-requires-clause-at
retire-requires-clause-at g c =
    let h = command_early c.args.shared.now.stage c.args.leader.now.next (Retire c.in-Retire.at c.in-Retire.server)
    c.requires.sound (c.requires.command ∙ ap Some c.in-Retire.is) in omega arith

pub retire-requires-clause-known : goal.retire-requires-clause-known
retire-requires-clause-known g c =
    command_known c.args.shared.now.stage c.args.leader.now.next (Retire c.in-Retire.at c.in-Retire.server)
    c.requires.sound (c.requires.command ∙ ap Some c.in-Retire.is)

pub retire-requires-clause-published : goal.retire-requires-clause-published
retire-requires-clause-published g c =
    let h = fewer_published (c.args.leader.now.published.0 + 1) (length c.args.shared.now.stage.script.plan.changes)
    (drop c.args.leader.now.next c.args.shared.now.stage.script.commands) c.requires.ready.versions in omega arith

pub returns-in-Close-clause-ok : goal.returns-in-Close-clause-ok
returns-in-Close-clause-ok g c =
    subst (λ (x : Command). OnOk c.close.result (CarriesOut c.args.shared.now.stage c.args.shared.now.servers c.args.poster.now
    c.args.poster.now c.args.leader.now c.close.new.leader x))
    (sym c.in-Close.is) (c.close.ensures.ok c.args.poster.now)

pub returns-in-Retire-clause-ok : goal.returns-in-Retire-clause-ok
returns-in-Retire-clause-ok g c =
    subst (λ (x : Command). OnOk c.retire.result (CarriesOut c.args.shared.now.stage c.args.shared.now.servers c.args.poster.now
    c.args.poster.now c.args.leader.now c.retire.new.leader x))
    (sym c.in-Retire.is) (c.retire.ensures.ok c.args.poster.now)
