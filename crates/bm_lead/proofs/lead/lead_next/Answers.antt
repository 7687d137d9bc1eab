use Rattle.std.proofs.Common.{List, get_or, sym, ap, ◌∙◌, Some}
use Rattle.std.proofs.lemmas.Option.{slice_get-get_or}
use Rattle.bm_core.specs.declared.events.Stage.{Stage}
use Rattle.bm_table.specs.declared.script.Command.{Command}
use Rattle.bm_table.specs.declared.script.Command.TheVariants.{Change}
use Rattle.bm_lead.proofs.Going.{led_command, led_none}
use Rattle.bm_lead.proofs.Stopping.{unless_late}
use Rattle.bm_lead.proofs.lead.lead_next.Goals as goal

pub returns-in_err-carry_out-clause-led : goal.returns-in_err-carry_out-clause-led
returns-in_err-carry_out-clause-led g c =
    unless_late c.from_residual.result c.in_err-carry_out.field-0.0 _ _ c.from_residual.ensures.1
    c.in_err-carry_out.ensures.late
    (λ late. rw (late.0, late.1)
    (led_none c.args.shared.now.stage c.args.shared.now.servers c.args.poster.now c.args.leader.now c.requires.ready))

pub returns-clause-led : goal.returns-clause-led
returns-clause-led g c =
    let commands = c.args.shared.now.stage.script.commands in
    let i = c.args.leader.now.next in
    let none = Change (record { 0 = 0 }) in
    led_command c.args.shared.now.stage c.args.shared.now.servers c.args.poster.now c.carry_out.new.poster c.args.leader.now
    c.carry_out.new.leader
    (get_or c.items-commands.result.now i none) c.stage.ensures.set_up.sound c.stage.ensures.set_up.servers_are c.requires.ready
    (slice_get-get_or commands i none c.requires.there
    ∙ ap (λ (l : List Command). Some (get_or l i none))
    (sym (c.items-commands.ensures ∙ ap (λ (s : Stage). s.script.commands) c.stage.ensures.value)))
    c.requires.no_sync c.in_ok-carry_out.ensures.ok
