use Rattle.std.proofs.Common.{◌∙◌, ◌≤◌, List, length, sym, ap, subst}
use Rattle.std.specs.Prelude.{slice_get}
use Rattle.bm_base.specs.declared.capture.Record.{Record}
use Rattle.bm_table.specs.declared.script.Command.{Command}
use Rattle.bm_lead.specs.Leaders.{IsSyncCommand}
use Rattle.bm_world.proofs.Numbers.{end_of, no_command, numbers_before, numbers_last, numbers_next}
use Rattle.bm_world.proofs.phase.records_end.Goals as goal

pub returns-in-Some-clause-numbers : goal.returns-in-Some-clause-numbers
returns-in-Some-clause-numbers c = λ next p k phase at low high.
    let stage = c.args.stage.now in
    let end = c.record_place.ensures in
    numbers_before stage next c.args.place p c.args.from c.record_place.result k c.in-Some.at c.requires.sound
    (ap (λ (l : List Command). slice_get l c.args.place) (sym c.items.ensures) ∙ c.in-Some.ensures.some)
    (end_of stage c.items-records.result.now c.args.from c.record_place.result c.in-Some.at.0 c.items-records.ensures
    end.order.0 end.order.1 end.earlier end.later) phase at low high

pub returns-in-Some-clause-next : goal.returns-in-Some-clause-next
returns-in-Some-clause-next c = λ next p phase at there.
    let stage = c.args.stage.now in
    let end = c.record_place.ensures in
    numbers_next stage next c.args.place p c.args.from c.record_place.result c.in-Some.at c.requires.sound
    (ap (λ (l : List Command). slice_get l c.args.place) (sym c.items.ensures) ∙ c.in-Some.ensures.some)
    (end_of stage c.items-records.result.now c.args.from c.record_place.result c.in-Some.at.0 c.items-records.ensures
    end.order.0 end.order.1 end.earlier end.later) phase at

pub returns-in-None-clause-numbers : goal.returns-in-None-clause-numbers
returns-in-None-clause-numbers c = λ next p k phase at low high.
    let stage = c.args.stage.now in
    numbers_last stage next c.args.place p c.args.from k
    (no_command stage.script.commands c.args.place c.requires.sync
    (subst (λ (l : List Command). IsSyncCommand (slice_get l c.args.place) → ⊥) c.items.ensures c.in-None.ensures.none))
    phase at low (subst (λ (l : List Record). k ≤ length l) c.items-records.ensures high)
