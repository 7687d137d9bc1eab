use Rattle.bm_world.proofs.Stops.{late_first, late_others}
use Rattle.bm_world.proofs.phase.is_late.Goals as goal
use Rattle.std.proofs.Common.{◌∙◌, sym}

pub returns-then-is_some : goal.returns-then-is_some
returns-then-is_some c =
    late_first c.args.led c.args.workers.now c.stop_of-first.result c.is_some.result c.stop_of-first.ensures
    (sym c.is_wanting.ensures ∙ c.if-is_wanting.false) (sym c.is_one_wanting.ensures ∙ c.if-is_one_wanting.false)
    c.if-is_some.true c.is_some.ensures

pub returns-else-is_some : goal.returns-else-is_some
returns-else-is_some c =
    late_others c.args.led c.args.workers.now c.stop_of-first.result c.is_some.result c.is_one_stopped.result
    c.stop_of-first.ensures
    (sym c.is_wanting.ensures ∙ c.if-is_wanting.false) (sym c.is_one_wanting.ensures ∙ c.if-is_one_wanting.false)
    c.if-is_some.false c.is_some.ensures c.is_one_stopped.ensures
