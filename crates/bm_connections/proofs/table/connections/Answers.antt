use Rattle.std.proofs.Common.{reverse, subst, List, []}
use Rattle.bm_base.specs.declared.capture.Record.{Record}
use Rattle.bm_connections.specs.Inside.Rows.{AreRows}
use Rattle.bm_connections.proofs.table.connections.Goals as goal

pub observe_events-requires-clause-rows : goal.observe_events-requires-clause-rows
observe_events-requires-clause-rows c =
    subst (λ (xs : List Record). AreRows c.args.h.now.stage (reverse xs) [] c.in_ok-rows.rows) c.items.ensures
    (c.in_ok-rows.ensures c.args.h.now.stage)
