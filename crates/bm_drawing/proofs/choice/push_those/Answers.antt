use Rattle.bm_drawing.specs.Drawing.{is_in}
use Rattle.bm_drawing.proofs.Lines.{filtered_more}
use Rattle.bm_drawing.proofs.choice.push_those.Goals as goal

pub loop-connection-preserved : goal.loop-connection-preserved
loop-connection-preserved c = record {
  collected = filtered_more (is_in c.args.changes.now c.args.part) c.args.table.now
      c.loop-connection.connection-index _ _ _ _ c.loop-connection-test.true c.in_ok-push_if_in.ensures
      c.loop-connection.invariant.collected;
}
