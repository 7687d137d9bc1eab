use Rattle.std.proofs.Common.{◌+◌, refl}
use Rattle.bm_drawing.specs.Drawing.{connection, connections}
use Rattle.bm_drawing.proofs.Rests.{rest_more}
use Rattle.bm_drawing.proofs.rows.write_connections.Goals as goal

pub loop-place-preserved : goal.loop-place-preserved
loop-place-preserved c = record {
  written = rest_more (connection c.args.plot) (λ place x. place + 1) (connections c.args.plot) (λ s x xs. refl)
      c.args.table.now c.loop-place.place _ c.loop-place.place _ _ _ c.loop-place-test.true
      c.in_ok-write_connection.ensures c.loop-place.invariant.written;
}
