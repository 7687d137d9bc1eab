use Rattle.bm_rows.proofs.Glued.{length_rows}
use Rattle.bm_turn_bench.proofs.worker.make_workers.Goals as goal

pub loop-2-preserved : goal.loop-2-preserved
loop-2-preserved c =
    length_rows _ c.add_column.new.rows.items c.loop-2.rows.items c.in_ok-chairs.chairs.items
    c.in_ok-add_column.ensures c.loop-2.invariant c.in_ok-chairs.ensures
