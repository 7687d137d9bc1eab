use Rattle.std.proofs.Common.{◌≤◌, ◌+◌, arith, length}
use Rattle.bm_board_bench.proofs.Lengths.{batch_length}
use Rattle.bm_board_bench.proofs.batches.steer.Goals as goal

pub loop-preserved : goal.loop-preserved
loop-preserved c =
    let before = c.loop.invariant in
    let few = c.requires.few in
    let more = batch_length _ _ _ _ _ _ _ c.in_ok-batch.ensures.ok.batch in
    omega arith
