use Rattle.bm_table.proofs.EntryLemmas.{carry_step, carry_end}
use Rattle.bm_table.proofs.table.carry_out.Goals as goal

pub loop-m-preserved : goal.loop-m-preserved
loop-m-preserved c = λ b.
    carry_step c.args.at.0 c.args.moves.now c.loop-m.m-index (record { bucket = 0; to = record { 0 = 0 } })
    c.loop-m-test.true b _ _ _ (c.carry.ensures b) (c.loop-m.invariant b)

pub returns : goal.returns
returns c =
    λ b. carry_end c.args.at.0 c.args.moves.now c.loop-m.m-index c.loop-m-test.false b _ _ (c.loop-m.invariant b)
