use Rattle.std.proofs.Common.{◌<◌, length, arith, rules, string_bytes}
use Rattle.bm_trace.proofs.Spacing.{wrote_more}
use Rattle.bm_trace.proofs.records.write_later.Goals as goal

pub loop-end-preserved : goal.loop-end-preserved
loop-end-preserved c =
    let below : c.loop-end.end-index < length c.args.ends.now = omega arith
    in wrote_more (string_bytes c.args.line.now) _ _ c.args.ends.now c.loop-end.end-index _ below (search rules)
    c.loop-end.invariant c.in_ok-write_end.ensures
