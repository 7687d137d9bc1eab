use Rattle.std.proofs.Common.{string_bytes}
use Rattle.bm_trace.proofs.Spacing.{wrote_both}
use Rattle.bm_trace.proofs.records.write_ends.Goals as goal

pub returns : goal.returns
returns c =
    wrote_both (string_bytes c.args.line.now) _ _ c.args.first c.args.later.now c.in_ok-write_first.ensures
    c.in_ok-write_later.ensures
