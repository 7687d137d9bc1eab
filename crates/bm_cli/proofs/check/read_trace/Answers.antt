use Rattle.std.proofs.Common.{arith}
use Rattle.bm_cli.proofs.Traces.{trace_long, trace_short}
use Rattle.bm_cli.proofs.check.read_trace.Goals as goal

pub returns-then-len-gt-LONGEST-clause-trace : goal.returns-then-len-gt-LONGEST-clause-trace
returns-then-len-gt-LONGEST-clause-trace g c =
    trace_long _ _ c.in_ok-trace.trace.items c.in_ok-trace.ensures.front
    (omega (arith, c.len.ensures, c.if-len-gt-LONGEST.true))

pub returns-clause-trace : goal.returns-clause-trace
returns-clause-trace g c =
    trace_short _ _ c.in_ok-trace.trace.items c.in_ok-trace.ensures.front
    (omega (arith, c.len.ensures, c.if-len-gt-LONGEST.false))
