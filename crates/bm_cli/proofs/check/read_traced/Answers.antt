use Rattle.std.proofs.Common.{Err, Ok}
use Rattle.bm_cli.specs.declared.mode.Mode.TheVariants.{Replay}
use Rattle.bm_cli.specs.Inside.Traces.{both_named}
use Rattle.bm_cli.proofs.Stages.{stage_alone}
use Rattle.bm_cli.proofs.Traces.{trace_read, trace_through, trace_unread}
use Rattle.bm_cli.proofs.check.read_traced.Goals as goal

pub returns-in_err-named-clause-read : goal.returns-in_err-named-clause-read
returns-in_err-named-clause-read g c =
    let names = both_named c.args.capture.now c.args.script.now in
    let fault = c.in_err-named.field-0.0 in
    trace_through c.args.trace.now c.args.capture.now c.args.script.now _ _ (λ trace. trace.items) c.from_residual.result fault c.from_residual.ensures.1
    (trace_unread c.args.trace.now c.args.capture.now c.args.script.now _ _ fault
    (stage_alone Replay names _ _ (Err fault) _ c.in_err-named.ensures.stage))

pub returns-in_err-trace-clause-read : goal.returns-in_err-trace-clause-read
returns-in_err-trace-clause-read g c =
    let names = both_named c.args.capture.now c.args.script.now in
    let stage = c.in_ok-named.named.stage in
    let trace = c.in_err-trace in
    trace_through c.args.trace.now c.args.capture.now c.args.script.now _ _ (λ trace. trace.items) c.from_residual-in_err-trace.result trace.field-0.0 c.from_residual-in_err-trace.ensures.1
    (trace_read c.args.trace.now c.args.capture.now c.args.script.now _ _ _ _ _ _ _ stage (Err trace.field-0.0)
    (stage_alone Replay names _ _ (Ok stage) _ c.in_ok-named.ensures.stage) c.in_ok-named.ensures.all
    c.in_ok-named.ensures.open c.in_ok-named.ensures.octets
    trace.ensures.trace trace.ensures.asked trace.ensures.all trace.ensures.later trace.ensures.cause
    trace.ensures.kept)

pub returns-clause-read : goal.returns-clause-read
returns-clause-read g c =
    let names = both_named c.args.capture.now c.args.script.now in
    let stage = c.in_ok-named.named.stage in
    let trace = c.in_ok-trace in
    trace_read c.args.trace.now c.args.capture.now c.args.script.now _ _ _ _ _ _ _ stage (Ok trace.trace.items)
    (stage_alone Replay names _ _ (Ok stage) _ c.in_ok-named.ensures.stage) c.in_ok-named.ensures.all
    c.in_ok-named.ensures.open c.in_ok-named.ensures.octets
    trace.ensures.trace trace.ensures.asked trace.ensures.all trace.ensures.later trace.ensures.cause
    trace.ensures.kept
