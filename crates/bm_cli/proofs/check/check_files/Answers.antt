use Rattle.std.proofs.Common.{Ok, Err, subst}
use Rattle.bm_cli.specs.Lines.{beamer_lines}
use Rattle.bm_cli.specs.Checks.{IsCheckOf}
use Rattle.bm_cli.specs.Dues.{Judged}
use Rattle.bm_cli.specs.Statuses.{did}
use Rattle.bm_cli.specs.Telling.{Tells}
use Rattle.bm_cli.proofs.Traces.{check_ends}
use Rattle.bm_cli.proofs.check.check_files.Goals as goal

pub returns-in-Ok-clause-ends : goal.returns-in-Ok-clause-ends
returns-in-Ok-clause-ends g c =
    let stage = c.in-Ok.stage in
    let sink = did g.K.Sink.written g.K.Sink.faults c.args.out.now c.show_check.new.out in
    check_ends c.args.trace.now c.args.capture.now c.args.script.now _ _ _ (Ok (stage, c.in-Ok.trace.items))
    c.show_check.result c.in-Ok.ensures.read
    (subst (λ trace. Tells beamer_lines (Judged (IsCheckOf stage trace)) sink c.show_check.result) c.deref.ensures.value
    c.show_check.ensures)

pub returns-in-Err-clause-ends : goal.returns-in-Err-clause-ends
returns-in-Err-clause-ends g c =
    check_ends c.args.trace.now c.args.capture.now c.args.script.now _ _ _ (Err c.in-Err.fault) c.refuse.result
    c.in-Err.ensures.read c.refuse.ensures
