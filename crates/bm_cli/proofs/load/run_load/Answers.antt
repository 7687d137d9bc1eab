use Rattle.std.proofs.Common.{refl, subst, sym}
use Rattle.bm_cli.specs.Lines.{beamer_lines}
use Rattle.bm_cli.specs.declared.status.Status.TheVariants.{Done}
use Rattle.bm_cli.specs.Dues.{Shown}
use Rattle.bm_cli.specs.Loads.{IsSummaryOf}
use Rattle.bm_cli.proofs.Telling.{tells_due, tells_nothing}
use Rattle.bm_cli.proofs.load.run_load.Goals as goal

pub returns-in-Ok : goal.returns-in-Ok
returns-in-Ok g c =
    tells_due beamer_lines (Shown (IsSummaryOf c.args.n)) Done c.as_bytes.result.now _ _
    (refl, subst (IsSummaryOf c.args.n) (sym c.as_bytes.ensures.value) c.in-Ok.ensures) c.say.ensures

pub returns-in-Err : goal.returns-in-Err
returns-in-Err g c = tells_nothing beamer_lines (Shown (IsSummaryOf c.args.n)) _ _
