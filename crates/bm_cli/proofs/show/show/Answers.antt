use Rattle.bm_cli.specs.Lines.{beamer_lines}
use Rattle.bm_cli.proofs.Telling.{tells_nothing, tells_report}
use Rattle.bm_cli.proofs.Wider.{is_run}
use Rattle.bm_cli.specs.Dues.{Shown}
use Rattle.bm_cli.specs.Headline.{IsReportOf}
use Rattle.bm_cli.proofs.show.show.Goals as goal

pub show_history-requires : goal.show_history-requires
show_history-requires g c =
    (c.type_bounds.sync-R, is_run c.args.mode c.args.stage c.in-Ok.history c.in-Ok.ensures.made)

pub returns-in-Ok : goal.returns-in-Ok
returns-in-Ok g c =
    tells_report c.args.mode c.args.stage c.in-Ok.history _ _ c.in-Ok.ensures.about c.in-Ok.ensures.made
    c.events_fit.ensures c.show_history.ensures

pub returns-in-Err : goal.returns-in-Err
returns-in-Err g c = tells_nothing beamer_lines (Shown (IsReportOf c.args.mode c.args.stage)) _ _
