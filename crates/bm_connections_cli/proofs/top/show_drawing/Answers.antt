use Rattle.bm_cli.specs.Dues.{Shown}
use Rattle.bm_cli.proofs.Telling.{tells_nothing}
use Rattle.bm_connections_cli.specs.Headline.{IsDrawingOf}
use Rattle.bm_connections_cli.specs.Inside.Ends.{no_lines}
use Rattle.bm_connections_cli.proofs.Outcomes.{tells_drawing}
use Rattle.bm_connections_cli.proofs.top.show_drawing.Goals as goal

pub returns-in-Ok : goal.returns-in-Ok
returns-in-Ok g c =
    tells_drawing c.args.clock.0 c.args.stage c.in-Ok.history _ _
    (c.in-Ok.ensures.about, c.in-Ok.ensures.made) c.tell_drawing.ensures

pub returns-in-Err : goal.returns-in-Err
returns-in-Err g c = tells_nothing no_lines (Shown (IsDrawingOf c.args.clock.0 c.args.stage)) _ _
