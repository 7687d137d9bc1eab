use Rattle.bm_cli.proofs.Loads.{run_of}
use Rattle.bm_cli.proofs.load.line_of.Goals as goal

pub line_by-requires-clause-run : goal.line_by-requires-clause-run
line_by-requires-clause-run g c =
    run_of c.args.n c.in_ok-stage.stage c.in_ok-history.history c.in_ok-stage.ensures.stage
    c.in_ok-history.ensures.about c.in_ok-history.ensures.made
