use Rattle.bm_cli.proofs.Loads.{summary_of}
use Rattle.bm_cli.proofs.load.line_by.Goals as goal

pub returns : goal.returns
returns c =
    summary_of c.args.n c.args.history.now c.totals_of.result _ c.requires.run c.loaded.ensures c.totals_of.ensures
    c.in_ok-line.ensures
