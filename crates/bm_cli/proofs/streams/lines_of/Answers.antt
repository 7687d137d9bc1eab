use Rattle.std.proofs.Common.{rules}
use Rattle.bm_cli.proofs.streams.lines_of.Goals as goal

pub returns : goal.returns
returns g c = record {
  history = c.in_ok-history.history;
  about = c.in_ok-history.ensures.about;
  made = c.in_ok-history.ensures.made;
  printed = search rules;
}
