use Rattle.std.proofs.Common.{◌∙◌}
use Rattle.bm_connections.proofs.Counting.{occurring}
use Rattle.bm_connections.proofs.summary.summary_of.Goals as goal

pub returns-clause-causes : goal.returns-clause-causes
returns-clause-causes c =
    c.of-2.ensures ∙ c.in_ok-occurring.ensures
    ∙ occurring c.args.h.now c.in_ok-counters.counters.packets c.args.table.now c.in_ok-counters.ensures.packets
    c.requires.table

pub returns-clause-servers : goal.returns-clause-servers
returns-clause-servers c =
    c.of-3.ensures ∙ c.in_ok-served.ensures _ c.in_ok-counters.ensures.loads c.in_ok-counters.ensures.held
