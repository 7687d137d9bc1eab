use Rattle.std.proofs.Common.{◌∙◌, ap, sym}
use Rattle.bm_world.specs.Inside.Logged.{source_logs}
use Rattle.bm_world.proofs.Rising.{books_cut}
use Rattle.bm_world.proofs.run_logs.Source.split_off.Goals as goal

pub returns-in_ok-split_off-in-Servers-clause-logs : goal.returns-in_ok-split_off-in-Servers-clause-logs
returns-in_ok-split_off-in-Servers-clause-logs c =
    books_cut c.in-Servers.all.items c.split_off-in-Servers.new.self.items c.in_ok-split_off-in-Servers.field-0.items
    c.args.size c.in_ok-split_off-in-Servers.ensures.items c.in_ok-split_off-in-Servers.ensures.tail
    ∙ ap source_logs (sym c.in-Servers.is)
