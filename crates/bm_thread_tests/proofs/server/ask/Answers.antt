use Rattle.std.proofs.Common.{◌∙◌}
use Rattle.bm_server.proofs.Turns.{row_tables}
use Rattle.bm_thread_tests.proofs.server.ask.Goals as goal

pub handle-arrived-requires-clause-mine : goal.handle-arrived-requires-clause-mine
handle-arrived-requires-clause-mine g c = row_tables c.args.seat.now c.args.server.now 0 c.requires.who

pub close_flow-closed-requires-clause-mine : goal.close_flow-closed-requires-clause-mine
close_flow-closed-requires-clause-mine g c =
    row_tables c.handle-arrived.new.seat c.args.server.now 0 (c.handle-arrived.ensures.who ∙ c.requires.who)

pub retire-retired-requires-clause-mine : goal.retire-retired-requires-clause-mine
retire-retired-requires-clause-mine g c =
    row_tables c.close_flow-closed.new.seat c.args.server.now 0
    (c.close_flow-closed.ensures.who ∙ (c.handle-arrived.ensures.who ∙ c.requires.who))
