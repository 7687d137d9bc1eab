use Rattle.bm_server.proofs.Turns.{row_tables}
use Rattle.bm_tests.proofs.forged.hand.Goals as goal

pub handle-requires-clause-mine : goal.handle-requires-clause-mine
handle-requires-clause-mine g c = row_tables c.args.seat.now c.args.server.now 0 c.requires.who
