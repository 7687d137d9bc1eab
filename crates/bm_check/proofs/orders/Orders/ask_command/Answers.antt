use Rattle.bm_check.proofs.orders.Orders.ask_command.Goals as goal

pub returns-in-Retire : goal.returns-in-Retire
returns-in-Retire c f low opens = rw c.in-Retire.is (c.ask_shards.ensures f low opens)
