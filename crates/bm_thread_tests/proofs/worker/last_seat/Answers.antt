use Rattle.bm_worker.proofs.SmallRuns.{got_before, last_got}
use Rattle.bm_thread_tests.proofs.worker.last_seat.Goals as goal

pub returns-in-Some-clause-new : goal.returns-in-Some-clause-new
returns-in-Some-clause-new c i seat at =
    c.requires.new i seat
    (got_before c.args.seats.now.items c.pop.new.self.items c.in-Some.seat seat i c.in-Some.ensures.items at)

pub returns-in-Some-clause-seat : goal.returns-in-Some-clause-seat
returns-in-Some-clause-seat c =
    c.requires.new c.args.number c.in-Some.seat
    (last_got c.args.seats.now.items c.pop.new.self.items c.in-Some.seat c.args.number c.in-Some.ensures.items
    c.requires.count)
