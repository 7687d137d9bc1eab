use Rattle.std.proofs.Common.{◌+◌, ◌*◌}
use Rattle.bm_core.specs.Inside.Weights.{hop_weight}
use Rattle.bm_fault.specs.Faults.{Gives}
use Rattle.bm_worker.specs.Inside.Pending.{HasCarried, HasSent, copy_lost, pending}
use Rattle.bm_worker.proofs.worker.MuxWorker.+sending.Given as goal

abbrev pub invariant-send-loop : goal.invariant-send-loop
invariant-send-loop g l = record {
  sent : HasSent (copy_lost l.fn.sending.hop * l.counter) (hop_weight l.fn.sending.hop * l.counter) l.fn.self l.self;
  carried : HasCarried (Gives g.F.Fn l.shared.rule) l.shared.stage l.shared.servers
      (pending l.fn.sending.packet l.fn.sending.hop l.fn.sending.clock.0 l.fn.sending.fate) l.counter
      (hop_weight l.fn.sending.hop * l.counter) l.fn.self l.self;
}

abbrev pub decreases-send : goal.decreases-send
decreases-send g l = 3 * hop_weight l.sending.now.hop + 2

abbrev pub decreases-carry_copy : goal.decreases-carry_copy
decreases-carry_copy g l = 3 * hop_weight l.sending.now.hop + 1

abbrev pub decreases-forward : goal.decreases-forward
decreases-forward g l = 3 * hop_weight l.sending.now.hop
