use Rattle.std.proofs.Common.{◌≡◌, ◌+◌, ◌-◌, ◌*◌, ◌≤◌, List, length, Some}
use Rattle.bm_fault.specs.Faults.{Gives}
use Rattle.bm_merge.specs.Notes.{Note}
use Rattle.bm_publish.specs.Posts.{Posted}
use Rattle.bm_mux.specs.Muxes.{IsSameMux}
use Rattle.bm_worker.specs.Inside.Batches.{IsDoneTo}
use Rattle.bm_worker.specs.WorkerNotes.{IsSameCaller}
use Rattle.bm_worker.specs.Phases.{task_of}
use Rattle.bm_worker.proofs.worker.MuxWorker.carry_phase.Given as goal

abbrev pub invariant-loop-next : goal.invariant-loop-next
invariant-loop-next g l = record {
  from : l.span.from ≤ l.next;
  until : l.next ≤ l.span.until;
  mux : IsSameMux l.fn.self.mux l.self.mux;
  caller : IsSameCaller l.fn.self.caller l.self.caller;
  tries : l.self.caller.tries ≤ l.fn.self.caller.tries + 39 * (l.next - l.span.from);
  steps : l.self.steps ≤ l.fn.self.steps + (l.next - l.span.from);
  log : length l.self.mux.log ≤ length l.fn.self.mux.log + 11 * (l.next - l.span.from) + 1;
  done : (posted : Posted) → l.fn.self.posted ≡ Some posted → (d : List Note)
      × IsDoneTo (Gives g.F.Fn l.shared.rule) l.shared.stage l.shared.servers
      (task_of l.shared.routes l.span posted l.fn.self) l.self l.next d;
}

abbrev pub decreases-loop-next : goal.decreases-loop-next
decreases-loop-next g l = l.span.until - l.next
