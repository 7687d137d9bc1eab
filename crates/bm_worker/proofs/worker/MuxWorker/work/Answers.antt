use Rattle.std.proofs.Common.{refl, sym, ◌∙◌}
use Rattle.bm_fault.specs.Faults.{Gives}
use Rattle.bm_worker.proofs.Working.{has_worked, not_some}
use Rattle.bm_worker.proofs.worker.MuxWorker.work.Goals as goal

pub returns : goal.returns
returns g c =
    has_worked (Gives g.F.Fn c.args.shared.now.rule) c.args.shared.now.stage
    c.args.shared.now.servers c.args.shared.now.routes c.args.span c.args.self.now c.carry_phase.new.self
    (record c.carry_phase.new.self { stop = c.err-self.result }) c.carry_phase.result
    (not_some c.args.self.now.stop (sym c.is_some.ensures ∙ c.if-is_some.false)) c.err-self.ensures.value refl refl refl
    c.carry_phase.ensures.grown c.carry_phase.ensures.ended
