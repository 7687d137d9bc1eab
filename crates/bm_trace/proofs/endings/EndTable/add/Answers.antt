use Rattle.std.proofs.Common.{arith}
use Rattle.bm_trace.specs.Inside.EndTables.{ends_at}
use Rattle.bm_trace.proofs.Spacing.{end_added}
use Rattle.bm_trace.proofs.endings.EndTable.add.Goals as goal

pub returns-in_ok-push-clause-added : goal.returns-in_ok-push-clause-added
returns-in_ok-push-clause-added c = λ k below.
    end_added (ends_at c.args.self.now) (ends_at c.push.new.self) c.args.ending.packet c.args.ending.end
    (omega arith) c.in_ok-push.ensures.here c.in_ok-push.ensures.apart k
