use Rattle.std.proofs.Common.{arith}
use Rattle.bm_publish.proofs.HistoryLemmas.{post_bound}
use Rattle.bm_publish.proofs.snapshot.Snapshot.clock.Goals as goal

pub returns-clause-bound : goal.returns-clause-bound
returns-clause-bound c = let b = post_bound _ c.self.invariant.1 in omega (arith, c.self.invariant.3, b)
