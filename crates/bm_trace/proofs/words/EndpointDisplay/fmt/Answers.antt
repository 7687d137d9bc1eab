use Rattle.std.proofs.Common.{rules, append_assoc}
use Rattle.bm_trace.specs.Words.{endpoint}
use Rattle.bm_trace.proofs.words.EndpointDisplay.fmt.Goals as goal

pub returns-clause-writes : goal.returns-clause-writes
unfolding endpoint
returns-clause-writes g c = simp append_assoc (search rules)
