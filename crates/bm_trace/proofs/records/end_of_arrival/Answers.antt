use Rattle.std.proofs.Common.{rules}
use Rattle.bm_trace.proofs.records.end_of_arrival.Goals as goal

pub returns-in-Forward : goal.returns-in-Forward
returns-in-Forward c = search rules

pub returns-in-Reset : goal.returns-in-Reset
returns-in-Reset c = search rules
