use Rattle.bm_trace.proofs.Kept.{ends_told}
use Rattle.bm_trace.proofs.laws.ends_told.Goals as goal

pub returns : goal.returns
returns c = λ past k. ends_told past k
