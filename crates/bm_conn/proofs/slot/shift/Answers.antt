use Rattle.std.proofs.Common.{rules}
use Rattle.bm_conn.proofs.slot.shift.Goals as goal

pub returns-then-distance : goal.returns-then-distance
returns-then-distance c = search rules
