use Rattle.std.proofs.Common.{arith}
use Rattle.std.proofs.lemmas.Grind.{common_steps}
use Rattle.bm_drawing.proofs.rows.write_connection.Goals as goal

pub returns : goal.returns
returns c = grind (arith, common_steps)
