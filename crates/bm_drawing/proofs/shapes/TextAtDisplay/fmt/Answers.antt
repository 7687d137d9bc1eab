use Rattle.std.proofs.Common.{rules, append_assoc}
use Rattle.bm_drawing.specs.Shapes.{text_at}
use Rattle.bm_drawing.proofs.shapes.TextAtDisplay.fmt.Goals as goal

pub returns-clause-writes : goal.returns-clause-writes
unfolding text_at
returns-clause-writes g c = simp append_assoc (search rules)
