use Rattle.std.proofs.Common.{◌∙◌, append_assoc}
use Rattle.bm_load.proofs.line.summary.Goals as goal

pub returns : goal.returns
returns c = c.in_ok-line.ensures.ok ∙ simp append_assoc
