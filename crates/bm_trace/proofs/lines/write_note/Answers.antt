use Rattle.std.proofs.Common.{rules, append_assoc}
use Rattle.bm_trace.proofs.lines.write_note.Goals as goal

pub returns : goal.returns
returns c = simp append_assoc (search rules)
