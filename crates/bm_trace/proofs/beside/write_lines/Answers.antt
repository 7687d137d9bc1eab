use Rattle.std.proofs.Common.{rules}
use Rattle.bm_trace.proofs.beside.write_lines.Goals as goal

pub write_line-requires-clause-cause : goal.write_line-requires-clause-cause
write_line-requires-clause-cause c = search rules
