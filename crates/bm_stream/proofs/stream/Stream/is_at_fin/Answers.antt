use Rattle.std.proofs.Common.{rules}
use Rattle.bm_stream.proofs.stream.Stream.is_at_fin.Goals as goal

pub returns-in-Some : goal.returns-in-Some
returns-in-Some c = search rules
