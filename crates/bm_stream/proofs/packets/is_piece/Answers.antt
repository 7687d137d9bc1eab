use Rattle.std.proofs.Common.{rules}
use Rattle.bm_stream.proofs.packets.is_piece.Goals as goal

pub returns-in-Advance : goal.returns-in-Advance
returns-in-Advance c = search rules
