use Rattle.std.proofs.Common.{arith, refl, rules}
use Rattle.bm_stream.specs.Pieces.{kept, stream}
use Rattle.bm_stream.proofs.Cells.{held_none}
use Rattle.bm_stream.proofs.stream.Stream.clear.Goals as goal

pub returns : goal.returns
unfolding kept stream
returns c = record {
  length = refl;
  fin = search rules;
  hash = c.fnv_1a-self.ensures;
  octets = λ q behind within. held_none _ _ _ c.base_after-self.ensures.below (omega arith);
}
