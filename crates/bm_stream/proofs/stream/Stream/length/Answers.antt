use Rattle.std.proofs.Common.{sym, ◌∙◌}
use Rattle.bm_stream.proofs.Lengths.{length_stream}
use Rattle.bm_stream.proofs.stream.Stream.length.Goals as goal

pub returns : goal.returns
returns c pieces taken = taken.length ∙ sym (length_stream pieces)
