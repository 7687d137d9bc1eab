use Rattle.std.proofs.Common.{◌∙◌, ap}
use Rattle.std.proofs.lemmas.List.{take_rest}
use Rattle.byteorder.specs.Endian.{big_number}
use Rattle.bm_encap.specs.Faults.{u64_at}
use Rattle.bm_encap.proofs.read.read_u64.Goals as goal

pub returns : goal.returns
unfolding u64_at
returns c = c.read_u64.ensures ∙ ap (big_number 8) (take_rest c.args.octets.now c.args.at)
