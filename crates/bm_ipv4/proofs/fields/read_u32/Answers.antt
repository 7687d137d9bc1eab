use Rattle.std.proofs.Common.{◌∙◌, ap}
use Rattle.std.proofs.lemmas.List.{take_rest}
use Rattle.byteorder.specs.Endian.{big_number}
use Rattle.bm_ipv4.specs.Fields.{u32_at}
use Rattle.bm_ipv4.proofs.fields.read_u32.Goals as goal

pub returns : goal.returns
unfolding u32_at
returns c = c.read_u32.ensures ∙ ap (big_number 4) (take_rest c.args.octets.now c.args.at)
