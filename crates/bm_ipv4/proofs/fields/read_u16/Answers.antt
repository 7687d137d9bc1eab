use Rattle.std.proofs.Common.{◌∙◌, ap}
use Rattle.std.proofs.lemmas.List.{take_rest}
use Rattle.byteorder.specs.Endian.{big_number}
use Rattle.bm_ipv4.specs.Fields.{u16_at}
use Rattle.bm_ipv4.proofs.fields.read_u16.Goals as goal

pub returns : goal.returns
unfolding u16_at
returns c = c.read_u16.ensures ∙ ap (big_number 2) (take_rest c.args.octets.now c.args.at)
