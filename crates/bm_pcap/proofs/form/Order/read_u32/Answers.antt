use Rattle.std.proofs.Common.{◌∙◌, ap}
use Rattle.std.proofs.lemmas.List.{take_rest}
use Rattle.byteorder.specs.Endian.{big_number, little_number}
use Rattle.bm_pcap.specs.Header.{number_at}
use Rattle.bm_pcap.proofs.form.Order.read_u32.Goals as goal

pub returns-in-Big : goal.returns-in-Big
unfolding number_at
returns-in-Big c = rw c.in-Big.is (c.read_u32.ensures ∙ ap (big_number 4) (take_rest c.args.octets.now c.args.at))

pub returns-in-Little : goal.returns-in-Little
unfolding number_at
returns-in-Little c =
    rw c.in-Little.is (c.read_u32-in-Little.ensures ∙ ap (little_number 4) (take_rest c.args.octets.now c.args.at))
