use Rattle.std.proofs.Common.{arith}
use Rattle.bm_encap.specs.Spellings.{spelling}
use Rattle.bm_replay.proofs.Carriers.{all_loaded, octets_spelled}
use Rattle.bm_replay.proofs.carrier.Carrier.load.Goals as goal

pub invariant_of-self : goal.invariant_of-self
invariant_of-self c =
    all_loaded c.wrap.result _ c.wrap.new.out.items (spelling c.args.tag.now c.args.packet.now) c.clear.ensures.items
    (octets_spelled c.args.tag.now c.args.packet.now (λ i. omega (arith, c.type_inv.packet i))) c.wrap.ensures
