use Rattle.bm_replay.proofs.Carriers.{turned_in}
use Rattle.bm_replay.proofs.carrier.Carrier.go_on.Goals as goal

pub invariant_of-self : goal.invariant_of-self
invariant_of-self c =
    turned_in c.self.inside.octets.items _ c.chain.new.octets _ c.chain.result c.self.invariant
    c.deref_mut.ensures.value c.self.inside.octets.ok.0 c.chain.auto.octets c.chain.ensures.octets
