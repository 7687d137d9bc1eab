use Rattle.bm_hash.specs.Buckets.{flow_octets}
use Rattle.bm_hash.proofs.fnv.flow_octets.Goals as goal

pub returns : goal.returns
unfolding flow_octets
returns c = simp (c.to_be_bytes.ensures, c.to_be_bytes-2.ensures, c.to_be_bytes-3.ensures, c.to_be_bytes-4.ensures)
