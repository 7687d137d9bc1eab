use Rattle.bm_ipv4.proofs.Written.{written}
use Rattle.bm_encap.proofs.header.write_u64.Goals as goal

pub returns : goal.returns
returns c = written c.args.at 8 c.args.octets.now _ _ c.requires c.write_u64.ensures
