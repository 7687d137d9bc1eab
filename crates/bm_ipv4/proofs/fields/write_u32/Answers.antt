use Rattle.bm_ipv4.proofs.Written.{written}
use Rattle.bm_ipv4.proofs.fields.write_u32.Goals as goal

pub returns : goal.returns
returns c = written c.args.at 4 c.args.octets.now _ _ c.requires c.write_u32.ensures
