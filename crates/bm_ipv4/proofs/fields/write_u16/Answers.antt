use Rattle.bm_ipv4.proofs.Written.{written}
use Rattle.bm_ipv4.proofs.fields.write_u16.Goals as goal

pub returns : goal.returns
returns c = written c.args.at 2 c.args.octets.now _ _ c.requires c.write_u16.ensures
