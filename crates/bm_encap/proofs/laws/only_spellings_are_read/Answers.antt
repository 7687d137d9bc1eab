use Rattle.std.proofs.Common.{arith}
use Rattle.bm_encap.proofs.Valid.{only_spellings}
use Rattle.bm_encap.proofs.laws.only_spellings_are_read.Goals as goal

pub returns : goal.returns
returns c = only_spellings c.args.octets.now (λ i. omega (arith, c.type_inv.octets i))
