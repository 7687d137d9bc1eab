use Rattle.std.proofs.Common.{arith}
use Rattle.bm_encap.proofs.Spelled.{spelling_read}
use Rattle.bm_encap.proofs.laws.spelling_is_read.Goals as goal

pub returns : goal.returns
returns c =
    spelling_read c.args.tag.now c.args.inner.now c.requires.tag (
      omega (arith, c.past_stamp-prev.ensures),
      omega (arith, c.past_stamp-older.ensures),
      omega arith,
    ) c.requires.inner
