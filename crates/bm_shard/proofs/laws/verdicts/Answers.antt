use Rattle.std.proofs.Common.{reverse}
use Rattle.bm_shard.specs.Turns.{turns}
use Rattle.bm_shard.proofs.Meaning.{verdict_same}
use Rattle.bm_shard.proofs.laws.verdicts.Goals as goal

pub returns : goal.returns
returns c = λ past are label hop tag s clock tagged here.
    verdict_same c.args.stage.now past c.args.book.now.shard (turns (reverse c.args.book.now.entries))
    c.requires.capacity c.requires.timeout_is are label hop tag s clock tagged here
