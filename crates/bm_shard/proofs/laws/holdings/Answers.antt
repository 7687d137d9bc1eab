use Rattle.std.proofs.Common.{reverse}
use Rattle.bm_shard.specs.Turns.{turns}
use Rattle.bm_shard.proofs.Meaning.{held_same}
use Rattle.bm_shard.proofs.laws.holdings.Goals as goal

pub returns : goal.returns
returns c = λ past are f here.
    held_same c.args.stage.now past c.args.book.now.shard (turns (reverse c.args.book.now.entries))
    c.requires.capacity are f here
