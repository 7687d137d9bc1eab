use Rattle.std.proofs.Common.{reverse}
use Rattle.bm_shard.proofs.Meaning.{dropped, none_held}
use Rattle.bm_shard.proofs.laws.retired.Goals as goal

pub returns : goal.returns
returns c = record {
  ended = λ f. none_held c.args.book.now.shard (reverse c.args.book.now.entries) c.history-entries.ensures.replays
      c.requires f;
  dropped = λ clock tag s. dropped c.args.book.now.shard (reverse c.args.book.now.entries) clock tag s c.requires;
}
