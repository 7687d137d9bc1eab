use Rattle.std.proofs.Common.{ap, sym, ◌∙◌}
use Rattle.bm_running.proofs.Serving.{verdict_in, verdict_says}
use Rattle.bm_running.specs.Inside.Shards.{state_in}
use Rattle.bm_state.specs.declared.shard_key.ShardKey.{ShardKey}
use Rattle.bm_running.proofs.shards.Shards.arrive.Goals as goal

pub returns-clause-verdict : goal.returns-clause-verdict
returns-clause-verdict c past label keeps tagged =
    let key : ShardKey = record { server = c.args.tag.dest.0; shard = c.shard_of.result }
    in ap verdict_in (sym c.in-Arrive.is ∙ c.in_ok-what.ensures.what)
    ∙ verdict_says c.args.stage.now past c.args.tag.dest c.shard_of.result
    (state_in c.args.stage.now.script.setting c.args.self.now key) c.args.clock label c.args.tag.hop c.args.tag
    c.args.segment (keeps key) (sym c.shard_of.ensures) tagged
