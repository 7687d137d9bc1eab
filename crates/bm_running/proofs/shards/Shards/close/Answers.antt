use Rattle.std.proofs.Common.{ap, sym, ◌∙◌}
use Rattle.bm_running.proofs.Serving.{closed_in, held_says}
use Rattle.bm_running.specs.Inside.Shards.{state_in}
use Rattle.bm_state.specs.declared.shard_key.ShardKey.{ShardKey}
use Rattle.bm_running.proofs.shards.Shards.close.Goals as goal

pub returns-clause-held : goal.returns-clause-held
returns-clause-held c past keeps =
    let key : ShardKey = record { server = c.args.server.0; shard = c.shard_of.result }
    in ap closed_in (sym c.in-Close.is ∙ c.in_ok-what.ensures.what)
    ∙ held_says c.args.stage.now past c.args.server c.shard_of.result
    (state_in c.args.stage.now.script.setting c.args.self.now key) c.args.flow (keeps key) (sym c.shard_of.ensures)
