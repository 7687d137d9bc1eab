use Rattle.bm_state.proofs.Holding.{flow_from}
use Rattle.bm_state.proofs.holders.Holders.of.Goals as goal

pub returns : goal.returns
returns c past keeps =
    flow_from c.args.stage.now past c.args.flow.now _ _ _ _ c.get.ensures c.shard_for.ensures keeps
