use Rattle.bm_core.proofs.laws.held_flows.Goals as goal
use Rattle.bm_core.proofs.Listed.{flows_of_shard, flows_are_distinct}

pub returns : goal.returns
returns c = record {
  held = λ past s h f. flows_of_shard c.args.stage.now past s h f;
  once = λ past s h. flows_are_distinct c.args.stage.now past s h;
}
