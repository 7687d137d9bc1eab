use Rattle.std.proofs.Common.{◌∙◌}
use Rattle.bm_connections.specs.Connections.{one_more}
use Rattle.bm_connections.proofs.Counting.{packets_observed}
use Rattle.bm_connections.proofs.counters.Counters.observe.Goals as goal

pub returns : goal.returns
returns c = λ past after by late k. record {
  packets = packets_observed c.args.stage.now past c.args.event.now c.args.cause _ _ c.observe.ensures by k.packets;
  after_end = c.one_more-self.ensures ∙ (λ i. one_more (late i) (k.after_end i));
  loads = c.in_ok-observe.ensures past k.loads;
  held = c.in_ok-observe-2.ensures past after k.held;
  replies = c.in_ok-observe_reply.ensures past k.replies;
}
