use Rattle.std.proofs.Common.{sym, ◌∙◌}
use Rattle.bm_script.specs.Values.{has_server}
use Rattle.bm_script.proofs.RackLists.{all-more}
use Rattle.bm_script.proofs.racks.are_filled.Goals as goal

pub loop-rack-preserved : goal.loop-rack-preserved
loop-rack-preserved c = record {
  rest = all-more (has_server c.args.racks c.args.servers.now) c.loop-rack.rack c.args.racks c.loop-rack-test.true
      (sym c.has_server.ensures ∙ c.if-not-has_server.false)
      ∙ c.loop-rack.invariant.rest;
}
