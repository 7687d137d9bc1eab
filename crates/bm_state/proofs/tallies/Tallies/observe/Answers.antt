use Rattle.bm_state.proofs.Tallying.{from_tallies, tallies}
use Rattle.bm_state.proofs.tallies.Tallies.observe.Goals as goal

pub returns : goal.returns
returns c past e is few keeps =
    from_tallies _ _
    (c.in_ok-observe_came.ensures _ past e is few (c.in_ok-observe_sent.ensures past past e is few (tallies past c.args.self.now keeps)))
