use Rattle.bm_state.proofs.losses.Losses.observe.Goals as goal

pub returns : goal.returns
returns c past few keeps = c.in_ok-observe_lost.ensures _ past few (c.in_ok-observe_sent.ensures past past few keeps)
