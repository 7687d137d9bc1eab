use Rattle.std.proofs.Common.{refl}
use Rattle.bm_state.specs.Holders.{holders_in, retired_in}
use Rattle.bm_state.proofs.Holding.{kept_arrival}
use Rattle.bm_state.proofs.holders.Holders.observe_arrival.Goals as goal

pub returns : goal.returns
returns c past e hop is at keeps =
    kept_arrival c.args.stage.now past (holders_in c.args.self.now.lists) (holders_in c.arrive.new.self)
    (retired_in c.args.self.now.retired) e _ _ hop _ _ _ _ is at refl c.change_by-change.ensures c.in_ok-arrive.ensures
    keeps
