use Rattle.bm_state.specs.Holders.{holders_in, retired_in}
use Rattle.bm_state.proofs.Holding.{kept_closed}
use Rattle.bm_state.proofs.holders.Holders.observe_close.Goals as goal

pub returns-then-closed : goal.returns-then-closed
returns-then-closed c stage past e is keeps =
    kept_closed stage past (holders_in c.args.self.now.lists) (holders_in c.release.new.self)
    (retired_in c.args.self.now.retired) e _ _ _ is c.if-closed.true c.release.ensures keeps
