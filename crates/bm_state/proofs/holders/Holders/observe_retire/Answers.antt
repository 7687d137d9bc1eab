use Rattle.std.proofs.Common.{sym, ◌∙◌}
use Rattle.bm_state.specs.Holders.{holders_in, retired_in}
use Rattle.bm_state.proofs.Holding.{kept_retired}
use Rattle.bm_state.proofs.holders.Holders.observe_retire.Goals as goal

pub returns-in_ok-put : goal.returns-in_ok-put
returns-in_ok-put c stage past e at is place keeps =
    kept_retired stage past (holders_in c.args.self.now.lists) (retired_in c.args.self.now.retired)
    (retired_in c.put.new.self) e _ _ _ at _ _ is (sym c.is_done.ensures ∙ c.if-is_done.true) place c.at.ensures
    c.in_ok-put.ensures keeps
