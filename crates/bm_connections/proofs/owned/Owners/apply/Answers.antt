use Rattle.std.proofs.Common.{◌∙◌}
use Rattle.bm_connections.proofs.Counted.{owners-next}
use Rattle.bm_connections.proofs.owned.Owners.apply.Goals as goal

pub returns-clause-next : goal.returns-clause-next
returns-clause-next c = λ plan v kept is same.
    c.carry_out.ensures.owners
    ∙ rw (c.items.ensures, same) (owners-next plan v c.args.change.now kept is)
