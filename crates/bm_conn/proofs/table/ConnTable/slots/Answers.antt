use Rattle.std.proofs.Common.{subst}
use Rattle.bm_conn.specs.Connections.{Connections}
use Rattle.bm_conn.specs.Layouts.{IsLaidOut}
use Rattle.bm_conn.proofs.Tables.{laid_out}
use Rattle.bm_conn.proofs.table.ConnTable.slots.Goals as goal

pub returns-clause-laid : goal.returns-clause-laid
returns-clause-laid c =
    subst (λ (t : Connections). IsLaidOut t) c.self.view_is
    (laid_out c.self.inside.slots.items c.self.inside.len c.self.inside.capacity c.self.invariant)
