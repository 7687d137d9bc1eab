use Rattle.std.proofs.Common.{◌∙◌, ap, set}
use Rattle.bm_connections.specs.declared.connection.Connection.{Connection}
use Rattle.bm_connections.specs.Inside.Rows.{seen_again}
use Rattle.bm_connections.proofs.Placed.{written}
use Rattle.bm_connections.proofs.rows.Rows.see_again.Goals as goal

pub returns-clause-connections : goal.returns-clause-connections
returns-clause-connections c =
    ap (λ (x : Connection). set c.args.self.now.connections.items c.args.place x) c.see_again.ensures
    ∙ written (seen_again c.args.sight c.args.segment.now) c.args.self.now.connections.items c.args.place
    c.index_mut.result.now c.requires c.index_mut.ensures.value
