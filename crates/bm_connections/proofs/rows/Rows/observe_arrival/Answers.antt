use Rattle.std.proofs.Common.{◌∙◌, ap, set}
use Rattle.bm_connections.specs.declared.connection.Connection.{Connection}
use Rattle.bm_connections.specs.Inside.Rows.{observed}
use Rattle.bm_connections.proofs.Placed.{room_here, written}
use Rattle.bm_connections.proofs.rows.Rows.observe_arrival.Goals as goal

pub observe-requires : goal.observe-requires
observe-requires c =
    room_here c.args.self.now.connections.items c.args.place c.index_mut.result.now c.requires.place
    c.index_mut.ensures.value c.requires.room

pub returns-clause-connections : goal.returns-clause-connections
returns-clause-connections c =
    ap (λ (x : Connection). set c.args.self.now.connections.items c.args.place x) c.observe.ensures
    ∙ written (observed c.args.arrival c.args.facts.now) c.args.self.now.connections.items c.args.place
    c.index_mut.result.now c.requires.place c.index_mut.ensures.value
