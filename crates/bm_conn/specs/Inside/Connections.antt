-- What the contracts of private calls and the proofs of bodies use in addition to Connections.
use Rattle.std.specs.Prelude.{not, List, filter}
use Rattle.bm_base.specs.declared.flow.Flow.{Flow}
use Rattle.bm_base.specs.Segments.{same_flow}
use Rattle.bm_conn.specs.declared.table.Connection.{Connection}

-- the connections without the flow's
abbrev pub without : Flow → List Connection → List Connection
without f connections = filter (λ c. not (same_flow f c.flow)) connections
