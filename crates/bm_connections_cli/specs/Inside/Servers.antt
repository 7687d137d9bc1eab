-- What the contracts of private calls and the proofs of bodies use in addition to Servers.
use Rattle.std.specs.Prelude.{List, [], Option, Some, None}
use Rattle.bm_base.specs.declared.ids.ServerId.{ServerId}
use Rattle.bm_table.specs.declared.plan.Change.{Change}
use Rattle.bm_connections_cli.specs.Servers.{added}

-- the server that the change adds
abbrev pub added_by : Option Change → List ServerId
added_by None = []
added_by (Some change) = added change.kind
