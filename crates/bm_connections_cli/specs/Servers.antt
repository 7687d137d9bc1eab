-- The servers of a script.
use Rattle.std.specs.Prelude.{List, [], ◌∷◌, ◌++◌, flat_map}
use Rattle.bm_base.specs.declared.ids.ServerId.{ServerId}
use Rattle.bm_table.specs.declared.plan.Change.{Change}
use Rattle.bm_table.specs.declared.plan.Kind.{Kind}
use Rattle.bm_table.specs.declared.plan.Kind.TheVariants.{Add, Drain, Shift}
use Rattle.bm_table.specs.declared.script.Script.{Script}

-- the server that a change of this kind adds
abbrev pub added : Kind → List ServerId
added (Add server) = server ∷ []
added (Drain server) = []
added Shift = []

-- the servers that are there at the beginning, and then those that its changes add, in order
abbrev pub servers_of : Script → List ServerId
servers_of script =
    script.setting.servers ++ flat_map (λ (c : Change). added c.kind) script.plan.changes
