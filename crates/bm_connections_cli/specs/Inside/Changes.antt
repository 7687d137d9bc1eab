-- What the contracts of private calls and the proofs of bodies use in addition to Changes.
use Rattle.std.specs.Prelude.{ℕ, List, [], Option, Some, None}
use Rattle.bm_script.specs.declared.verbs.ChangeVerb.{ChangeVerb}
use Rattle.bm_table.specs.declared.plan.Change.{Change}
use Rattle.bm_table.specs.Planned.{Planned}
use Rattle.bm_connections_cli.specs.Changes.{change_line}

-- the line of a change, if there is one
abbrev pub some_line : Option ℕ → ℕ → ℕ → Planned → List ChangeVerb → ℕ → Option Change → List ℕ
some_line clock racks servers plan verbs v None = []
some_line clock racks servers plan verbs v (Some c) = change_line clock racks servers plan verbs v c
