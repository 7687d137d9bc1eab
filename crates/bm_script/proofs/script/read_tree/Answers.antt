use Rattle.std.proofs.Common.{ℕ, subst}
use Rattle.toml.specs.View.{table_view}
use Rattle.bm_script.specs.Faults.{Gives}
use Rattle.bm_script.specs.Scripts.{script_with}
use Rattle.bm_script.proofs.script.read_tree.Goals as goal

pub returns-clause-gives : goal.returns-clause-gives
returns-clause-gives c =
    subst (λ (v : ℕ). Gives c.read_with.result (script_with v (table_view c.args.table.now))) c.version_of.ensures
    c.read_with.ensures.gives
