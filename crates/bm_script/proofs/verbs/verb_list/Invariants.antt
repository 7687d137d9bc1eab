use Rattle.std.proofs.Common.{◌≡◌, ◌++◌, drop}
use Rattle.bm_script.specs.Verbs.{verbs_in}
use Rattle.toml.specs.View.{items_view}
use Rattle.bm_script.proofs.verbs.verb_list.Given as goal

abbrev pub invariant-loop-value : goal.invariant-loop-value
invariant-loop-value l =
    l.verbs.items ++ verbs_in l.version (items_view (drop l.value-index l.tables))
    ≡ verbs_in l.version (items_view l.tables)
