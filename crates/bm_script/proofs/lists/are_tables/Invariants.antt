use Rattle.std.proofs.Common.{◌≡◌, drop}
use Rattle.bm_script.specs.Values as values
use Rattle.toml.specs.View.{items_view}
use Rattle.bm_script.proofs.lists.are_tables.Given as goal

abbrev pub invariant-loop-item : goal.invariant-loop-item
invariant-loop-item l =
    values.are_tables (items_view (drop l.item-index l.items)) ≡ values.are_tables (items_view l.items)
