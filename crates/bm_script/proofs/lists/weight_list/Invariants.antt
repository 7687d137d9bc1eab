use Rattle.std.proofs.Common.{◌≡◌, drop}
use Rattle.bm_script.specs.Values as values
use Rattle.bm_script.proofs.Fronts.{with_front}
use Rattle.toml.specs.View.{items_view}
use Rattle.bm_script.proofs.lists.weight_list.Given as goal

abbrev pub invariant-loop-item : goal.invariant-loop-item
invariant-loop-item l =
    with_front l.weights.items (values.each values.weight (items_view (drop l.item-index l.items)))
    ≡ values.each values.weight (items_view l.items)
