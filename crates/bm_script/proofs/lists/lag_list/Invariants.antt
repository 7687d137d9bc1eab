use Rattle.std.proofs.Common.{◌≡◌, drop}
use Rattle.bm_script.specs.Values as values
use Rattle.bm_script.proofs.Fronts.{with_front}
use Rattle.toml.specs.View.{items_view}
use Rattle.bm_script.proofs.lists.lag_list.Given as goal

abbrev pub invariant-loop-item : goal.invariant-loop-item
invariant-loop-item l =
    with_front l.lags.items (values.each (values.number 0 86400000000000) (items_view (drop l.item-index l.items)))
    ≡ values.each (values.number 0 86400000000000) (items_view l.items)
