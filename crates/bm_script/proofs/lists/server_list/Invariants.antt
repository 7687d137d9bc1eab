use Rattle.std.proofs.Common.{◌≡◌, ◌≤◌, drop}
use Rattle.bm_script.specs.Values as values
use Rattle.bm_script.proofs.Fronts.{with_front}
use Rattle.toml.specs.View.{items_view}
use Rattle.bm_script.proofs.lists.server_list.Given as goal

abbrev pub invariant-loop-item : goal.invariant-loop-item
invariant-loop-item l = record {
  so_far : with_front l.servers.items (values.rising l.low (items_view (drop l.item-index l.items)))
      ≡ values.rising 1 (items_view l.items);
  within : l.low ≤ 1025;
}
