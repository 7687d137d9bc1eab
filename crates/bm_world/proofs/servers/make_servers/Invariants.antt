use Rattle.std.proofs.Common.{◌≡◌, ℕ, length, slice_get, Some}
use Rattle.bm_rows.specs.Rows.{items_of}
use Rattle.bm_world.specs.Inside.Served.{IsNewRow, IsServerOf}
use Rattle.bm_world.proofs.servers.make_servers.Given as goal

abbrev pub invariant-loop-id : goal.invariant-loop-id
invariant-loop-id l = record {
  made : length l.servers.items ≡ l.id-index;
  count : length l.rows.items ≡ l.workers;
  each : (w : ℕ) (seats : _) → slice_get (items_of l.rows.items) w ≡ Some seats → IsNewRow l.servers.items w seats;
  servers : (s : ℕ) (server : _) → slice_get l.servers.items s ≡ Some server
      → IsServerOf l.setting l.ids l.workers s server;
}
