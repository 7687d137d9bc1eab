use Rattle.std.proofs.Common.{◌≡◌, length, map}
use Rattle.std.specs.List.{range_with_len}
use Rattle.bm_load.specs.Load.{packet_at, record_at}
use Rattle.bm_load.proofs.packets.records.Given as goal

abbrev pub invariant-loop-place : goal.invariant-loop-place
invariant-loop-place l = record {
  records : l.records.items ≡ map (record_at l.n) (range_with_len 0 l.place);
  packets : l.packets ≡ map (packet_at l.n) (range_with_len 0 l.place);
  count : length l.packets ≡ l.place;
}
