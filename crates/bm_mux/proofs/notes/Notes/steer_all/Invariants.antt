use Rattle.std.proofs.Common.{◌≡◌, ◌≤◌, ◌+◌, ◌++◌, length, drop}
use mathlib.Core.List.{IsPrefix}
use Rattle.bm_mux.specs.Steers.{sent, steers}
use Rattle.bm_mux.specs.Inside.Keeping.{IsKept}
use Rattle.bm_mux.proofs.notes.Notes.steer_all.Given as goal

abbrev pub invariant-loop-item : goal.invariant-loop-item
invariant-loop-item l = record {
  same : (l.self.id ≡ l.initial.self.id) × (l.self.buckets ≡ l.initial.self.buckets)
      × (l.self.version ≡ l.initial.self.version);
  kept : IsKept l.self.id l.self.buckets l.self.version.0 l.self.clock.0 l.self.log.items l.guard;
  room : length l.self.log.items ≤ length l.initial.self.log.items + l.item-index;
  log : l.self.log.items ++ steers l.self.id l.self.clock.0 (drop l.item-index l.items) ≡ l.initial.self.log.items
      ++ steers l.initial.self.id l.initial.self.clock.0 l.items;
  out : l.out.items ++ sent l.self.id l.guard l.self.clock.0 (drop l.item-index l.items) ≡ l.initial.out.items
      ++ sent l.initial.self.id l.guard l.initial.self.clock.0 l.items;
  logged : IsPrefix l.initial.self.log.items l.self.log.items;
  given : IsPrefix l.initial.out.items l.out.items;
}
