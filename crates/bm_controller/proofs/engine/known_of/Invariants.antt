use Rattle.std.proofs.Common.{◌≡◌, ◌<◌, false, vec_len, slice_index_or, drop, ◌||◌}
use Rattle.bm_base.specs.declared.ids.ServerId.{ServerId}
use Rattle.bm_table.specs.Tables as tables
use Rattle.bm_controller.proofs.engine.known_of.Given as goal

abbrev pub invariant-loop-s : goal.invariant-loop-s
invariant-loop-s l = record {
  long : vec_len l.known ≡ 65536;
  each : (s : ServerId) → s.0 < 65536
      → (slice_index_or l.known.items s.0 false || tables.is_among (drop l.s-index l.servers) s)
      ≡ tables.is_among l.servers s;
}
