use Rattle.std.proofs.Common.{◌≡◌, length}
use Rattle.std.specs.Prelude.{All}
use Rattle.bm_mux.specs.Muxes.{IsItem}
use Rattle.bm_thread_tests.proofs.mux.full_batch.Given as goal

abbrev pub invariant-loop-packet : goal.invariant-loop-packet
invariant-loop-packet g l = (length l.items.items ≡ l.packet) × All IsItem l.items.items
