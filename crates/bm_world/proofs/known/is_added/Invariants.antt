use Rattle.std.proofs.Common.{◌≡◌, ◌<◌, ℕ, false}
use Rattle.bm_table.specs.Tables.{adds, next_change}
use Rattle.bm_world.proofs.known.is_added.Given as goal

abbrev pub invariant-loop-version : goal.invariant-loop-version
invariant-loop-version l = (v : ℕ) → v < l.version → adds (next_change l.plan v) l.id ≡ false
