use Rattle.std.proofs.Common.{◌≡◌, ℕ, drop}
use Rattle.std.specs.List.{slice_get}
use Rattle.std.specs.Option.{option_map}
use Rattle.bm_table.specs.Entries.{after_moves}
use Rattle.bm_table.proofs.table.carry_out.Given as goal

abbrev pub invariant-loop-m : goal.invariant-loop-m
invariant-loop-m l = (b : ℕ)
    → option_map (after_moves l.at.0 (drop l.m-index l.moves) b) (slice_get l.entries b)
    ≡ option_map (after_moves l.at.0 l.moves b) (slice_get l.fn.entries b)
