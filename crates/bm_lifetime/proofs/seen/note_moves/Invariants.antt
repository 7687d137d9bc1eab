use Rattle.std.proofs.Common.{◌≡◌, ℕ, drop}
use Rattle.std.specs.List.{slice_get}
use Rattle.std.specs.Option.{option_map}
use Rattle.bm_lifetime.specs.Inside.Seen.{after_moves}
use Rattle.bm_lifetime.proofs.seen.note_moves.Given as goal

abbrev pub invariant-loop-m : goal.invariant-loop-m
invariant-loop-m l = (b : ℕ)
    → option_map (after_moves l.at (drop l.m-index l.moves) b) (slice_get l.seen b)
    ≡ option_map (after_moves l.at l.moves b) (slice_get l.fn.seen b)
