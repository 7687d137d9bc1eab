use Rattle.std.proofs.Common.{◌-◌, ◌<◌, ◌≤◌, ℕ, length}
use Rattle.std.specs.Prelude.{slice_get}
use Rattle.bm_lead.specs.Leaders.{IsSyncCommand}
use Rattle.bm_world.proofs.places.sync_place.Given as goal

abbrev pub invariant-loop-place : goal.invariant-loop-place
invariant-loop-place l = record {
  order : l.fn.from ≤ l.place;
  within : l.place ≤ length l.commands;
  no_sync : (i : ℕ) → l.fn.from ≤ i → i < l.place → IsSyncCommand (slice_get l.commands i) → ⊥;
}

abbrev pub decreases-loop-place : goal.decreases-loop-place
decreases-loop-place l = length l.commands - l.place
