use Rattle.std.proofs.Common.{◌≡◌, ◌-◌, ◌<◌, ◌≤◌, ℕ, length, Some}
use Rattle.std.specs.Prelude.{slice_get}
use Rattle.bm_base.specs.declared.capture.Record.{Record}
use Rattle.bm_world.proofs.places.record_place.Given as goal

abbrev pub invariant-loop-place : goal.invariant-loop-place
invariant-loop-place l = record {
  order : l.fn.from ≤ l.place;
  within : l.place ≤ length l.records;
  earlier : (i : ℕ) (r : Record) → l.fn.from ≤ i → i < l.place → slice_get l.records i ≡ Some r
      → r.moment.0 < l.at.0;
}

abbrev pub decreases-loop-place : goal.decreases-loop-place
decreases-loop-place l = length l.records - l.place
