use Rattle.std.proofs.Common.{◌≡◌, ◌≤◌, ℕ, List, is_some, true}
use Rattle.bm_base.specs.declared.label.Hop.TheVariants.{Direct}
use Rattle.bm_core.specs.Past.{is_sent, segment_of}
use Rattle.bm_core.specs.declared.events.Event.{Event}
use Rattle.bm_state.specs.Tallies.{KeepsTallies}
use Rattle.bm_check.proofs.copies.are_steered.Given as goal

abbrev pub invariant-loop-place : goal.invariant-loop-place
invariant-loop-place l =
    (all : List Event) → KeepsTallies all l.tallies → (k : ℕ) → k ≤ l.place
    → is_some (segment_of l.stage k) ≡ true → is_sent all k Direct ≡ true
