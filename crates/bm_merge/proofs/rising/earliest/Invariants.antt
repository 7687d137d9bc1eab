use Rattle.std.proofs.Common.{◌≡◌, ◌<◌, ◌≤◌, ℕ, length, Some}
use Rattle.std.specs.Prelude.{slice_get}
use Rattle.bm_merge.specs.declared.rising.Head.{Head}
use Rattle.bm_merge.proofs.rising.earliest.Given as goal

abbrev pub invariant-loop-place : goal.invariant-loop-place
invariant-loop-place l = record {
  there : l.least < length l.heads;
  under : l.least < l.place;
  clock : (e : Head) → slice_get l.heads l.least ≡ Some e → l.clock ≡ e.event.clock;
  before : (i : ℕ) (h e : Head) → i < l.least → slice_get l.heads i ≡ Some h → slice_get l.heads l.least ≡ Some e
      → e.event.clock.0 < h.event.clock.0;
  behind : (i : ℕ) (h e : Head) → l.least ≤ i → i < l.place → slice_get l.heads i ≡ Some h
      → slice_get l.heads l.least ≡ Some e → e.event.clock.0 ≤ h.event.clock.0;
}
