use Rattle.std.proofs.Common.{◌≡◌, ℕ, ◌<◌, length, slice_get}
use Rattle.bm_replay.specs.Inside.Muxes.{HasTable}
use Rattle.bm_replay.proofs.mux.Muxes.new.Given as goal

abbrev pub invariant-loop : goal.invariant-loop
invariant-loop l =
    (length l.list.items ≡ l.counter) × ((m : ℕ) → m < l.counter → HasTable l.plan 0 (slice_get l.list.items m))
