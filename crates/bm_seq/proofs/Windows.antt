-- A window has the numbers that come after its first one, around the end of the sequence numbers.
use Rattle.std.proofs.Common.{◌≡◌, ℕ, ◌+◌, ◌%◌, ◌^◌, ◌<◌, ◌≤◌, true, arith}
use Rattle.std.proofs.lemmas.Bool.{lt-ltb, ltb-true}
use Rattle.bm_seq.specs.Receivers.{distance, is_in_window}

-- the distance is what leads from one number to the other
distance_leads : (a b : ℕ) → a < 2 ^ 32 → b < 2 ^ 32 → (b + distance a b) % 2 ^ 32 ≡ a
unfolding distance
distance_leads a b p q = omega arith

-- a number in the window is k after its beginning, for some k below the window's size
pub in_window_after : (next window x : ℕ) → next < 2 ^ 32 → x < 2 ^ 32 → is_in_window next window x ≡ true → (k : ℕ)
    × (k < window) × ((next + k) % 2 ^ 32 ≡ x)
in_window_after next window x p q is = (distance x next, ltb-true _ _ is, distance_leads x next q p)

distance_after : (next k : ℕ) → next < 2 ^ 32 → k < 2 ^ 32 → distance ((next + k) % 2 ^ 32) next ≡ k
unfolding distance
distance_after next k p q = omega arith

-- and each such number is in it
pub after_in_window : (next window k : ℕ) → next < 2 ^ 32 → window ≤ 2 ^ 32 → k < window
    → is_in_window next window ((next + k) % 2 ^ 32) ≡ true
after_in_window next window k p w below =
    let d : distance ((next + k) % 2 ^ 32) next < window =
    rw (distance_after next k p (omega arith)) below in lt-ltb _ _ d
