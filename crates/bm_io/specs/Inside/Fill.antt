-- What the contracts of private calls and the proofs of bodies use in addition to Fill.
use Rattle.std.specs.Prelude.{◌≡◌, ℕ, ◌≤◌, List, length, take, drop}
use Rattle.std.specs.declared.option.Option.{Option}
use Rattle.std.specs.declared.option.Option.TheVariants.{Some, None}

-- The first n octets that were left are now at the front of the buffer, and the others are left.
abbrev pub FilledSoFar : Option (List ℕ) → Option (List ℕ) → ℕ → List ℕ → Type 0
FilledSoFar None new n buf = Unit {0}
FilledSoFar (Some left) new n buf =
    (n ≤ length left) × (take n buf ≡ take n left) × (new ≡ Some (drop n left))
