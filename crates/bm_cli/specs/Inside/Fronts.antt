-- The first octets of a file and of a source.
use Rattle.std.specs.Prelude.{◌≡◌, ℕ, ◌++◌, List, take, Option, Some, None}
use Rattle.bm_cli.specs.Reading.{Octets}

-- the first octets of the file, at most this many
abbrev pub HasFront : Octets → List ℕ → ℕ → List ℕ → Type 0
HasFront None name most text = Unit {0}
HasFront (Some octets) name most text = text ≡ take most (octets name)

-- the first octets that the source had, at most this many
abbrev pub IsFront : Option (List ℕ) → ℕ → List ℕ → Type 0
IsFront None most text = Unit {0}
IsFront (Some left) most text = text ≡ take most left

-- the source had these octets, and then those that it still has
abbrev pub IsTaken : Option (List ℕ) → Option (List ℕ) → List ℕ → Type 0
IsTaken None now text = Unit {0}
IsTaken (Some left) now text = (rest : List ℕ) × (now ≡ Some rest) × (left ≡ text ++ rest)
