-- Which octets of a piece are at or after the length.
use Rattle.std.specs.Prelude.{ℕ, ◌+◌, ◌-◌, suc, max, ℤ, pos, negsuc}

-- the first place from this one on that isn't below the length
abbrev pub first_from : ℤ → ℕ → ℕ
first_from (pos from) upto = max upto from
first_from (negsuc before) upto = upto

-- how many places there are from this one up to the length
abbrev pub places_before : ℤ → ℕ → ℕ
places_before (pos from) upto = upto - from
places_before (negsuc before) upto = upto + suc before
