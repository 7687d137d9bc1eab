-- The Internet checksum (RFC 1071, section 1).
use Rattle.std.specs.Prelude.{ℕ, ◌+◌, ◌-◌, ◌*◌, List, [], ◌∷◌, nat_lt, if◌then◌else◌}

-- one's complement addition of 16 bits: a carry out of the top is added at the bottom
abbrev pub add_ones : ℕ → ℕ → ℕ
add_ones a b = if nat_lt (a + b) 65536 then a + b else a + b - 65535

-- the sum so far, with the big-endian words added to it one after the other
abbrev pub ones_from : ℕ → List ℕ → ℕ
ones_from sum [] = sum
ones_from sum (high ∷ []) = sum
ones_from sum (high ∷ low ∷ rest) = ones_from (add_ones sum (high * 256 + low)) rest

-- the one's complement of the one's complement sum of the words
unfoldable pub checksum_of : List ℕ → ℕ
checksum_of octets = 65535 - ones_from 0 octets
