-- Numbers in the octets of a header: big endian (RFC 791, appendix B).
use Rattle.std.specs.Prelude.{ℕ, List, drop, slice_index}
use Rattle.byteorder.specs.Endian.{big_number}

-- the octet at this place, counted from 0
abbrev pub octet_at : List ℕ → ℕ → ℕ
octet_at octets at = slice_index octets at

-- the number in the two octets from this place on
unfoldable pub u16_at : List ℕ → ℕ → ℕ
u16_at octets at = big_number 2 (drop at octets)

-- the number in the four octets from this place on
unfoldable pub u32_at : List ℕ → ℕ → ℕ
u32_at octets at = big_number 4 (drop at octets)
