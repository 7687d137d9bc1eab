-- The stream that pieces make: which octets each piece keeps, how far they reach, and whether the
-- stream has ended. Pieces stand with the newest first. A place is counted from the first octet of
-- the stream; a piece may begin before it.
use Rattle.std.specs.Prelude.{ℕ, zero, suc, ◌+◌, ◌-◌, min, ℤ, pos, negsuc, Bool, false, ◌&&◌, ◌==◌}
use Rattle.std.specs.Prelude.{nat_lt, nat_le, if◌then◌else◌, List, [], ◌∷◌, ◌++◌, slice_get}
use Rattle.std.specs.Prelude.{Option, Some, None}

-- octets from a place on, and the place of a FIN
pub record Piece : Type 0 where
  pub place : ℤ
  pub octets : List ℕ
  pub fin : Option ℤ

-- how many places may be kept, counted from the length of the stream: a receiver's window (RFC
-- 9293, section 3.1) without scaling
abbrev pub window : ℕ
window = 65535

-- the place is in the window of a stream of this length
abbrev pub is_in_window : ℕ → ℕ → Bool
is_in_window length q = nat_le length q && nat_lt q (length + window)

-- the first if there is one, else the second
abbrev pub first_of_two : Option ℕ → Option ℕ → Option ℕ
first_of_two None later = later
first_of_two (Some x) later = Some x

-- the octet at place q of octets from a place on, if they cover it
abbrev pub octet_at : ℤ → List ℕ → ℕ → Option ℕ
octet_at (pos from) octets q = if nat_lt q from then None else slice_get octets (q - from)
octet_at (negsuc before) octets q = slice_get octets (q + suc before)

-- the place of a FIN, if it is in the window
abbrev pub fin_at : ℕ → Option ℤ → Option ℕ
fin_at length (Some (pos f)) = if is_in_window length f then Some f else None
fin_at length _ = None

-- the least place without an octet; this many if all places below have one
abbrev pub first_gap : (ℕ → Option ℕ) → ℕ → ℕ
first_gap octet zero = zero
first_gap octet (suc most) =
    elim (octet 0) [ None ↦ 0 | Some x ↦ suc (first_gap (λ q. octet (suc q)) most) ]

-- as far, but not past the FIN
abbrev pub up_to_fin : Option ℕ → ℕ → ℕ
up_to_fin None upto = upto
up_to_fin (Some f) upto = min f upto

-- what was kept: an octet at each place or none, the place of a FIN, and the length of the stream
pub record Kept : Type 0 where
  pub octet : ℕ → Option ℕ
  pub fin : Option ℕ
  pub length : ℕ

-- the octet at a place after a piece: the one that was kept before, or the piece's in the window
abbrev pub octet_after : Piece → Kept → ℕ → Option ℕ
octet_after p k q =
    first_of_two (k.octet q)
    (if is_in_window k.length q then octet_at p.place p.octets q else None)

-- the place of the FIN after a piece
abbrev pub fin_after : Piece → Kept → Option ℕ
fin_after p k = first_of_two k.fin (fin_at k.length p.fin)

-- the length after a piece: the least place that isn't kept, which is in the window or at its end,
-- or the FIN if it is lower
abbrev pub length_after : Piece → Kept → ℕ
length_after p k = up_to_fin (fin_after p k) (first_gap (octet_after p k) (k.length + window))

-- what was kept of pieces
unfoldable pub kept : List Piece → Kept
kept [] = record { octet = λ q. None; fin = None; length = 0 }
kept (p ∷ pieces) = record {
  octet = octet_after p (kept pieces);
  fin = fin_after p (kept pieces);
  length = length_after p (kept pieces);
}

-- octets, and one more if there is one
abbrev pub with_octet : List ℕ → Option ℕ → List ℕ
with_octet octets None = octets
with_octet octets (Some x) = octets ++ x ∷ []

-- the octets below a place, in their order
abbrev pub octets_below : (ℕ → Option ℕ) → ℕ → List ℕ
octets_below octet zero = []
octets_below octet (suc n) = with_octet (octets_below octet n) (octet n)

-- the stream: the kept octets below the length
unfoldable pub stream : List Piece → List ℕ
stream pieces = octets_below (kept pieces).octet (kept pieces).length

-- there is a FIN, at this place
abbrev pub is_fin : Option ℕ → ℕ → Bool
is_fin None place = false
is_fin (Some f) place = f == place

-- the stream reaches the FIN
unfoldable pub is_ended : List Piece → Bool
is_ended pieces = is_fin (kept pieces).fin (kept pieces).length
