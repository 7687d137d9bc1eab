-- A stream while it takes a piece.
use Rattle.std.specs.Prelude.{◌≡◌, ℕ, ◌+◌, ◌^◌, ◌<◌, ◌≤◌, true, List, length, Option, Some, None}
use Rattle.std.specs.Prelude.{is_some, IfSome, ◌⊎◌}
use Rattle.bm_hash.specs.Buckets.{fnv_1a}
use Rattle.bm_stream.specs.declared.stream.Stream.{Stream}
use Rattle.bm_stream.specs.Pieces.{Piece, octets_below, stream, window}
use Rattle.bm_stream.specs.Rings.{held_at}
use Rattle.bm_stream.specs.Views.{HasTaken}

-- these octets are kept, all of them below this end; the length hasn't passed the first gap
pub record IsKeeping (octet : ℕ → Option ℕ) (end : ℕ) (s : Stream) : Type 0 where
  pub below : (q : ℕ) → q < s.length → is_some (octet q) ≡ true
  pub upto : s.length ≤ end
  pub near : end ≤ s.length + window
  pub fin : IfSome s.fin (λ f. s.length ≤ f)
  pub hash : s.hash ≡ fnv_1a (octets_below octet s.length)
  pub octets : (q : ℕ) → s.length ≤ q → q < s.length + window
      → held_at s.ring.cells.items (s.base + q) ≡ octet q
  pub within : (q : ℕ) → end ≤ q → octet q ≡ None

-- the length is at the first gap, or at the FIN
abbrev pub IsAtEnd : (ℕ → Option ℕ) → Stream → Type 0
IsAtEnd octet s = (octet s.length ≡ None) ⊎ (s.fin ≡ Some s.length)

-- some pieces were taken, and they make a stream of fewer than 2^61 octets
pub record IsShort (s : Stream) : Type 0 where
  pub pieces : List Piece
  pub taken : HasTaken pieces s
  pub short : length (stream pieces) < 2 ^ 61
