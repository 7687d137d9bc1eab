-- How contracts see a stream: by the pieces that it has taken.
use Rattle.std.specs.Prelude.{◌≡◌, ℕ, ◌+◌, ◌<◌, ◌≤◌, List}
use Rattle.bm_hash.specs.Buckets.{fnv_1a}
use Rattle.bm_stream.specs.declared.stream.Stream.{Stream}
use Rattle.bm_stream.specs.Pieces.{Piece, kept, stream, window}
use Rattle.bm_stream.specs.Rings.{held_at}

-- the stream has taken these pieces, the newest first: it knows what was kept, as far as a later
-- piece may depend on it
pub record HasTaken (pieces : List Piece) (s : Stream) : Type 0 where
  pub length : s.length ≡ (kept pieces).length
  pub fin : s.fin ≡ (kept pieces).fin
  pub hash : s.hash ≡ fnv_1a (stream pieces)
  pub octets : (q : ℕ) → s.length ≤ q → q < s.length + window
      → held_at s.ring.cells.items (s.base + q) ≡ (kept pieces).octet q
