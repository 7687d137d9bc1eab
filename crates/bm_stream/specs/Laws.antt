-- What the length of a stream is, by the places that are kept.
use Rattle.std.specs.Prelude.{◌≡◌, ℕ, ◌+◌, ◌<◌, ◌≤◌, ◌⊎◌, true, Some, None, is_some, IfSome}
use Rattle.bm_stream.specs.Pieces.{Kept, window}

-- the length is the least place that isn't kept, or the FIN if that is lower; past the window
-- nothing is kept
pub record IsLength (k : Kept) : Type 0 where
  pub below : (q : ℕ) → q < k.length → is_some (k.octet q) ≡ true
  pub end : (k.octet k.length ≡ None) ⊎ (k.fin ≡ Some k.length)
  pub fin : IfSome k.fin (λ f. k.length ≤ f)
  pub within : (q : ℕ) → k.length + window ≤ q → k.octet q ≡ None
