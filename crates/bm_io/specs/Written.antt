-- What a failed write leaves.
use Rattle.std.specs.Prelude.{ℕ, ◌<◌, List, length, take, Option}
use Rattle.std.specs.Io.KnownBytes.{Appends}

-- only a first part of the text was written, not all of it (None: the content isn't known)
abbrev pub WritesPart : Option (List ℕ) → Option (List ℕ) → List ℕ → Type 0
WritesPart before now text = (n : ℕ) × (n < length text) × Appends before now (take n text)
