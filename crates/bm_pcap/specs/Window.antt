-- A source that is read ahead of what is consumed.
use Rattle.std.specs.Prelude.{◌≡◌, ℕ, List, length, take, min, slice_range, Option, Some, None}
use Rattle.std.specs.Io.KnownBytes.{prepend_known}
use Rattle.bm_pcap.specs.declared.window.Window.{Window}

-- the source after what was read ahead
abbrev pub source_of : {S : Type 0} → Window S → S
source_of window = window.src

-- the most octets that are read ahead
abbrev pub width : {S : Type 0} → Window S → ℕ
width window = length window.octets.items

-- what was read ahead
abbrev pub buffered : {S : Type 0} → Window S → List ℕ
buffered window = slice_range window.octets.items window.from window.upto

-- what is before it in the buffer: the last octet that was consumed is at its end
abbrev pub passed : {S : Type 0} → Window S → List ℕ
passed window = take window.from window.octets.items

-- The octets that aren't consumed yet, if the source's octets are known: those that were read
-- ahead, and then those that the source has left.
abbrev pub rest : {S : Type 0} → (S → Option (List ℕ)) → Window S → Option (List ℕ)
rest left window = prepend_known (buffered window) (left window.src)

-- The first octets of the rest were read ahead: as many as were wanted, or all of them.
abbrev pub Ahead : Option (List ℕ) → ℕ → ℕ → List ℕ → Type 0
Ahead None most n ahead = Unit {0}
Ahead (Some octets) most n ahead = (n ≡ min most (length octets)) × (take n ahead ≡ take n octets)
