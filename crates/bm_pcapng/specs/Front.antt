-- A source whose first octets can be looked at.
use Rattle.std.specs.Prelude.{◌≡◌, ℕ, List, slice_range, take, Option, Some, None, Result, Ok, Err}
use Rattle.std.specs.Io.KnownBytes.{prepend_known}
use Rattle.bm_io.specs.Causes.{HasCause}
use Rattle.bm_io.specs.declared.fault.Failed.{Failed}
use Rattle.bm_pcapng.specs.declared.front.Front.{Front}

-- the first octets of the source, at most four
abbrev pub magic_in : {S : Type 0} → Front S → List ℕ
magic_in front = take front.upto front.octets

-- those that were not given yet
abbrev pub ahead : {S : Type 0} → Front S → List ℕ
ahead front = slice_range front.octets front.from front.upto

-- what is left, if the source's octets are known
abbrev pub left_in : {S : Type 0} → (S → Option (List ℕ)) → Front S → Option (List ℕ)
left_in left front = prepend_known (ahead front) (left front.src)

-- these are the first octets of the source, at most four
abbrev pub IsMagic : Option (List ℕ) → List ℕ → Type 0
IsMagic None magic = Unit {0}
IsMagic (Some octets) magic = magic ≡ take 4 octets

-- the count rises if the first octets can't be read, and stays the same otherwise
abbrev pub HasFrontCause : {S : Type 0} → (S → ℕ) → S → Result (Front S) (S × Failed) → Type 0
HasFrontCause faults old (Ok front) = faults front.src ≡ faults old
HasFrontCause {S} faults old (Err refused) =
    HasCause {T = Front S} (faults old) (faults refused.0) (Err refused.1)
