-- The parts of a capture, as they are read.
use Rattle.std.specs.Prelude.{◌≡◌, ℕ, ◌≤◌, List, length, take, Option, Some, None}
use Rattle.std.specs.Prelude.{Result, Ok, Err, nat_lt, if◌then◌else◌}
use Rattle.bm_pcap.specs.declared.fault.CaptureFault.{CaptureFault}
use Rattle.bm_pcap.specs.declared.fault.CaptureFault.TheVariants.{BadLength, ReadFault}
use Rattle.bm_pcap.specs.declared.fault.CaptureFault.TheVariants.{TooLarge}
use Rattle.bm_pcap.specs.declared.form.Form.{Form}
use Rattle.bm_pcap.specs.declared.place.Place.{Place}
use Rattle.bm_pcap.specs.Limits.{latest, longest, most_records}
use Rattle.bm_pcap.specs.declared.step.Head.{Head}
use Rattle.bm_pcap.specs.declared.step.Head.TheVariants as head
use Rattle.bm_pcap.specs.Records.{cut, end, next_of, after_header, time_of, captured_length}

-- If a record's header states a time and a length, what follows the header decides; otherwise the
-- header decides alone. A failed read says nothing.
abbrev pub HeadGives : Option (List ℕ) → Form → Place → Result Head CaptureFault → Type 0
HeadGives None form place result = Unit {0}
HeadGives (Some octets) form place (Ok head.End) = next_of form place octets ≡ Ok end
HeadGives (Some octets) form place (Ok head.Cut) = next_of form place octets ≡ Ok cut
HeadGives (Some octets) form place (Ok (head.States time len)) =
    (next_of form place octets ≡ after_header form place.number place.room len octets)
    × (time ≡ time_of form (take 16 octets))
    × (16 ≤ length octets)
HeadGives (Some octets) form place (Err ReadFault) = Unit {0}
HeadGives (Some octets) form place (Err e) = next_of form place octets ≡ Err e

-- The header that states this was read ahead.
abbrev pub HeadIn : Form → List ℕ → Head → Type 0
HeadIn form ahead (head.States time len) =
    (16 ≤ length ahead) × (len ≡ captured_length form (take 16 ahead))
HeadIn form ahead other = Unit {0}

-- the time that a header states is at most the latest
abbrev pub IsEarly : Head → Type 0
IsEarly (head.States time len) = time ≤ latest
IsEarly other = Unit {0}

-- a header after which reading goes on fits its place
abbrev pub HeadFits : Place → Head → Type 0
HeadFits place (head.States time len) =
    (place.number ≤ most_records) × (16 ≤ place.room) × (len ≤ longest) × (time ≤ latest)
HeadFits place other = Unit {0}

-- what a whole header of a record says at its place
abbrev pub stated : Form → Place → List ℕ → Result Head CaptureFault
stated form place header =
    if nat_lt longest (captured_length form header) then Err
    (BadLength place.number (captured_length form header))
    else if nat_lt place.room 16 then Err TooLarge
    else Ok (head.States (time_of form header) (captured_length form header))
