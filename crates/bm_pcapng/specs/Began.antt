-- When a capture of the pcapng form began.
use Rattle.std.specs.Prelude.{ℕ, zero, suc, min, List, [], drop, Option, Some, None, unwrap_or}
use Rattle.std.specs.Prelude.{Result, Ok, Err}
use Rattle.bm_pcap.specs.declared.form.Order.{Order}
use Rattle.bm_pcap.specs.Limits.{latest, most_octets}
use Rattle.bm_pcapng.specs.declared.content.Content.{Content}
use Rattle.bm_pcapng.specs.declared.content.Content.TheVariants.{Begins, Describes, Holds, Nothing}
use Rattle.bm_pcap.specs.declared.fault.CaptureFault.{CaptureFault}
use Rattle.bm_pcapng.specs.declared.interface.Interface.{Interface}
use Rattle.bm_pcapng.specs.declared.place.Place.{Place}
use Rattle.bm_pcapng.specs.declared.step.Step.{Step}
use Rattle.bm_pcapng.specs.declared.step.Step.TheVariants.{Block, Cut, End}
use Rattle.bm_pcapng.specs.Blocks.{next_of}
use Rattle.bm_pcapng.specs.Capture.{first_order}
use Rattle.bm_pcapng.specs.Places.{first_place, interfaces_after, order_after, place_after}

-- the time of a packet that has one
abbrev pub time_in : Content → Option ℕ
time_in (Holds packet) = packet.time
time_in (Begins order) = None
time_in (Describes interface) = None
time_in Nothing = None

-- the first of two times
abbrev pub first_of : Option ℕ → Option ℕ → Option ℕ
first_of None later = later
first_of (Some time) later = Some time

-- what was found at a place, followed by the blocks after it
abbrev pub time_found : (Order → List Interface → Place → List ℕ → Option ℕ) → Order
    → List Interface → Place → List ℕ → Result Step CaptureFault → Option ℕ
time_found others order interfaces place left (Ok (Block n content)) =
    first_of (time_in content)
    (others (order_after order content) (interfaces_after interfaces content)
    (place_after place n content) (drop n left))
time_found others order interfaces place left (Ok Cut) = None
time_found others order interfaces place left (Ok End) = None
time_found others order interfaces place left (Err e) = None

-- The time of the first packet that has one, from a place on, where at most this many blocks may
-- follow the next one.
unfoldable pub time_from : ℕ → Order → List Interface → Place → List ℕ → Option ℕ
time_from zero order interfaces place left =
    time_found (λ _ _ _ _. None) order interfaces place left (next_of order interfaces place left)
time_from (suc more) order interfaces place left =
    time_found (time_from more) order interfaces place left (next_of order interfaces place left)

-- of a whole capture
abbrev pub first_time : List ℕ → Option Order → Option ℕ
first_time octets None = None
first_time octets (Some order) = time_from most_octets order [] first_place octets

-- a time, at most the latest, or 0 where there is none
abbrev pub time_or_zero : Option ℕ → ℕ
time_or_zero time = min latest (unwrap_or time 0)

-- The time of the first packet that has one, by its interface's units, in nanoseconds since 1970.
unfoldable pub began : List ℕ → ℕ
began octets = time_or_zero (first_time octets (first_order octets))
