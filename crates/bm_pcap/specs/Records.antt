-- The records of a capture in the classic pcap format.
use Rattle.std.specs.Prelude.{ℕ, ◌+◌, ◌-◌, ◌*◌, ◌^◌, max, List, length, take, drop, ◌&&◌, ◌||◌}
use Rattle.std.specs.Prelude.{nat_lt, nat_le, ◌==◌, if◌then◌else◌, Some, None, unwrap_or, Result}
use Rattle.std.specs.Prelude.{Ok, Err}
use Rattle.bm_base.specs.declared.ids.Moment.{Moment}
use Rattle.bm_pcap.specs.declared.fault.CaptureFault.{CaptureFault}
use Rattle.bm_pcap.specs.declared.fault.CaptureFault.TheVariants.{BadLength, TooLarge, TooManyPackets}
use Rattle.bm_pcap.specs.declared.form.Form.{Form}
use Rattle.bm_pcap.specs.declared.place.Place.{Place}
use Rattle.bm_pcap.specs.Limits.{longest, most_octets, most_records}
use Rattle.bm_pcap.specs.Header.{nanoseconds_in, number_at}

-- A record's header has 16 octets: seconds, a fraction, the captured length, the original length.
-- This is the captured time in nanoseconds. A fraction above one second is taken as it is.
abbrev pub time_of : Form → List ℕ → ℕ
time_of form header =
    number_at form.order 4 0 header * 10 ^ 9 + number_at form.order 4 4 header * nanoseconds_in
    form.unit

abbrev pub captured_length : Form → List ℕ → ℕ
captured_length form header = number_at form.order 4 8 header

-- What comes next: a whole record, with its captured time and its octets; one that is cut short;
-- the end.
pub data Found : Type 0 where
  whole : ℕ → List ℕ → Found
  cut : Found
  end : Found

-- the octets end before the record does, or the capture gets too large before that
abbrev pub short : ℕ → List ℕ → Result Found CaptureFault
short room left = if nat_lt room (length left) then Err TooLarge else Ok cut

-- What follows a record's header, which states n octets. A fault of the length is at the header's
-- last octet, and so comes before an octet that is too many.
abbrev pub after_header : Form → ℕ → ℕ → ℕ → List ℕ → Result Found CaptureFault
after_header form number room n left =
    if nat_lt longest n then Err (BadLength number n)
    else if nat_le (16 + n) (length left)
    && nat_le (16 + n) room then Ok (whole (time_of form (take 16 left)) (take n (drop 16 left)))
    else short room left

-- What is at the front of the octets that are left, at the place of the record of this number,
-- where the capture may have `room` more octets. A header that ends after octet room + 1 comes
-- after an octet that is too many.
abbrev pub record_at : Form → ℕ → ℕ → List ℕ → Result Found CaptureFault
record_at form number room left =
    if nat_lt (length left) 16 || nat_lt room 15 then short room left
    else after_header form number room (captured_length form (take 16 left)) left

-- the same, with the end of the octets, and a fault for a record after the last one that is allowed
unfoldable pub next_of : Form → Place → List ℕ → Result Found CaptureFault
next_of form place left =
    if length left == 0 then Ok end
    else if nat_lt most_records place.number then Err TooManyPackets
    else record_at form place.number place.room left

-- the place after the header of the capture
abbrev pub first_place : Place
first_place = record { number = 1; room = most_octets - 24; first = None; last = record { 0 = 0 } }

-- The captured time minus that of record 1, at least 0, and never below the moment of the record
-- before.
abbrev pub moment_at : Place → ℕ → Moment
moment_at place time = record { 0 = max place.last.0 (time - unwrap_or place.first time) }

-- the place after a record with this captured time and n octets
abbrev pub after_record : Place → ℕ → ℕ → Place
after_record place time n = record {
  number = place.number + 1;
  room = place.room - (16 + n);
  first = Some (unwrap_or place.first time);
  last = moment_at place time;
}

-- These octets alone are no whole record and have no fault: what follows them decides.
abbrev pub IsOpen : Result Found CaptureFault → Type 0
IsOpen (Ok (whole time octets)) = ⊥
IsOpen (Ok cut) = Unit {0}
IsOpen (Ok end) = Unit {0}
IsOpen (Err e) = ⊥
