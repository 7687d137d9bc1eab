-- What a capture means: its first fault in order of place, or its records, and which one is cut
-- short.
use Rattle.std.specs.Prelude.{ℕ, zero, suc, ◌+◌, List, [], ◌∷◌, length, drop, Option, Some, None}
use Rattle.std.specs.Prelude.{Result, Ok, Err}
use Rattle.bm_base.specs.declared.capture.Capture.{Capture}
use Rattle.bm_base.specs.declared.capture.Record.{Record}
use Rattle.bm_base.specs.declared.capture.Vip.{Vip}
use Rattle.bm_link.specs.Classes.{classified}
use Rattle.bm_pcap.specs.declared.fault.CaptureFault.{CaptureFault}
use Rattle.bm_pcap.specs.declared.fault.CaptureFault.TheVariants.{TooManyPackets}
use Rattle.bm_pcap.specs.declared.form.Form.{Form}
use Rattle.bm_pcap.specs.declared.place.Place.{Place}
use Rattle.bm_pcap.specs.Limits.{most_records}
use Rattle.bm_pcap.specs.Header.{form_of}
use Rattle.bm_pcap.specs.Records.{Found, whole, cut, end, next_of, first_place, moment_at}
use Rattle.bm_pcap.specs.Records.{after_record}

-- a capture, and the packet of each of its records, or a fault
abbrev pub Captured : Type 0
Captured = Result (Capture × List (List ℕ)) CaptureFault

-- the records end here, and this one is cut, if any
abbrev pub ends : Option ℕ → Captured
ends cut_record = Ok (record { records = []; cut = cut_record }, [])

-- a record before the others
abbrev pub with_record : Record → List ℕ → Captured → Captured
with_record one packet (Ok others) =
    Ok (record { records = one ∷ others.0.records; cut = others.0.cut }, packet ∷ others.1)
with_record one packet (Err e) = Err e

-- what was found at a place, followed by the records after it
abbrev pub after_found : Form → List Vip → (Place → List ℕ → Captured) → Place → List ℕ
    → Result Found CaptureFault → Captured
after_found form vips others place left (Ok (whole time octets)) =
    with_record
    (record { moment = moment_at place time; body = (classified form.link vips octets).0 })
    (classified form.link vips octets).1
    (others (after_record place time (length octets)) (drop (16 + length octets) left))
after_found form vips others place left (Ok cut) = ends (Some place.number)
after_found form vips others place left (Ok end) = ends None
after_found form vips others place left (Err e) = Err e

-- the records from a place on, where at most this many may follow the next one
unfoldable pub records_from : Form → List Vip → ℕ → Place → List ℕ → Captured
records_from form vips zero place left =
    after_found form vips (λ _ _. Err TooManyPackets) place left (next_of form place left)
records_from form vips (suc more) place left =
    after_found form vips (records_from form vips more) place left (next_of form place left)

abbrev pub after_form : List Vip → List ℕ → Result Form CaptureFault → Captured
after_form vips octets (Ok form) = records_from form vips most_records first_place (drop 24 octets)
after_form vips octets (Err e) = Err e

-- the capture that these octets are, for these services
unfoldable pub capture : List Vip → List ℕ → Captured
capture vips octets = after_form vips octets (form_of octets)
