-- What a capture of the pcapng form means: its first fault in order of place, or its records, and
-- which one is cut short.
use Rattle.std.specs.Prelude.{ℕ, zero, suc, List, [], length, take, drop, not, ◌||◌, nat_lt}
use Rattle.std.specs.Prelude.{if◌then◌else◌, Option, Some, None, Result, Ok, Err}
use Rattle.bm_base.specs.declared.capture.Body.{Body}
use Rattle.bm_base.specs.declared.capture.Reason.TheVariants.{NotIpv4}
use Rattle.bm_base.specs.declared.capture.Vip.{Vip}
use Rattle.bm_link.specs.Classes.{classified, unsteered}
use Rattle.bm_link.specs.Links.{is_link}
use Rattle.bm_pcap.specs.Capture.{Captured, ends, with_record}
use Rattle.bm_pcap.specs.declared.form.Order.{Order}
use Rattle.bm_pcap.specs.Limits.{most_octets}
use Rattle.bm_pcapng.specs.declared.content.Content.{Content}
use Rattle.bm_pcapng.specs.declared.content.Content.TheVariants.{Holds}
use Rattle.bm_pcapng.specs.declared.content.Packet.{Packet}
use Rattle.bm_pcap.specs.declared.fault.CaptureFault.{CaptureFault}
use Rattle.bm_pcap.specs.declared.fault.CaptureFault.TheVariants.{NotACapture, TooLarge}
use Rattle.bm_pcapng.specs.declared.interface.Interface.{Interface}
use Rattle.bm_pcapng.specs.declared.place.Place.{Place}
use Rattle.bm_pcapng.specs.declared.step.Step.{Step}
use Rattle.bm_pcapng.specs.declared.step.Step.TheVariants.{Block, Cut, End}
use Rattle.bm_pcapng.specs.Blocks.{is_section, magic_of, next_of}
use Rattle.bm_pcapng.specs.Places.{first_place, interfaces_after, moment_at, order_after}
use Rattle.bm_pcapng.specs.Places.{place_after}

-- A record of an unsupported link type is not IPv4.
abbrev pub classified_by : ℕ → List Vip → List ℕ → Body × List ℕ
classified_by link vips octets =
    if is_link link then classified link vips octets else unsteered NotIpv4

-- the octets of a packet, whose block is at the front
abbrev pub packet_octets : Packet → List ℕ → List ℕ
packet_octets packet left = take packet.len (drop packet.at left)

-- what a block adds to the records after it
abbrev pub with_block : List Vip → Place → List ℕ → Content → Captured → Captured
with_block vips place left (Holds packet) others =
    let class = classified_by packet.link vips (packet_octets packet left) in
    with_record (record { moment = moment_at place packet.time; body = class.0 }) class.1 others
with_block vips place left other others = others

-- what was found at a place, followed by the blocks after it
abbrev pub after_found : List Vip → (Order → List Interface → Place → List ℕ → Captured) → Order
    → List Interface → Place → List ℕ → Result Step CaptureFault → Captured
after_found vips others order interfaces place left (Ok (Block n content)) =
    with_block vips place left content
    (others (order_after order content) (interfaces_after interfaces content)
    (place_after place n content) (drop n left))
after_found vips others order interfaces place left (Ok Cut) = ends (Some place.number)
after_found vips others order interfaces place left (Ok End) = ends None
after_found vips others order interfaces place left (Err e) = Err e

-- The records from a place on, where at most this many blocks may follow the next one.
unfoldable pub records_from : List Vip → ℕ → Order → List Interface → Place → List ℕ → Captured
records_from vips zero order interfaces place left =
    after_found vips (λ _ _ _ _. Err TooLarge) order interfaces place left
    (next_of order interfaces place left)
records_from vips (suc more) order interfaces place left =
    after_found vips (records_from vips more) order interfaces place left
    (next_of order interfaces place left)

-- A capture begins with a section header, whose first twelve octets give an order.
unfoldable pub first_order : List ℕ → Option Order
first_order octets =
    if nat_lt (length octets) 12 || not (is_section (take 4 octets)) then None
    else magic_of (take 12 octets)

-- A block has more than one octet, so there are fewer blocks than octets.
abbrev pub begun : List Vip → List ℕ → Option Order → Captured
begun vips octets None = Err NotACapture
begun vips octets (Some order) = records_from vips most_octets order [] first_place octets

-- the capture that these octets are, for these services
unfoldable pub capture : List Vip → List ℕ → Captured
capture vips octets = begun vips octets (first_order octets)
