-- The header of a capture in the classic pcap format: 24 octets, the numbers in its writer's order.
use Rattle.std.specs.Prelude.{ℕ, ◌%◌, ◌^◌, List, length, take, drop, Bool, not, ◌&&◌, nat_lt, ◌==◌}
use Rattle.std.specs.Prelude.{if◌then◌else◌, Option, Some, None, Result, Ok, Err}
use Rattle.byteorder.specs.Endian.{big_number, little_number}
use Rattle.bm_link.specs.Links.{is_link}
use Rattle.bm_pcap.specs.declared.fault.CaptureFault.{CaptureFault}
use Rattle.bm_pcap.specs.declared.fault.CaptureFault.TheVariants.{NotACapture, BadVersion, BadLink}
use Rattle.bm_pcap.specs.declared.form.Form.{Form}
use Rattle.bm_pcap.specs.declared.form.Order.{Order}
use Rattle.bm_pcap.specs.declared.form.Order.TheVariants.{Big, Little}
use Rattle.bm_pcap.specs.declared.form.Unit.{Unit as Unit_of_time}
use Rattle.bm_pcap.specs.declared.form.Unit.TheVariants.{Microsecond, Nanosecond}

-- the number in `size` octets from this place on, in this order
unfoldable pub number_at : Order → ℕ → ℕ → List ℕ → ℕ
number_at Big size at octets = big_number size (drop at octets)
number_at Little size at octets = little_number size (drop at octets)

abbrev pub nanoseconds_in : Unit_of_time → ℕ
nanoseconds_in Microsecond = 1000
nanoseconds_in Nanosecond = 1

-- The magic number, octets 0 to 3, gives the order, and the unit of fractions of a second. It is
-- read big endian here, so it is reversed where the order is little endian.
abbrev pub magic_of : List ℕ → Option (Order × Unit_of_time)
magic_of octets =
    if number_at Big 4 0 octets == 0xa1b2c3d4 then Some (Big, Microsecond)
    else if number_at Big 4 0 octets == 0xd4c3b2a1 then Some (Little, Microsecond)
    else if number_at Big 4 0 octets == 0xa1b23c4d then Some (Big, Nanosecond)
    else if number_at Big 4 0 octets == 0x4d3cb2a1 then Some (Little, Nanosecond)
    else None

-- the version, octets 4 to 7, is 2.4
abbrev pub is_version : Order → List ℕ → Bool
is_version order octets = number_at order 2 4 octets == 2 && number_at order 2 6 octets == 4

-- the link type, the low 16 bits of octets 20 to 23
abbrev pub link_of : Order → List ℕ → ℕ
link_of order octets = number_at order 4 20 octets % 2 ^ 16

-- the rest of the header, after the magic number
abbrev pub form_by : Option (Order × Unit_of_time) → List ℕ → Result Form CaptureFault
form_by None header = Err NotACapture
form_by (Some magic) header =
    if not (is_version magic.0 header) then Err BadVersion
    else if not (is_link (link_of magic.0 header)) then Err (BadLink (link_of magic.0 header))
    else Ok (record { order = magic.0; unit = magic.1; link = link_of magic.0 header })

-- what the header says, or the first fault in it
unfoldable pub form_of : List ℕ → Result Form CaptureFault
form_of octets =
    if nat_lt (length octets) 24 then Err NotACapture
    else form_by (magic_of (take 4 octets)) (take 24 octets)
