-- The first fault of octets that aren't a carrier header with a packet, and otherwise what they
-- say.
use Rattle.std.specs.Prelude.{ℕ, ◌+◌, ◌-◌, Bool, false, not, ◌||◌, ◌==◌, nat_lt, if◌then◌else◌, List, []}
use Rattle.std.specs.Prelude.{◌∷◌, length, take, drop, slice_set, Option, Some, None, is_none}
use Rattle.std.specs.Prelude.{Result, Ok, Err}
use Rattle.byteorder.specs.Endian.{big_number}
use Rattle.bm_base.specs.declared.ids.ServerId.{ServerId}
use Rattle.bm_base.specs.declared.label.Hop.{Hop}
use Rattle.bm_base.specs.declared.label.Hop.TheVariants.{Direct, Chained, Twice}
use Rattle.bm_base.specs.declared.label.Past.{Past}
use Rattle.bm_base.specs.declared.label.Tag.{Tag}
use Rattle.bm_ipv4.specs.Checksum.{checksum_of}
use Rattle.bm_ipv4.specs.Fields.{octet_at, u16_at, u32_at}
use Rattle.bm_base.specs.Labels.{entry_of, hop_after, onward}
use Rattle.bm_base.specs.Addresses.{mux_address, mux_at, server_at}
use Rattle.bm_encap.specs.Spellings.{header_length, spelling}
use Rattle.bm_encap.specs.declared.fault.EncapFault.{EncapFault}
use Rattle.bm_encap.specs.declared.fault.EncapFault.TheVariants.{Short, BadOuter, BadSum, BadOption}
use Rattle.bm_encap.specs.declared.fault.EncapFault.TheVariants.{BadLength}

-- the number in the eight octets from this place on
unfoldable pub u64_at : List ℕ → ℕ → ℕ
u64_at octets at = big_number 8 (drop at octets)

-- the header with its checksum as zero
abbrev pub without_sum : List ℕ → List ℕ
without_sum octets = slice_set (slice_set (take header_length octets) 10 0) 11 0

-- FAULTS

-- the first that is there
abbrev pub first_fault : List (Option EncapFault) → Option EncapFault
first_fault [] = None
first_fault (None ∷ faults) = first_fault faults
first_fault (Some fault ∷ faults) = Some fault

-- the fault, if it holds
abbrev pub fault_when : Bool → EncapFault → Option EncapFault
fault_when stands fault = if stands then Some fault else None

-- the fault at the first of these places that has another octet
unfoldable pub differing : List ℕ → (ℕ → EncapFault) → List (ℕ × ℕ) → Option EncapFault
differing octets fault [] = None
differing octets fault (p ∷ fixed) =
    if octet_at octets p.0 == p.1 then differing octets fault fixed else Some (fault p.0)

-- octets of the outer header that are always the same, by their places
abbrev pub outer_octets : List (ℕ × ℕ)
outer_octets =
    (0, 0x4e) ∷ (1, 0x00) ∷ (4, 0x00) ∷ (5, 0x00) ∷ (6, 0x40) ∷ (7, 0x00) ∷ (8, 0x40) ∷ (9, 0x04)
    ∷ []

unfoldable pub outer_fault : List ℕ → Option EncapFault
outer_fault octets = first_fault (
    differing octets BadOuter outer_octets
    ∷ fault_when (is_none (mux_at (u32_at octets 12))) (BadOuter 12)
    ∷ fault_when (is_none (server_at (u32_at octets 16))) (BadOuter 16)
    ∷ [])

-- the type and the length of the option, by their places
abbrev pub option_octets : List (ℕ × ℕ)
option_octets = (20, 0x9e) ∷ (21, 0x24) ∷ []

-- the hop that octet 22 gives, if it is 0, 1 or 2
abbrev pub hop_of : ℕ → Hop
hop_of octet = if octet == 0 then Direct else if octet == 1 then Chained else Twice

-- the number of previous servers is above 2, or less than how many servers back the copy has gone
abbrev pub bad_count : List ℕ → Bool
bad_count octets = nat_lt 2 (octet_at octets 23) || nat_lt (octet_at octets 23) (octet_at octets 22)

-- there is a previous server
abbrev pub has_prev : List ℕ → Bool
has_prev octets = nat_lt 0 (octet_at octets 23)

-- there is one before the previous server too
abbrev pub has_older : List ℕ → Bool
has_older octets = nat_lt 1 (octet_at octets 23)

-- the previous server's address is wrong for the destination: the same in a direct packet, another
-- in a chained one
abbrev pub is_prev_wrong : Hop → ℕ → ℕ → Bool
is_prev_wrong Direct addr dest = addr == dest
is_prev_wrong Chained addr dest = not (addr == dest)
is_prev_wrong Twice addr dest = false

-- the older server's address is the previous one's, or in a twice-chained packet isn't the
-- destination's
abbrev pub is_older_wrong : Hop → ℕ → ℕ → ℕ → Bool
is_older_wrong Twice addr prev dest = addr == prev || not (addr == dest)
is_older_wrong hop addr prev dest = addr == prev

-- if there is a server, an address that is no server's or is wrong; if there is none, one that
-- isn't zero
abbrev pub bad_address : Bool → ℕ → Bool → Bool
bad_address there addr wrong = if there then is_none (server_at addr) || wrong else not (addr == 0)

-- a stamp that isn't zero, though there is no server
abbrev pub bad_stamp : Bool → ℕ → Bool
bad_stamp there stamp = if there then false else not (stamp == 0)

-- the fault of the address and the stamp at a place
unfoldable pub past_fault : List ℕ → ℕ → Bool → Bool → Option EncapFault
past_fault octets at there wrong = first_fault (
    fault_when (bad_address there (u32_at octets at) wrong) (BadOption at)
    ∷ fault_when (bad_stamp there (u64_at octets (at + 4))) (BadOption (at + 4))
    ∷ [])

abbrev pub prev_fault : List ℕ → Option EncapFault
prev_fault octets =
    past_fault octets 24 (has_prev octets)
    (is_prev_wrong (hop_of (octet_at octets 22)) (u32_at octets 24) (u32_at octets 16))

abbrev pub older_fault : List ℕ → Option EncapFault
older_fault octets =
    past_fault octets 36 (has_older octets)
    (is_older_wrong (hop_of (octet_at octets 22)) (u32_at octets 36) (u32_at octets 24) (u32_at octets 16))

unfoldable pub option_fault : List ℕ → Option EncapFault
option_fault octets = first_fault (
    differing octets BadOption option_octets
    -- the hop is none of 0, 1 and 2
    ∷ fault_when (nat_lt 2 (octet_at octets 22)) (BadOption 22)
    ∷ fault_when (bad_count octets) (BadOption 23)
    ∷ prev_fault octets
    ∷ older_fault octets
    -- the mux isn't the source's
    ∷ fault_when (not (mux_address (record { 0 = u16_at octets 52 }) == u32_at octets 12))
    (BadOption 52)
    ∷ fault_when (not (u16_at octets 54 == 0)) (BadOption 54)
    ∷ [])

-- the first fault, in the order of these checks
abbrev pub encap_fault : List ℕ → Option EncapFault
encap_fault octets = first_fault (
    fault_when (nat_lt (length octets) header_length) Short
    ∷ outer_fault octets
    ∷ fault_when (not (checksum_of (without_sum octets) == u16_at octets 10)) BadSum
    ∷ option_fault octets
    ∷ fault_when (not (u16_at octets 2 == length octets)) BadLength
    ∷ [])

-- WHAT OCTETS WITHOUT A FAULT SAY

abbrev pub server_of_address : ℕ → ServerId
server_of_address addr = record { 0 = addr - 0xac10_0000 }

-- the server and the stamp at a place, if there is one
abbrev pub past_at : List ℕ → ℕ → Bool → Option Past
past_at octets at there =
    if there then Some (record {
      server = server_of_address (u32_at octets at);
      stamp = record { 0 = u64_at octets (at + 4) };
    })
    else None

abbrev pub tag_in : List ℕ → Tag
tag_in octets = record {
  hop = hop_of (octet_at octets 22);
  dest = server_of_address (u32_at octets 16);
  prev = past_at octets 24 (has_prev octets);
  older = past_at octets 36 (has_older octets);
  version = record { 0 = u32_at octets 48 };
  mux = record { 0 = u16_at octets 52 };
}

-- the first fault, or else the tag and the packet within
abbrev pub or_read : Option EncapFault → List ℕ → Result (Tag × List ℕ) EncapFault
or_read (Some fault) octets = Err fault
or_read None octets = Ok (tag_in octets, drop header_length octets)

unfoldable pub unwrapped : List ℕ → Result (Tag × List ℕ) EncapFault
unwrapped octets = or_read (encap_fault octets) octets

-- THE NEXT HOP

-- the tag of the next hop, to the server where a copy may be passed on, or why there is none
abbrev pub next_of : Option Hop → Option Past → Tag → Result Tag EncapFault
next_of None onto tag = Err (BadOption 22)
next_of (Some next) None tag = Err (BadOption 23)
next_of (Some next) (Some p) tag = Ok (record tag { hop = next; dest = p.server })

abbrev pub next_hop : Tag → Result Tag EncapFault
next_hop tag = next_of (hop_after tag.hop) (onward (entry_of tag) tag.hop) tag

-- the tag of the next hop of what was read, or its fault
abbrev pub next_from : Result (Tag × List ℕ) EncapFault → Result Tag EncapFault
next_from (Err fault) = Err fault
next_from (Ok read) = next_hop read.0

-- the tag of the next hop of these octets: the first fault, or else why there is no such hop, or
-- else the tag
abbrev pub next_in : List ℕ → Result Tag EncapFault
next_in octets = next_from (unwrapped octets)

-- the header of a tag before a packet, or the fault in the tag's place
abbrev pub spelling_of : Result Tag EncapFault → List ℕ → Result (List ℕ) EncapFault
spelling_of (Err fault) inner = Err fault
spelling_of (Ok tag) inner = Ok (spelling tag inner)

-- what was read with the header of the next hop, or its fault
abbrev pub chained_from : Result (Tag × List ℕ) EncapFault → Result (List ℕ) EncapFault
chained_from (Err fault) = Err fault
chained_from (Ok read) = spelling_of (next_hop read.0) read.1

-- the same packet with the header of the next hop: the first fault, or else why there is no such
-- hop, or else the octets
abbrev pub chained : List ℕ → Result (List ℕ) EncapFault
chained octets = chained_from (unwrapped octets)
