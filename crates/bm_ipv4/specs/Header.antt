-- The header of an IPv4 packet (RFC 791, section 3.1), as a function of the octets.
use Rattle.std.specs.Prelude.{ℕ, ◌-◌, ◌*◌, ◌/◌, ◌%◌, ◌^◌, List, length, take, drop, Bool, not, ◌&&◌}
use Rattle.std.specs.Prelude.{◌||◌, nat_lt, ◌==◌, if◌then◌else◌, Result, Ok, Err}
use Rattle.bm_ipv4.specs.Fields.{octet_at, u16_at, u32_at}
use Rattle.bm_ipv4.specs.declared.fault.Ipv4Fault.{Ipv4Fault}
use Rattle.bm_ipv4.specs.declared.fault.Ipv4Fault.TheVariants.{Short, NotVersion4, BadHeaderLength}
use Rattle.bm_ipv4.specs.declared.fault.Ipv4Fault.TheVariants.{BadTotalLength}

-- the high half of octet 0
abbrev pub version : List ℕ → ℕ
version octets = octet_at octets 0 / 16

-- IHL, the low half of octet 0, counts words of four octets
abbrev pub header_length : List ℕ → ℕ
header_length octets = 4 * (octet_at octets 0 % 16)

abbrev pub total_length : List ℕ → ℕ
total_length octets = u16_at octets 2

-- MF is the lowest of the three flags above the 13 bits of the offset
abbrev pub more_fragments : List ℕ → Bool
more_fragments octets = u16_at octets 6 / 2 ^ 13 % 2 == 1

abbrev pub fragment_offset : List ℕ → ℕ
fragment_offset octets = u16_at octets 6 % 2 ^ 13

-- What a packet's header says.
pub record Packet : Type 0 where
  pub packet : List ℕ
  pub payload : List ℕ
  pub stated_payload : ℕ
  pub is_fragment : Bool
  pub protocol : ℕ
  pub src : ℕ
  pub dst : ℕ

-- the octets, cut at the total length; a total length of 0 means all of them
abbrev pub cut : List ℕ → List ℕ
cut octets = if total_length octets == 0 then octets else take (total_length octets) octets

abbrev pub stated_length : List ℕ → ℕ
stated_length octets = if total_length octets == 0 then length octets else total_length octets

abbrev pub packet_of : List ℕ → Packet
packet_of octets = record {
  packet = cut octets;
  payload = drop (header_length octets) (cut octets);
  stated_payload = stated_length octets - header_length octets;
  is_fragment = more_fragments octets || not (fragment_offset octets == 0);
  protocol = octet_at octets 9;
  src = u32_at octets 12;
  dst = u32_at octets 16;
}

-- the first fault, else the packet
unfoldable pub ipv4_of : List ℕ → Result Packet Ipv4Fault
ipv4_of octets =
    if nat_lt (length octets) 20 then Err Short
    else if not (version octets == 4) then Err NotVersion4
    else if nat_lt (header_length octets) 20 then Err BadHeaderLength
    else if nat_lt (length octets) (header_length octets) then Err Short
    else if not (total_length octets == 0)
    && nat_lt (total_length octets) (header_length octets) then Err BadTotalLength
    else Ok (packet_of octets)
