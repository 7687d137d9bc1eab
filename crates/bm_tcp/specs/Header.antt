-- The header of a TCP segment (RFC 9293, section 3.1), as a function of the packet that carries it.
use Rattle.std.specs.Prelude.{ℕ, ◌+◌, ◌-◌, ◌*◌, ◌/◌, List, length, drop, ◌||◌, nat_lt, bit_and}
use Rattle.std.specs.Prelude.{if◌then◌else◌, Result, Ok, Err}
use Rattle.bm_base.specs.declared.flow.Flow.{Flow}
use Rattle.bm_base.specs.declared.flow.Segment.{Segment}
use Rattle.bm_base.specs.Segments.{FIN, SYN}
use Rattle.bm_ipv4.specs.Fields.{octet_at, u16_at, u32_at}
use Rattle.bm_ipv4.specs.Header.{Packet}
use Rattle.bm_tcp.specs.declared.fault.TcpFault.{TcpFault}
use Rattle.bm_tcp.specs.declared.fault.TcpFault.TheVariants.{Short, BadOffset}

-- the data offset, the high half of octet 12, counts words of four octets
abbrev pub data_offset : List ℕ → ℕ
data_offset octets = 4 * (octet_at octets 12 / 16)

abbrev pub flags_of : List ℕ → ℕ
flags_of octets = octet_at octets 13

-- 1 where the flag is set
abbrev pub count_of : ℕ → ℕ → ℕ
count_of flag flags = if nat_lt 0 (bit_and flags flag) then 1 else 0

-- SEG.LEN: the data octets that the packet states, one for SYN and one for FIN
abbrev pub segment_length : Packet → ℕ
segment_length p =
    p.stated_payload - data_offset p.payload + count_of SYN (flags_of p.payload) + count_of FIN
    (flags_of p.payload)

abbrev pub flow_of : Packet → Flow
flow_of p =
    record { src = p.src; dst = p.dst; sport = u16_at p.payload 0; dport = u16_at p.payload 2 }

abbrev pub segment_of : Packet → Segment
segment_of p = record {
  flow = flow_of p;
  seq = u32_at p.payload 4;
  ack = u32_at p.payload 8;
  len = segment_length p;
  flags = flags_of p.payload;
}

-- the octets after the header that are there, which may be fewer than are stated
abbrev pub data_of : Packet → List ℕ
data_of p = drop (data_offset p.payload) p.payload

-- the first fault, else the segment
unfoldable pub tcp_of : Packet → Result Segment TcpFault
tcp_of p =
    if nat_lt (length p.payload) 20 then Err Short
    else if nat_lt (data_offset p.payload) 20
    || nat_lt p.stated_payload (data_offset p.payload) then Err BadOffset
    else Ok (segment_of p)
