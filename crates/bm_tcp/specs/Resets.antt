-- The reset that answers a segment (RFC 9293, section 3.5.2), and its octets.
use Rattle.std.specs.Prelude.{ℕ, ◌+◌, ◌%◌, ◌^◌, bit_or, List, [], ◌∷◌, ◌++◌, Option, Some, None}
use Rattle.std.specs.Prelude.{if◌then◌else◌}
use Rattle.std.specs.Int.{to_be_bytes, w16, w32}
use Rattle.bm_base.specs.declared.flow.Flow.{Flow}
use Rattle.bm_base.specs.declared.flow.Segment.{Segment}
use Rattle.bm_base.specs.Segments.{has_flag, ACK, RST}
use Rattle.bm_ipv4.specs.Checksum.{checksum_of}

-- the same connection, seen from its other end
abbrev pub reversed : Flow → Flow
reversed f = record { src = f.dst; dst = f.src; sport = f.dport; dport = f.sport }

-- <SEQ=SEG.ACK><CTL=RST> where the segment has ACK, else <SEQ=0><ACK=SEG.SEQ+SEG.LEN><CTL=RST,ACK>
unfoldable pub reset_of : Segment → Segment
reset_of s =
    if has_flag ACK s
    then record { flow = reversed s.flow; seq = s.ack; ack = 0; len = 0; flags = RST }
    else record {
      flow =
          reversed s.flow;
      seq = 0;
      ack = (s.seq + s.len) % 2 ^ 32;
      len = 0;
      flags = bit_or RST ACK;
    }

-- The IPv4 header with this checksum (RFC 791, section 3.1): version 4, five words, type of service
-- 0, 40 octets, identification 0, don't fragment, time to live 64, protocol 6.
unfoldable pub ip_header : ℕ → Flow → List ℕ
ip_header sum f =
    0x45 ∷ 0 ∷ 0 ∷ 40 ∷ 0 ∷ 0 ∷ 0x40 ∷ 0 ∷ 64 ∷ 6 ∷ [] ++ to_be_bytes w16 sum
    ++ to_be_bytes w32 f.src ++ to_be_bytes w32 f.dst

-- The TCP header with this checksum (RFC 9293, section 3.1): five words, window 0, urgent pointer
-- 0.
unfoldable pub tcp_header : ℕ → Segment → List ℕ
tcp_header sum s =
    to_be_bytes w16 s.flow.sport ++ to_be_bytes w16 s.flow.dport ++ to_be_bytes w32 s.seq
    ++ to_be_bytes w32 s.ack
    ++ 0x50 ∷ s.flags ∷ 0 ∷ 0 ∷ [] ++ to_be_bytes w16 sum ++ 0 ∷ 0 ∷ []

-- what comes before the TCP octets in their checksum: the addresses, a zero, the protocol, the
-- length
unfoldable pub pseudo_header : Flow → List ℕ
pseudo_header f = to_be_bytes w32 f.src ++ to_be_bytes w32 f.dst ++ 0 ∷ 6 ∷ 0 ∷ 20 ∷ []

-- a segment without data as a packet with both checksums, each computed with zero in its place
unfoldable pub packet_of : Segment → List ℕ
packet_of s =
    ip_header (checksum_of (ip_header 0 s.flow)) s.flow
    ++ tcp_header (checksum_of (pseudo_header s.flow ++ tcp_header 0 s)) s

-- a reset isn't answered
unfoldable pub reset_packet : Segment → Option (List ℕ)
reset_packet s = if has_flag RST s then None else Some (packet_of (reset_of s))
