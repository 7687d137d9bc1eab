-- The kinds of TCP segments, by their flags (RFC 9293, section 3.1).
use Rattle.std.specs.Prelude.{ℕ, Bool, ◌&&◌, not, nat_lt, ◌==◌, bit_and}
use Rattle.bm_base.specs.declared.flow.Flow.{Flow}
use Rattle.bm_base.specs.declared.flow.Segment.{Segment}

-- four of the flags in octet 13 of the header
abbrev pub FIN : ℕ
FIN = 0x01

abbrev pub SYN : ℕ
SYN = 0x02

abbrev pub RST : ℕ
RST = 0x04

abbrev pub ACK : ℕ
ACK = 0x10

-- this flag is set
unfoldable pub has_flag : ℕ → Segment → Bool
has_flag flag s = nat_lt 0 (bit_and s.flags flag)

-- SYN is set, and ACK, RST and FIN aren't: the first segment of a connection
unfoldable pub is_opening : Segment → Bool
is_opening s =
    has_flag SYN s && not (has_flag ACK s) && not (has_flag RST s) && not (has_flag FIN s)

-- the same addresses and ports
abbrev pub same_flow : Flow → Flow → Bool
same_flow a b = a.src == b.src && a.dst == b.dst && a.sport == b.sport && a.dport == b.dport
