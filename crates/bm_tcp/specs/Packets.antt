-- The TCP segment that the octets of an IPv4 packet carry (RFC 791, section 3.1; RFC 9293, section
-- 3.1).
use Rattle.std.specs.Prelude.{◌≡◌, ℕ, List, [], not, ◌==◌, if◌then◌else◌, Result, Ok, Err}
use Rattle.bm_base.specs.declared.flow.Segment.{Segment}
use Rattle.bm_ipv4.specs.declared.fault.Ipv4Fault.{Ipv4Fault}
use Rattle.bm_ipv4.specs.Header.{Packet, ipv4_of}
use Rattle.bm_tcp.specs.declared.fault.TcpFault.{TcpFault}
use Rattle.bm_tcp.specs.declared.packet.InnerFault.{InnerFault}
use Rattle.bm_tcp.specs.declared.packet.InnerFault.TheVariants as fault
use Rattle.bm_tcp.specs.Header.{data_of, tcp_of}

-- the segment, and the packet without what follows it
abbrev pub with_packet : List ℕ → Result Segment TcpFault → Result (Segment × List ℕ) InnerFault
with_packet packet (Err e) = Err (fault.Tcp e)
with_packet packet (Ok s) = Ok (s, packet)

abbrev pub of_header : Result Packet Ipv4Fault → Result (Segment × List ℕ) InnerFault
of_header (Err e) = Err (fault.Ipv4 e)
of_header (Ok p) =
    if p.is_fragment then Err fault.Fragment
    else if not (p.protocol == 6) then Err fault.NotTcp
    else with_packet p.packet (tcp_of p)

-- the TCP segment of the packet at the front of these octets, and the packet, or the first fault
abbrev pub segment_in : List ℕ → Result (Segment × List ℕ) InnerFault
segment_in octets = of_header (ipv4_of octets)

-- the octets are the packet of this segment, and nothing follows it
abbrev pub ReadsAs : List ℕ → Segment → Type 0
ReadsAs packet s = segment_in packet ≡ Ok (s, packet)

-- the data octets, where there is a header
abbrev pub data_after : Result Packet Ipv4Fault → List ℕ
data_after (Err e) = []
data_after (Ok p) = data_of p

-- the data octets of the TCP segment in the packet at the front of these octets, as far as they are
-- there
abbrev pub data_in : List ℕ → List ℕ
data_in octets = data_after (ipv4_of octets)
