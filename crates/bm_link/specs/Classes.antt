-- What a record contains: a segment to be steered, or the first reason against it.
use Rattle.std.specs.Prelude.{ℕ, List, [], length, Bool, not, ◌&&◌, nat_lt, ◌==◌, if◌then◌else◌}
use Rattle.std.specs.Prelude.{Result, Ok, Err}
use Rattle.std.specs.List.{list_any}
use Rattle.bm_base.specs.declared.capture.Body.{Body}
use Rattle.bm_base.specs.declared.capture.Body.TheVariants.{Steerable, Unsteered}
use Rattle.bm_base.specs.declared.capture.Reason.{Reason}
use Rattle.bm_base.specs.declared.capture.Reason.TheVariants as reason
use Rattle.bm_base.specs.declared.capture.Vip.{Vip}
use Rattle.bm_base.specs.declared.flow.Flow.{Flow}
use Rattle.bm_base.specs.declared.flow.Segment.{Segment}
use Rattle.bm_ipv4.specs.declared.fault.Ipv4Fault.{Ipv4Fault}
use Rattle.bm_ipv4.specs.declared.fault.Ipv4Fault.TheVariants as ipv4
use Rattle.bm_tcp.specs.declared.fault.TcpFault.{TcpFault}
use Rattle.bm_tcp.specs.declared.fault.TcpFault.TheVariants as tcp
use Rattle.bm_tcp.specs.declared.packet.InnerFault.{InnerFault}
use Rattle.bm_tcp.specs.declared.packet.InnerFault.TheVariants as inner
use Rattle.bm_tcp.specs.Packets.{segment_in}
use Rattle.bm_link.specs.declared.fault.LinkFault.{LinkFault}
use Rattle.bm_link.specs.declared.fault.LinkFault.TheVariants as link
use Rattle.bm_link.specs.Links.{network_of}

abbrev pub link_reason : LinkFault → Reason
link_reason link.Short = reason.ShortLink
link_reason link.NotIpv4 = reason.NotIpv4

abbrev pub ipv4_reason : Ipv4Fault → Reason
ipv4_reason ipv4.Short = reason.ShortIp
ipv4_reason ipv4.NotVersion4 = reason.NotVersion4
ipv4_reason ipv4.BadHeaderLength = reason.BadHeaderLength
ipv4_reason ipv4.BadTotalLength = reason.BadTotalLength

abbrev pub tcp_reason : TcpFault → Reason
tcp_reason tcp.Short = reason.ShortTcp
tcp_reason tcp.BadOffset = reason.BadOffset

abbrev pub packet_reason : InnerFault → Reason
packet_reason (inner.Ipv4 e) = ipv4_reason e
packet_reason inner.Fragment = reason.Fragment
packet_reason inner.NotTcp = reason.NotTcp
packet_reason (inner.Tcp e) = tcp_reason e

-- the flow goes to one of the services
abbrev pub goes_to : List Vip → Flow → Bool
goes_to vips f = list_any (λ v. v.addr == f.dst && v.port == f.dport) vips

-- a record that isn't steered has no packet
abbrev pub unsteered : Reason → Body × List ℕ
unsteered r = (Unsteered r, [])

-- With a carrier header of 56 octets, a packet of more than 65,479 octets would pass 65,535.
abbrev pub of_segment : List Vip → Result (Segment × List ℕ) InnerFault → Body × List ℕ
of_segment vips (Err e) = unsteered (packet_reason e)
of_segment vips (Ok read) =
    if not (goes_to vips read.0.flow) then unsteered reason.OtherDestination
    else if nat_lt 65479 (length read.1) then unsteered reason.TooLong
    else (Steerable read.0, read.1)

abbrev pub of_part : List Vip → Result (List ℕ) LinkFault → Body × List ℕ
of_part vips (Err e) = unsteered (link_reason e)
of_part vips (Ok part) = of_segment vips (segment_in part)

-- what a record with these octets contains, and its packet
unfoldable pub classified : ℕ → List Vip → List ℕ → Body × List ℕ
classified link vips octets = of_part vips (network_of link octets)
