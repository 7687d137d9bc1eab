-- The packets read as their segments.
use Rattle.std.proofs.Common.{◌≡◌, ℕ, ◌+◌, ◌*◌, ◌^◌, ◌/◌, ◌%◌, ◌<◌, ◌≤◌, length, refl, subst, arith}
use Rattle.bm_ipv4.specs.Fields.{u16_at, u32_at}
use Rattle.bm_ipv4.specs.Header.{ipv4_of}
use Rattle.bm_load.specs.declared.packets.Round.{Round}
use Rattle.bm_load.specs.Load.{headers_from, packet_from, round_at, segment_from}
use Rattle.bm_load.proofs.Rounds.{opening, first, second, last, each_round}
use Rattle.bm_tcp.specs.Header.{tcp_of}
use Rattle.bm_tcp.specs.Packets.{ReadsAs}

-- the packet is the segment's where its port is made of two octets
abbrev Reads : ℕ → Round → Type 0
Reads port round =
    (port / 256 ^ 1 % 256 * 256 ^ 1 + (port % 256 * 256 ^ 0 + 0) ≡ port)
    → (length (packet_from round port) ≤ 65479) × ReadsAs (packet_from round port) (segment_from round port)

-- the same, with the port as it is read
abbrev ReadsWith : ℕ → Round → Type 0
ReadsWith port round =
    (length (packet_from round port) ≤ 65479)
    × ReadsAs (packet_from round port)
    (segment_from round (port / 256 ^ 1 % 256 * 256 ^ 1 + (port % 256 * 256 ^ 0 + 0)))

opening_reads : (port : ℕ) → ReadsWith port opening
unfolding headers_from ipv4_of tcp_of u16_at u32_at
opening_reads port = (omega arith, refl)

first_reads : (port : ℕ) → ReadsWith port first
unfolding headers_from ipv4_of tcp_of u16_at u32_at
first_reads port = (omega arith, refl)

second_reads : (port : ℕ) → ReadsWith port second
unfolding headers_from ipv4_of tcp_of u16_at u32_at
second_reads port = (omega arith, refl)

last_reads : (port : ℕ) → ReadsWith port last
unfolding headers_from ipv4_of tcp_of u16_at u32_at
last_reads port = (omega arith, refl)

with_port : (port : ℕ) (round : Round) → ReadsWith port round → Reads port round
with_port port round reads is =
    subst (λ p. (length (packet_from round port) ≤ 65479) × ReadsAs (packet_from round port) (segment_from round p)) is
    reads

pub reads : (r port : ℕ) → port < 65536
    → (length (packet_from (round_at r) port) ≤ 65479)
    × ReadsAs (packet_from (round_at r) port) (segment_from (round_at r) port)
reads r port short =
    each_round (Reads port) (with_port port opening (opening_reads port)) (with_port port first (first_reads port))
    (with_port port second (second_reads port)) (with_port port last (last_reads port)) r (omega arith)
