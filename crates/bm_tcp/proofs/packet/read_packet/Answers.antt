use Rattle.std.proofs.Common.{◌≡◌, ◌∙◌, ◌≤◌, ℕ, false, List, length, sym, subst, arith}
use Rattle.bm_ipv4.proofs.Again.{ipv4_again}
use Rattle.bm_tcp.specs.Packets.{ReadsAs}
use Rattle.bm_tcp.proofs.Again.{reads_again}
use Rattle.bm_tcp.proofs.Within.{packet_within}
use Rattle.bm_tcp.proofs.packet.read_packet.Goals as goal

pub returns-in-Ok-read_tcp-clause-reads : goal.returns-in-Ok-read_tcp-clause-reads
returns-in-Ok-read_tcp-clause-reads c =
    let view = c.in-Ok.view in
    let whole : view.is_fragment ≡ false = sym c.is_fragment.ensures ∙ c.if-is_fragment.false in
    let tcp : view.protocol ≡ 6 = omega arith in
    let again = ipv4_again c.args.octets.now view (sym c.in-Ok.ensures) in
    subst (λ (octets : List ℕ). ReadsAs octets c.in-Ok-read_tcp.segment) (sym c.packet.ensures)
    (reads_again view c.in-Ok-read_tcp.segment again whole tcp (sym c.in-Ok-read_tcp.ensures.segment))

pub returns-in-Ok-read_tcp-clause-within : goal.returns-in-Ok-read_tcp-clause-within
returns-in-Ok-read_tcp-clause-within c =
    subst (λ (octets : List ℕ). length octets ≤ length c.args.octets.now) (sym c.packet.ensures)
    (packet_within c.args.octets.now c.in-Ok.view (sym c.in-Ok.ensures))
