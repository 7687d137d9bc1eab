-- A packet that was read, without what follows it, reads as its segment again.
use Rattle.std.proofs.Common.{◌≡◌, ◌∙◌, ◌==◌, not, Bool, true, false, cond, Result, Ok, refl, ap, ℕ}
use Rattle.bm_base.specs.declared.flow.Segment.{Segment}
use Rattle.bm_ipv4.specs.Header.{Packet, ipv4_of}
use Rattle.bm_tcp.specs.declared.fault.TcpFault.{TcpFault}
use Rattle.bm_tcp.specs.Header.{tcp_of}
use Rattle.bm_tcp.specs.Packets.{ReadsAs, of_header, with_packet}

neither : {A : Type 0} (a b : Bool) (x y z : A) → a ≡ false → b ≡ false → cond a x (cond b y z) ≡ z
neither true b x y z none other = absurd (cc)
neither false true x y z none other = absurd (cc)
neither false false x y z none other = refl

is_six : (n : ℕ) → n ≡ 6 → not (n == 6) ≡ false
is_six n is = rw is refl

pub reads_again : (p : Packet) (s : Segment) → ipv4_of p.packet ≡ Ok p → p.is_fragment ≡ false → p.protocol ≡ 6
    → tcp_of p ≡ Ok s → ReadsAs p.packet s
reads_again p s again whole tcp read =
    ap of_header again
    ∙ (neither p.is_fragment (not (p.protocol == 6)) _ _ _ whole (is_six p.protocol tcp)
    ∙ ap (λ (r : Result Segment TcpFault). with_packet p.packet r) read)
