-- A packet is no longer than the octets at whose front it stands.
use Rattle.std.proofs.Common.{◌≡◌, ℕ, ◌≤◌, ◌==◌, Bool, true, false, cond, List, length, take}
use Rattle.std.proofs.Common.{Result, Ok, Err, nat_lt, not, ◌&&◌, ap, subst, arith, length-take, length-drop}
use Rattle.bm_ipv4.specs.declared.fault.Ipv4Fault.{Ipv4Fault}
use Rattle.bm_ipv4.specs.declared.fault.Ipv4Fault.TheVariants as fault
use Rattle.bm_ipv4.specs.Header.{Packet, ipv4_of, packet_of, total_length, header_length, version}
use Rattle.bm_tcp.specs.Header.{data_of}
use Rattle.bm_tcp.specs.Packets.{data_in}

abbrev ok_or : {A E : Type 0} → A → Result A E → A
ok_or d (Ok x) = x
ok_or d (Err e) = d

same_ok : {A E : Type 0} (x y : A) → ◌≡◌ {A = Result A E} (Ok x) (Ok y) → x ≡ y
same_ok x y h = ap (ok_or x) h

not_err : {A E : Type 0} (b : Bool) (e : E) (x : Result A E) (y : A) → cond b (Err e) x ≡ Ok y → x ≡ Ok y
not_err true e x y h = absurd (cc)
not_err false e x y h = h

cut_within : (b : Bool) (octets : List ℕ)
    → length (cond b octets (take (total_length octets) octets)) ≤ length octets
cut_within true octets = omega arith
cut_within false octets = omega (arith, length-take (total_length octets) octets)

-- what was read is the packet that the header states
read_is : (octets : List ℕ) (p : Packet) → ipv4_of octets ≡ Ok p → packet_of octets ≡ p
unfolding ipv4_of
read_is octets p is =
    let short = not_err (nat_lt (length octets) 20) fault.Short _ p is in
    let version4 = not_err (not (version octets == 4)) fault.NotVersion4 _ p short in
    let header = not_err (nat_lt (header_length octets) 20) fault.BadHeaderLength _ p version4 in
    let there = not_err (nat_lt (length octets) (header_length octets)) fault.Short _ p header in
    let read : ◌≡◌ {A = Result Packet Ipv4Fault} (Ok (packet_of octets)) (Ok p) =
    not_err (not (total_length octets == 0) && nat_lt (total_length octets) (header_length octets))
    fault.BadTotalLength _ p there in
    same_ok (packet_of octets) p read

pub packet_within : (octets : List ℕ) (p : Packet) → ipv4_of octets ≡ Ok p → length p.packet ≤ length octets
packet_within octets p is =
    subst (λ (q : Packet). length q.packet ≤ length octets) (read_is octets p is)
    (cut_within (total_length octets == 0) octets)

-- there are at most as many data as octets
pub data_within : (octets : List ℕ) (p : Packet) → ipv4_of octets ≡ Ok p → length (data_of p) ≤ length octets
data_within octets p is =
    subst (λ (q : Packet). length (data_of q) ≤ length octets) (read_is octets p is)
    (let cut : length (packet_of octets).packet ≤ length octets = cut_within (total_length octets == 0) octets in
    simp length-drop (omega arith))
