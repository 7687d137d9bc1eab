-- A packet that was cut at its total length reads as what it was cut from.
use Rattle.std.proofs.Common.{◌≡◌, ℕ, Bool, true, false, ◌+◌, ◌*◌, ◌^◌, ◌<◌, ◌≤◌, not, ◌&&◌, nat_lt, ◌==◌, List, length}
use Rattle.std.proofs.Common.{take, drop, get_or, Result, Ok, Err, refl, ap, ap₂, sym, subst, ◌∙◌, arith}
use Rattle.std.proofs.lemmas.Bool.Decides.{nat_tests}
use Rattle.std.proofs.lemmas.List.{get_or-take, get_or-drop, length-take, take_all}
use Rattle.std.specs.Prelude.{if◌then◌else◌}
use Rattle.bm_ipv4.specs.declared.fault.Ipv4Fault.{Ipv4Fault}
use Rattle.bm_ipv4.specs.declared.fault.Ipv4Fault.TheVariants.{Short, NotVersion4, BadHeaderLength, BadTotalLength}
use Rattle.bm_ipv4.specs.Fields.{octet_at, u16_at, u32_at}
use Rattle.bm_ipv4.specs.Header.{Packet, cut, header_length, ipv4_of, packet_of, total_length, version}

get_front : (n at i : ℕ) (xs : List ℕ) → at + i < n → get_or (drop at (take n xs)) i 0 ≡ get_or (drop at xs) i 0
get_front n at i xs within =
    get_or-drop at (take n xs) i 0 ∙ get_or-take n xs (at + i) 0 within ∙ sym (get_or-drop at xs i 0)

u16_front : (n at : ℕ) (xs : List ℕ) → at + 1 < n → u16_at (take n xs) at ≡ u16_at xs at
unfolding u16_at
u16_front n at xs within =
    ap₂ (λ a b. a * 256 ^ 1 + (b * 256 ^ 0 + 0)) (get_front n at 0 xs (omega arith)) (get_front n at 1 xs within)

u32_front : (n at : ℕ) (xs : List ℕ) → at + 3 < n → u32_at (take n xs) at ≡ u32_at xs at
unfolding u32_at
u32_front n at xs within =
    ap₂ (λ f g. f + g) (ap (λ a. a * 256 ^ 3) (get_front n at 0 xs (omega arith)))
    (ap₂ (λ f g. f + g) (ap (λ a. a * 256 ^ 2) (get_front n at 1 xs (omega arith)))
    (ap₂ (λ a b. a * 256 ^ 1 + (b * 256 ^ 0 + 0)) (get_front n at 2 xs (omega arith)) (get_front n at 3 xs within)))

-- what an answer of Ok says of a test before it
passed : {A : Type 0} (test : Bool) (e : Ipv4Fault) (rest : Result A Ipv4Fault) (a : A)
    → (if test then Err e else rest) ≡ Ok a → (test ≡ false) × (rest ≡ Ok a)
passed true e rest a is = absurd (cc)
passed false e rest a is = (refl, is)

take_again : (n : ℕ) (xs : List ℕ) → take n (take n xs) ≡ take n xs
take_again n xs = take_all n (take n xs) (omega (arith, length-take n xs))

-- octets without a fault are a packet
reads : (octets : List ℕ) → nat_lt (length octets) 20 ≡ false → not (version octets == 4) ≡ false
    → nat_lt (header_length octets) 20 ≡ false → nat_lt (length octets) (header_length octets) ≡ false
    → (not (total_length octets == 0) && nat_lt (total_length octets) (header_length octets)) ≡ false
    → ipv4_of octets ≡ Ok (packet_of octets)
unfolding ipv4_of
reads octets a b c d e = rw (a, b, c, d, e) refl

-- what a packet has of the octets that it is cut from
same_packet : (n : ℕ) (octets : List ℕ) → total_length octets ≡ n → (n == 0) ≡ false → 20 ≤ n
    → packet_of (take n octets) ≡ packet_of octets
same_packet n octets is some long =
    let first : octet_at (take n octets) 0 ≡ octet_at octets 0 = get_or-take n octets 0 0 (omega arith) in
    let total : u16_at (take n octets) 2 ≡ u16_at octets 2 = u16_front n 2 octets (omega arith) in
    let flags : u16_at (take n octets) 6 ≡ u16_at octets 6 = u16_front n 6 octets (omega arith) in
    let protocol : octet_at (take n octets) 9 ≡ octet_at octets 9 = get_or-take n octets 9 0 (omega arith) in
    let src : u32_at (take n octets) 12 ≡ u32_at octets 12 = u32_front n 12 octets (omega arith) in
    let dst : u32_at (take n octets) 16 ≡ u32_at octets 16 = u32_front n 16 octets (omega arith) in
    rw (first, total, flags, protocol, src, dst, is, some, take_again n octets) refl

again_at : (octets : List ℕ) (zero : Bool) → (total_length octets == 0) ≡ zero → nat_lt (length octets) 20 ≡ false
    → not (version octets == 4) ≡ false → nat_lt (header_length octets) 20 ≡ false
    → nat_lt (length octets) (header_length octets) ≡ false
    → (not (total_length octets == 0) && nat_lt (total_length octets) (header_length octets)) ≡ false
    → ipv4_of (cut octets) ≡ Ok (packet_of octets)
again_at octets true is a b c d e =
    let whole : cut octets ≡ octets = rw is refl in
    let P : List ℕ → Type 0 = λ x. ipv4_of x ≡ Ok (packet_of octets) in
    subst P (sym whole) (reads octets a b c d e)
again_at octets false is a b c d e =
    let few : nat_lt (total_length octets) (header_length octets) ≡ false = rw is at e in
    let wide : header_length octets ≤ total_length octets = grind (arith, nat_tests, few) in
    let head : 20 ≤ header_length octets = grind (arith, nat_tests, c) in
    let there : header_length octets ≤ length octets = grind (arith, nat_tests, d) in
    let long : 20 ≤ total_length octets = omega (arith, wide, head) in
    let first : octet_at (take (total_length octets) octets) 0 ≡ octet_at octets 0 =
    get_or-take (total_length octets) octets 0 0 (omega (arith, long)) in
    let total : u16_at (take (total_length octets) octets) 2 ≡ u16_at octets 2 =
    u16_front (total_length octets) 2 octets (omega (arith, long)) in
    let len : header_length octets ≤ length (take (total_length octets) octets) =
    omega (arith, length-take (total_length octets) octets, wide, there) in
    let a' : nat_lt (length (take (total_length octets) octets)) 20 ≡ false = grind (arith, nat_tests, len, head) in
    let d' : nat_lt (length (take (total_length octets) octets)) (header_length octets) ≡ false =
    grind (arith, nat_tests, len) in
    let whole : cut octets ≡ take (total_length octets) octets = rw is refl in
    let P : List ℕ → Type 0 = λ x. ipv4_of x ≡ Ok (packet_of octets) in
    subst P (sym whole)
    (reads (take (total_length octets) octets) a' (rw first b) (rw first c) (rw first d') (rw (first, total) e)
    ∙ ap (λ q. Ok q) (same_packet (total_length octets) octets refl is long))

-- what is read of a packet that was read
pub ipv4_again : (octets : List ℕ) (p : Packet) → ipv4_of octets ≡ Ok p → ipv4_of p.packet ≡ Ok p
unfolding ipv4_of
ipv4_again octets p is =
    let a = passed (nat_lt (length octets) 20) Short _ p is in
    let b = passed (not (version octets == 4)) NotVersion4 _ p a.1 in
    let c = passed (nat_lt (header_length octets) 20) BadHeaderLength _ p b.1 in
    let d = passed (nat_lt (length octets) (header_length octets)) Short _ p c.1 in
    let e = passed (not (total_length octets == 0) && nat_lt (total_length octets) (header_length octets))
    BadTotalLength _ p d.1 in
    let last : ◌≡◌ {A = Result Packet Ipv4Fault} (Ok (packet_of octets)) (Ok p) = e.1 in
    let same : packet_of octets ≡ p = cc in
    let P : Packet → Type 0 = λ q. ipv4_of q.packet ≡ Ok q in
    subst P same (again_at octets (total_length octets == 0) refl a.0 b.0 c.0 d.0 e.0)
