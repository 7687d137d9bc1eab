-- The first octets of a file, one more than there may be.
use Rattle.std.proofs.Common.{◌≡◌, ◌+◌, ◌<◌, ◌≤◌, ℕ, List, length, take, min, nat_lt, true, false, sym, ap, ◌∙◌, arith}
use Rattle.std.proofs.lemmas.Bool.Decides.{nat_tests}
use Rattle.std.proofs.lemmas.List.{length-take, take_min}
use Rattle.std.proofs.Math.Seq.{take-length}

-- more octets than there may be were read
pub too_many : (most : ℕ) (octets text : List ℕ) → text ≡ take (most + 1) octets → most < length text →
    nat_lt most (length octets) ≡ true
too_many most octets text front more =
    let len : length text ≡ min (most + 1) (length octets) = ap length front ∙ length-take (most + 1) octets in
    grind (arith, nat_tests, len, more)

-- at most as many were read as there may be
pub few : (most : ℕ) (octets text : List ℕ) → text ≡ take (most + 1) octets → length text ≤ most →
    nat_lt most (length octets) ≡ false
few most octets text front short =
    let len : length text ≡ min (most + 1) (length octets) = ap length front ∙ length-take (most + 1) octets in
    grind (arith, nat_tests, len, short)

-- and so these are all
pub whole : (most : ℕ) (octets text : List ℕ) → text ≡ take (most + 1) octets → length text ≤ most → text ≡ octets
whole most octets text front short =
    let len : length text ≡ min (most + 1) (length octets) = ap length front ∙ length-take (most + 1) octets in
    let least : min (most + 1) (length octets) ≡ length octets = omega (arith, len, short) in
    front ∙ sym (take_min (most + 1) octets) ∙ ap (λ n. take n octets) least ∙ take-length octets
