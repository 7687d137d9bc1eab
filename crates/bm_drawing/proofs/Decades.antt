-- The greatest power of ten that isn't above a number.
use Rattle.std.proofs.Common.{◌≡◌, ℕ, zero, suc, ◌+◌, ◌-◌, ◌*◌, ◌/◌, ◌^◌, ◌<◌, ◌≤◌, length, ap, ◌∙◌, sym}
use Rattle.std.proofs.Common.{arith, length-append}
use Rattle.std.specs.Fmt.{decimal}
use Rattle.std.proofs.Math.Nat.{one-le-pow, pow-succ'}
use Rattle.std.proofs.lemmas.Fmt.{decimal_digit, decimal_step}
use Rattle.bm_drawing.specs.Scales.{decade}

length_decimal : (k n : ℕ) → 10 ^ k ≤ n → n < 10 * 10 ^ k → n < 2 ^ 64 → length (decimal n) ≡ k + 1
length_decimal zero n low high small = ap length (decimal_digit n (omega arith))
length_decimal (suc k) n low high small =
    let more : 10 ^ suc k ≡ 10 * 10 ^ k = pow-succ' 10 k in
    let one : 1 ≤ 10 ^ k = one-le-pow k 10 (omega arith) in
    let ten : 10 ≤ n = omega arith in
    let rest : length (decimal (n / 10)) ≡ k + 1
    = length_decimal k (n / 10) (omega arith) (omega arith) (omega arith) in
    ap length (decimal_step n ten small) ∙ length-append (decimal (n / 10)) _ ∙ omega (arith, rest)

-- it is the decade
pub decade_is : (k n : ℕ) → 10 ^ k ≤ n → n < 10 * 10 ^ k → n < 2 ^ 64 → 10 ^ k ≡ decade n
decade_is k n low high small =
    let digits : length (decimal n) - 1 ≡ k = omega (arith, length_decimal k n low high small)
    in sym (ap (λ j. 10 ^ j) digits)
