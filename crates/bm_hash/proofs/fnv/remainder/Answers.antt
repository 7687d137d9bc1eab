use Rattle.std.proofs.Common.{sym, subst, ◌∙◌, ◌≡◌, ◌%◌, ◌^◌, ◌-◌, ℕ, bit_and, w64, arith}
use Rattle.std.specs.Int.{trailing_zeros}
use Rattle.std.proofs.lemmas.Nat.{and_mask, one_shl}
use Rattle.std.proofs.lemmas.Nat.Bits.{bit_at-trailing_zeros}
use Rattle.bm_hash.proofs.fnv.remainder.Goals as goal

-- a power of two leaves the low bits
pub returns-then-divisor-bits : goal.returns-then-divisor-bits
returns-then-divisor-bits c =
    let bits : ℕ = trailing_zeros w64 c.args.divisor in
    let few = (bit_at-trailing_zeros w64 c.args.divisor (omega (arith, c.requires)) c.ranges.divisor.fits).0 in
    let power : c.args.divisor ≡ 2 ^ bits = c.if-divisor-bits.true ∙ one_shl bits 64 few in
    subst (λ d. bit_and c.args.hash (d - 1) ≡ c.args.hash % d) (sym power) (and_mask c.args.hash bits)
