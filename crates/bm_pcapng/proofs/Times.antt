-- Units of time.
use Rattle.std.proofs.Common.{◌≡◌, ℕ, ◌*◌, ◌^◌, ◌<◌, ◌≤◌, arith, sym}
use Rattle.std.proofs.Math.Nat.{div-eq_of_lt, one-le-pow}
use Rattle.bm_pcapng.specs.declared.time.Resolution.{Resolution}
use Rattle.bm_pcapng.specs.declared.time.Resolution.TheVariants.{Decimal, Binary}
use Rattle.bm_pcapng.specs.Times.{nanoseconds, per_second}

-- a second has a unit
pub some_units : (resolution : Resolution) → 0 < per_second resolution
some_units (Decimal exponent) = omega (arith, one-le-pow exponent 10 (omega arith))
some_units (Binary exponent) = omega (arith, one-le-pow exponent 2 (omega arith))

-- a unit that no time reaches
pub beyond : (resolution : Resolution) (units : ℕ) → units < 2 ^ 64 → 2 ^ 128 ≤ per_second resolution
    → 0 ≡ nanoseconds resolution units
unfolding nanoseconds
beyond resolution units few much =
    let less : units * 10 ^ 9 < per_second resolution = omega (arith, few, much) in sym (div-eq_of_lt less)
