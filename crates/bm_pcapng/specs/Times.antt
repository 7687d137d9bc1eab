-- Timestamps (draft-ietf-opsawg-pcapng, "Interface Description Block", option if_tsresol): how many
-- units a second has.
use Rattle.std.specs.Prelude.{ℕ, ◌*◌, ◌/◌, ◌%◌, ◌^◌, nat_lt, if◌then◌else◌}
use Rattle.bm_pcapng.specs.declared.time.Resolution.{Resolution}
use Rattle.bm_pcapng.specs.declared.time.Resolution.TheVariants.{Decimal, Binary}

-- a power of ten, or a power of two
abbrev pub per_second : Resolution → ℕ
per_second (Decimal exponent) = 10 ^ exponent
per_second (Binary exponent) = 2 ^ exponent

-- If the high bit of the option's octet is set, the low seven bits are an exponent of two;
-- otherwise they are an exponent of ten.
abbrev pub resolution_of : ℕ → Resolution
resolution_of octet = if nat_lt octet 128 then Decimal octet else Binary (octet % 128)

-- without the option the unit is a microsecond
abbrev pub microseconds : Resolution
microseconds = Decimal 6

-- a time in these units, in nanoseconds, rounded down
unfoldable pub nanoseconds : Resolution → ℕ → ℕ
nanoseconds resolution units = units * 10 ^ 9 / per_second resolution
