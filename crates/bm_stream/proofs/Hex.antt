-- An octet in base 16.
use Rattle.std.proofs.Common.{◌≡◌, ℕ, ◌-◌, ◌<◌, ◌^◌, false, []}
use Rattle.std.proofs.lemmas.Fmt.{hex_byte}
use Rattle.std.specs.Fmt.{digits, format_spec, padded_integral}
use Rattle.bm_stream.specs.Text.{hex_octet}

pub hex_is : (n : ℕ) → n < 256
    → padded_integral (format_spec 32 0 4 2 (2 ^ 64 - 1)) false [] (digits 16 false n) ≡ hex_octet n
unfolding hex_octet
hex_is n small = hex_byte false n small
