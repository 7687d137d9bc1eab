-- Options (draft-ietf-opsawg-pcapng, "Options").
use Rattle.std.specs.Prelude.{ℕ, zero, suc, ◌+◌, ◌*◌, ◌/◌, List, [], ◌∷◌, length, take, drop}
use Rattle.std.specs.Prelude.{Bool, slice_index, nat_lt, ◌==◌, ◌||◌, ◌&&◌, if◌then◌else◌}
use Rattle.bm_pcap.specs.declared.form.Order.{Order}
use Rattle.bm_pcap.specs.Header.{number_at}
use Rattle.bm_pcapng.specs.declared.time.Resolution.{Resolution}
use Rattle.bm_pcapng.specs.Times.{microseconds, resolution_of}

-- up to a multiple of four octets
abbrev pub padded : ℕ → ℕ
padded n = (n + 3) / 4 * 4

abbrev pub code_of : Order → List ℕ → ℕ
code_of order octets = number_at order 2 0 octets

abbrev pub length_of : Order → List ℕ → ℕ
length_of order octets = number_at order 2 2 octets

-- A list of options ends where no option is left, at code 0 (opt_endofopt), and at an option that
-- doesn't fit.
abbrev pub is_over : Order → List ℕ → Bool
is_over order octets =
    nat_lt (length octets) 4 || code_of order octets == 0
    || nat_lt (length octets) (4 + length_of order octets)

-- The first options, at most this many, each as a code with a value. In the octets an option is its
-- code and the length of its value, two octets each, and its value, padded.
unfoldable pub options_in : ℕ → Order → List ℕ → List (ℕ × List ℕ)
options_in zero order octets = []
options_in (suc more) order octets =
    if is_over order octets then []
    else (code_of order octets, take (length_of order octets) (drop 4 octets))
    ∷ options_in more order (drop (4 + padded (length_of order octets)) octets)

-- the first option 9 of one octet gives the resolution
unfoldable pub resolution_in : List (ℕ × List ℕ) → Resolution
resolution_in [] = microseconds
resolution_in (option ∷ others) =
    if option.0 == 9 && length option.1 == 1 then resolution_of (slice_index option.1 0)
    else resolution_in others

-- the resolution that these options give
abbrev pub resolution_by : Order → List ℕ → Resolution
resolution_by order octets = resolution_in (options_in (length octets) order octets)
