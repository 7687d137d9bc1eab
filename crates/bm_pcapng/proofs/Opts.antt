-- Options, gone over one by one.
use Rattle.std.proofs.Common.{◌≡◌, ℕ, zero, suc, true, false, ◌+◌, ◌<◌, ◌≤◌, List, length}
use Rattle.std.proofs.Common.{take, drop}
use Rattle.std.proofs.Common.{slice_index, if◌then◌else◌, arith, refl, sym, ap, ◌∙◌, length-drop}
use Rattle.std.proofs.lemmas.Bool.Decides.{nat_tests}
use Rattle.std.proofs.lemmas.List.{get_or-drop, get_or-take, length-take-le}
use Rattle.bm_pcap.specs.declared.form.Order.{Order}
use Rattle.bm_pcapng.specs.declared.time.Resolution.{Resolution}
use Rattle.bm_pcapng.specs.Options.{is_over, length_of, options_in, padded, resolution_in}
use Rattle.bm_pcapng.specs.Inside.Options.{is_resolution}
use Rattle.bm_pcapng.specs.Times.{microseconds, resolution_of}

-- the options that are left give this resolution
abbrev pub Left : Order → List ℕ → Resolution → Type 0
Left order rest total =
    (fuel : ℕ) × ((length rest ≤ fuel) × (resolution_in (options_in fuel order rest) ≡ total))

pub all_left : (order : Order) (octets : List ℕ)
    → Left order octets (resolution_in (options_in (length octets) order octets))
all_left order octets = (length octets, (omega arith, refl))

over : (fuel : ℕ) (order : Order) (rest : List ℕ) → is_over order rest ≡ true
    → resolution_in (options_in fuel order rest) ≡ microseconds
unfolding options_in resolution_in
over zero order rest is = refl
over (suc more) order rest is = rw is refl

pub left_over : (order : Order) (rest : List ℕ) (total : Resolution) → Left order rest total
    → is_over order rest ≡ true → microseconds ≡ total
left_over order rest total left is = sym (over left.0 order rest is) ∙ left.1.1

-- an option that is there has its octets
there : (order : Order) (rest : List ℕ) → is_over order rest ≡ false → 4 + length_of order rest ≤ length rest
there order rest is = grind (arith, nat_tests, is)

size : (order : Order) (rest : List ℕ) → is_over order rest ≡ false
    → length (take (length_of order rest) (drop 4 rest)) ≡ length_of order rest
size order rest is =
    length-take-le (length_of order rest) (drop 4 rest) (omega (arith, there order rest is, length-drop 4 rest))

-- the option at the front
front : (more : ℕ) (order : Order) (rest : List ℕ) → is_over order rest ≡ false
    → resolution_in (options_in (suc more) order rest)
    ≡ (if is_resolution order rest then resolution_of (slice_index (take (length_of order rest) (drop 4 rest)) 0)
    else resolution_in (options_in more order (drop (4 + padded (length_of order rest)) rest)))
unfolding options_in resolution_in
front more order rest is = rw (is, size order rest is) refl

found : (fuel : ℕ) (order : Order) (rest : List ℕ) → length rest ≤ fuel → is_over order rest ≡ false
    → is_resolution order rest ≡ true
    → resolution_in (options_in fuel order rest)
    ≡ resolution_of (slice_index (take (length_of order rest) (drop 4 rest)) 0)
found zero order rest less is here = absurd (omega (arith, there order rest is, less))
found (suc more) order rest less is here = front more order rest is ∙ rw here

next : (fuel : ℕ) (order : Order) (rest : List ℕ) (total : Resolution) → length rest ≤ fuel
    → resolution_in (options_in fuel order rest) ≡ total → is_over order rest ≡ false
    → is_resolution order rest ≡ false → Left order (drop (4 + padded (length_of order rest)) rest) total
next zero order rest total less all is other = absurd (omega (arith, there order rest is, less))
next (suc more) order rest total less all is other = (
  more,
  (
    omega (arith, less, there order rest is, length-drop (4 + padded (length_of order rest)) rest),
    sym (front more order rest is ∙ rw other) ∙ all,
  ),
)

pub left_next : (order : Order) (rest : List ℕ) (total : Resolution) → Left order rest total
    → is_over order rest ≡ false → is_resolution order rest ≡ false
    → Left order (drop (4 + padded (length_of order rest)) rest) total
left_next order rest total left is other = next left.0 order rest total left.1.0 left.1.1 is other

pub left_found : (order : Order) (rest : List ℕ) (total : Resolution) (octet : ℕ) → Left order rest total
    → is_over order rest ≡ false → is_resolution order rest ≡ true
    → octet ≡ slice_index (take (length_of order rest) (drop 4 rest)) 0 → resolution_of octet ≡ total
left_found order rest total octet left is here same =
    ap resolution_of same ∙ sym (found left.0 order rest left.1.0 is here) ∙ left.1.1

pub first_octet : (order : Order) (rest : List ℕ) → is_over order rest ≡ false → is_resolution order rest ≡ true
    → slice_index rest 4 ≡ slice_index (take (length_of order rest) (drop 4 rest)) 0
first_octet order rest is here =
    let one : 0 < length_of order rest = grind (arith, nat_tests, here) in
    sym (get_or-take (length_of order rest) (drop 4 rest) 0 0 one ∙ get_or-drop 4 rest 0 0)
