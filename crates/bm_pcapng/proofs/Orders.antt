-- What the first octets of a capture say of its order.
use Rattle.std.proofs.Common.{◌≡◌, ℕ, true, false, ◌<◌, ◌≤◌, nat_lt, ◌||◌, not, List, length, Option, Some, None}
use Rattle.std.proofs.Common.{Ok, Err}
use Rattle.std.proofs.Common.{take, ap, sym, subst, ◌∙◌, arith, refl, if◌then◌else◌}
use Rattle.std.proofs.lemmas.Bool.Decides.{nat_tests}
use Rattle.std.specs.Io.KnownBytes.{Keeps}
use Rattle.bm_pcap.specs.declared.form.Order.{Order}
use Rattle.bm_pcap.specs.Window.{Ahead}
use Rattle.bm_pcap.specs.declared.fault.CaptureFault.TheVariants as fault
use Rattle.bm_pcapng.specs.Blocks.{is_section, magic_of}
use Rattle.bm_pcapng.specs.Capture.{first_order}
use Rattle.bm_pcapng.specs.Inside.Parts.{OrderGives}
use Rattle.bm_pcapng.proofs.Heads.{known}

few : (octets : List ℕ) → length octets < 12 → first_order octets ≡ None
unfolding first_order
few octets less =
    let t : (nat_lt (length octets) 12 || not (is_section (take 4 octets))) ≡ true = grind (arith, nat_tests, less) in
    rw t

other_type : (octets : List ℕ) → is_section (take 4 octets) ≡ false → first_order octets ≡ None
unfolding first_order
other_type octets other =
    rw other
    (elim (nat_lt (length octets) 12) as (λ v. (if v || true then None else magic_of (take 12 octets)) ≡ None) [
      | true ↦ refl
      | false ↦ refl
    ])

section_type : (octets : List ℕ) → 12 ≤ length octets → is_section (take 4 octets) ≡ true
    → first_order octets ≡ magic_of (take 12 octets)
unfolding first_order
section_type octets long is =
    let t : nat_lt (length octets) 12 ≡ false = grind (arith, nat_tests, long) in rw (t, is)

pub no_order : (old : Option (List ℕ)) (most n : ℕ) (ahead : List ℕ) → most ≤ 12 → Ahead old most n ahead → n < most
    → OrderGives old (Err fault.NotACapture)
no_order None most n ahead small there less = tt
no_order (Some octets) most n ahead small there less = few octets (omega (arith, there.0, less, small))

pub no_section : (old : Option (List ℕ)) (n : ℕ) (ahead shown : List ℕ) → Ahead old 4 n ahead → 4 ≤ n → n ≤ 4
    → shown ≡ ahead → is_section (take 4 shown) ≡ false → OrderGives old (Err fault.NotACapture)
no_section None n ahead shown there long most same other = tt
no_section (Some octets) n ahead shown there long most same other =
    let e : n ≡ 4 = omega (arith, long, most) in
    let front : take 4 shown ≡ take 4 octets =
    ap (take 4) same ∙ ap (λ m. take m ahead) (sym e) ∙ there.1 ∙ ap (λ m. take m octets) e in
    other_type octets (ap is_section (sym front) ∙ other)

-- the first twelve octets were read ahead, and the first four say that it is a section
pub order_told : (octets : List ℕ) (n m : ℕ) (first ahead : List ℕ) → Ahead (Some octets) 4 n first → 4 ≤ n → n ≤ 4
    → is_section (take 4 first) ≡ true → Ahead (Some octets) 12 m ahead → 12 ≤ m → m ≤ 12
    → first_order octets ≡ magic_of (take 12 ahead)
order_told octets n m first ahead there long most is behind whole few_more =
    let e : n ≡ 4 = omega (arith, long, most) in
    let f : m ≡ 12 = omega (arith, whole, few_more) in
    let front : take 4 first ≡ take 4 octets =
    ap (λ k. take k first) (sym e) ∙ there.1 ∙ ap (λ k. take k octets) e in
    let twelve : take 12 octets ≡ take 12 ahead =
    ap (λ k. take k octets) (sym f) ∙ sym behind.1 ∙ ap (λ k. take k ahead) f in
    section_type octets (omega (arith, behind.0, f)) (ap is_section (sym front) ∙ is) ∙ ap magic_of twelve

pub order_read : (old mid : Option (List ℕ)) (n m : ℕ) (first ahead shown behind : List ℕ) (order : Order)
    → Ahead old 4 n first → 4 ≤ n → n ≤ 4 → shown ≡ first → is_section (take 4 shown) ≡ true → Keeps old mid
    → Ahead mid 12 m ahead → 12 ≤ m → m ≤ 12 → behind ≡ ahead → magic_of (take 12 behind) ≡ Some order
    → OrderGives old (Ok order)
order_read None mid n m first ahead shown behind order there long most same is keeps more whole less rest magic = tt
order_read (Some octets) mid n m first ahead shown behind order there long most same is keeps more whole less rest
    magic =
    let P : Option (List ℕ) → Type 0 = λ o. Ahead o 12 m ahead in
    order_told octets n m first ahead there long most (ap (λ (z : List ℕ). is_section (take 4 z)) (sym same) ∙ is)
    (subst P (known octets mid keeps) more) whole less
    ∙ ap (λ (z : List ℕ). magic_of (take 12 z)) (sym rest) ∙ magic

pub order_bad : (old mid : Option (List ℕ)) (n m : ℕ) (first ahead shown behind : List ℕ)
    → Ahead old 4 n first → 4 ≤ n → n ≤ 4 → shown ≡ first → is_section (take 4 shown) ≡ true → Keeps old mid
    → Ahead mid 12 m ahead → 12 ≤ m → m ≤ 12 → behind ≡ ahead → magic_of (take 12 behind) ≡ None
    → OrderGives old (Err fault.NotACapture)
order_bad None mid n m first ahead shown behind there long most same is keeps more whole less rest magic = tt
order_bad (Some octets) mid n m first ahead shown behind there long most same is keeps more whole less rest magic =
    let P : Option (List ℕ) → Type 0 = λ o. Ahead o 12 m ahead in
    order_told octets n m first ahead there long most (ap (λ (z : List ℕ). is_section (take 4 z)) (sym same) ∙ is)
    (subst P (known octets mid keeps) more) whole less
    ∙ ap (λ (z : List ℕ). magic_of (take 12 z)) (sym rest) ∙ magic
