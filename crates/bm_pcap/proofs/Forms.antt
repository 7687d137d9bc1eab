-- What the octets that were read say of a capture's header.
use Rattle.std.proofs.Common.{◌≡◌, ℕ, true, false, ◌<◌, ◌≤◌, inl, inr, nat_lt, min, List, ◌++◌, length, Option, Some}
use Rattle.std.proofs.Common.{None, Result, Ok, Err, take, drop, ap, ap₂, sym, subst, ◌∙◌, arith, length-drop}
use Rattle.std.proofs.lemmas.Bool.{cases_lt}
use Rattle.std.proofs.lemmas.Bool.Decides.{nat_tests}
use Rattle.std.proofs.lemmas.List.{take_all, drop-drop}
use Rattle.std.proofs.Math.Seq.{take-add}
use Rattle.bm_pcap.specs.declared.fault.CaptureFault.{CaptureFault}
use Rattle.bm_pcap.specs.declared.fault.CaptureFault.TheVariants as fault
use Rattle.bm_pcap.specs.declared.form.Form.{Form}
use Rattle.bm_pcap.specs.declared.form.Order.{Order}
use Rattle.bm_pcap.specs.declared.form.Unit.{Unit as Unit_of_time}
use Rattle.bm_io.specs.Fill.{Fills}
use Rattle.bm_pcap.specs.Header.{form_of, form_by, magic_of}
use Rattle.bm_pcap.specs.Parts.{FormGives}

few : (left : List ℕ) → length left < 24 → form_of left ≡ Err fault.NotACapture
unfolding form_of
few left less = let t : nat_lt (length left) 24 ≡ true = grind (arith, nat_tests, less) in rw t

enough : (left : List ℕ) → 24 ≤ length left → form_of left ≡ form_by (magic_of (take 4 left)) (take 24 left)
unfolding form_of
enough left more = let t : nat_lt (length left) 24 ≡ false = grind (arith, nat_tests, more) in rw t

-- a buffer that is full contains the front of what was left
full : (size n : ℕ) (buf left : List ℕ) → length buf ≡ size → n ≡ min (length buf) (length left) → size ≤ n
    → take n buf ≡ take n left → buf ≡ take size left
full size n buf left is count most same =
    let e : n ≡ size = omega (arith, count, is, most) in
    let all : take n buf ≡ buf = take_all n buf (omega (arith, is, most)) in
    sym all ∙ same ∙ ap (λ m. take m left) e

pub no_magic_number : (old new : Option (List ℕ)) (n : ℕ) (buf : List ℕ) → length buf ≡ 4 → Fills old new n buf → n < 4
    → FormGives old new (Err fault.NotACapture)
no_magic_number None new n buf size fills less = tt
no_magic_number (Some left) new n buf size fills less = few left (omega (arith, fills.0, size, less))

pub no_magic : (old new : Option (List ℕ)) (n : ℕ) (buf : List ℕ) → length buf ≡ 4 → Fills old new n buf → 4 ≤ n
    → magic_of buf ≡ None → FormGives old new (Err fault.NotACapture)
no_magic None new n buf size fills most none = tt
no_magic (Some left) new n buf size fills most none =
    elim (cases_lt (length left) 24) [
      | inl less ↦ few left less
      | inr more ↦
          let is : buf ≡ take 4 left = full 4 n buf left size fills.0 most fills.1 in
          enough left more ∙ ap (λ m. form_by m (take 24 left)) (ap magic_of (sym is) ∙ none)
    ]

pub no_rest : (old mid new : Option (List ℕ)) (n m : ℕ) (buf rest : List ℕ) → length buf ≡ 4 → Fills old mid n buf
    → 4 ≤ n → length rest ≡ 20 → Fills mid new m rest → m < 20 → FormGives old new (Err fault.NotACapture)
no_rest None mid new n m buf rest size fills most wide behind less = tt
no_rest (Some left) mid new n m buf rest size fills most wide behind less =
    let P : Option (List ℕ) → Type 0 = λ o. Fills o new m rest in
    let read = subst P fills.2 behind in
    few left (omega (arith, fills.0, size, most, read.0, wide, less, length-drop n left))

-- the whole header, and what it says
form_told : (mid new : Option (List ℕ)) (n m : ℕ) (buf rest left : List ℕ) (magic : Option (Order × Unit_of_time))
    → length buf ≡ 4 → Fills (Some left) mid n buf → 4 ≤ n → length rest ≡ 20 → Fills mid new m rest → 20 ≤ m
    → magic_of buf ≡ magic → (form_of left ≡ form_by magic (buf ++ rest)) × (new ≡ Some (drop 24 left))
form_told mid new n m buf rest left magic size fills most wide behind whole is =
    let P : Option (List ℕ) → Type 0 = λ o. Fills o new m rest in
    let read = subst P fills.2 behind in
    let e : n ≡ 4 = omega (arith, fills.0, size, most) in
    let f : m ≡ 20 = omega (arith, read.0, wide, whole) in
    let more : 24 ≤ length left = omega (arith, e, f, read.0, length-drop n left) in
    let front : buf ≡ take 4 left = full 4 n buf left size fills.0 most fills.1 in
    let back : rest ≡ take 20 (drop 4 left) =
    full 20 m rest (drop n left) wide read.0 whole read.1 ∙ ap (λ k. take 20 (drop k left)) e in
    let header : take 24 left ≡ buf ++ rest = take-add 4 20 left ∙ ap₂ (λ a b. a ++ b) (sym front) (sym back) in (
      enough left more ∙ ap₂ form_by (ap magic_of (sym front) ∙ is) header,
      read.2 ∙ ap₂ (λ a b. Some (drop a (drop b left))) f e ∙ ap (λ z. Some z) (drop-drop 20 4 left),
    )

gives : (left : List ℕ) (new : Option (List ℕ)) (result : Result Form CaptureFault) → form_of left ≡ result
    → new ≡ Some (drop 24 left) → FormGives (Some left) new result
gives left new (Ok form) is rest = (is, rest)
gives left new (Err fault.NotACapture) is rest = is
gives left new (Err fault.BadVersion) is rest = is
gives left new (Err (fault.BadLink link)) is rest = is
gives left new (Err (fault.BadBlock block)) is rest = is
gives left new (Err fault.ReadFault) is rest = tt
gives left new (Err fault.TooLarge) is rest = is
gives left new (Err (fault.BadLength number n)) is rest = is
gives left new (Err fault.TooManyPackets) is rest = is
gives left new (Err fault.Memory) is rest = tt

pub form_read : (old mid new : Option (List ℕ)) (n m : ℕ) (buf rest header : List ℕ) (order : Order)
    (unit : Unit_of_time) (result : Result Form CaptureFault) → length buf ≡ 4 → Fills old mid n buf → 4 ≤ n
    → length rest ≡ 20 → Fills mid new m rest → 20 ≤ m
    → magic_of buf ≡ Some (order, unit) → header ≡ buf ++ rest → result ≡ form_by (Some (order, unit)) header
    → FormGives old new result
form_read None mid new n m buf rest header order unit result size fills most wide behind whole is joined said = tt
form_read (Some left) mid new n m buf rest header order unit result size fills most wide behind whole is joined said =
    let told = form_told mid new n m buf rest left (Some (order, unit)) size fills most wide behind whole is in
    gives left new result (told.0 ∙ ap (form_by (Some (order, unit))) (sym joined) ∙ sym said) told.1
