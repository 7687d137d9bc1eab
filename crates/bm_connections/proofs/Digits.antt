-- Numbers with zeros in front.
use Rattle.std.proofs.Common.{◌≡◌, ℕ, zero, suc, ◌+◌, ◌-◌, ◌*◌, ◌/◌, ◌%◌, ◌^◌, ◌<◌, ◌≤◌, [], ◌∷◌, ◌++◌}
use Rattle.std.proofs.Common.{length, inl, inr, refl, sym, ap, ap₂, ◌∙◌, arith, false}
use Rattle.std.specs.Prelude.{decimal, replicate}
use Rattle.std.specs.Fmt.{char_count, format_spec, number_padding, padded_integral}
use Rattle.std.proofs.Common.{append_assoc}
use Rattle.std.proofs.Math.Nat.{div-div-eq-div-mul, div-one, zero-div, pow-succ', mod-mod}
use Rattle.std.proofs.lemmas.Bool.{cases_lt}
use Rattle.std.proofs.lemmas.Fmt.{decimal_step, decimal_digit}
use Rattle.std.proofs.lemmas.List.{append-nil, length-append}
use Rattle.jiff_fmt.specs.Text.{pad2, pad4, places}
use Rattle.bm_connections.specs.Times.{last_digits}

-- the last digit comes after the others
last_one : (k n : ℕ) → last_digits (suc k) n ≡ last_digits k (n / 10) ++ (48 + n % 10) ∷ []
unfolding last_digits
last_one zero n = ap (λ m. (48 + m % 10) ∷ []) (div-one n)
last_one (suc k) n =
    let more : n / 10 ^ suc k ≡ n / 10 / 10 ^ k =
    ap (λ p. n / p) (pow-succ' 10 k) ∙ sym (div-div-eq-div-mul n 10 (10 ^ k)) in
    ap₂ (λ m l. (48 + m % 10) ∷ l) more (last_one k n)

none : (k : ℕ) → last_digits k 0 ≡ replicate k 48
unfolding last_digits
none zero = refl
none (suc k) = ap₂ (λ m l. (48 + m % 10) ∷ l) (zero-div (10 ^ k)) (none k)

some_power : (k : ℕ) → 10 ≤ 10 * 10 ^ k - 1 → 0 < k
some_power zero large = absurd (omega arith)
some_power (suc k) large = omega arith

-- zeros and then the number
pub padded_digits : (k n : ℕ) → 0 < k → n < 10 ^ k → n < 2 ^ 64 →
    replicate (k - length (decimal n)) 48 ++ decimal n ≡ last_digits k n
padded_digits zero n some below small = absurd (omega arith)
padded_digits (suc k) n some below small = elim (cases_lt n 10) [
  | inl one ↦
      let same : n % 10 ≡ n = omega arith in
      let front : n / 10 ≡ 0 = omega arith in
      let width : suc k - 1 ≡ k = omega arith in
      rw (decimal_digit n one, width) (sym (last_one k n ∙ ap₂ (λ m e. last_digits k m ++ (48 + e) ∷ []) front same
      ∙ ap (λ l. l ++ (48 + n) ∷ []) (none k)))
  | inr more ↦
      let power : 10 ^ suc k ≡ 10 * 10 ^ k = pow-succ' 10 k in
      let tens : n / 10 < 10 ^ k = omega (arith, power) in
      let some_more : 0 < k = some_power k (omega (arith, power)) in
      let width : suc k - length (decimal n) ≡ k - length (decimal (n / 10)) =
      omega (arith, ap length (decimal_step n more small), length-append (decimal (n / 10)) ((48 + n % 10) ∷ [])) in
      ap₂ (λ m l. replicate m 48 ++ l) width (decimal_step n more small)
      ∙ sym (append_assoc (replicate (k - length (decimal (n / 10))) 48) (decimal (n / 10)) ((48 + n % 10) ∷ []))
      ∙ ap (λ l. l ++ (48 + n % 10) ∷ []) (padded_digits k (n / 10) some_more tens (omega arith))
      ∙ sym (last_one k n)
]

-- what `{:09}` writes
pub nine_digits : (n : ℕ) → n < 1_000_000_000 →
    padded_integral (format_spec 32 0 4 9 (2 ^ 64 - 1)) false [] (decimal n) ≡ last_digits 9 n
unfolding padded_integral char_count
nine_digits n below =
    let width : number_padding (format_spec 32 0 4 9 (2 ^ 64 - 1)) false [] (length (decimal n))
    ≡ 9 - length (decimal n) =
    omega arith in
    ap₂ (λ m l. replicate m 48 ++ l) width (append-nil (decimal n))
    ∙ padded_digits 9 n (omega arith) below (omega arith)

-- a fraction's first nine places
pub nine_places : (n : ℕ) → places 9 1_000_000_000 (n % 1_000_000_000) ≡ last_digits 9 n
unfolding last_digits places
nine_places n =
    let a = n % 1_000_000_000 in let b = a % 100_000_000 in let c = b % 10_000_000 in
    let d = c % 1_000_000 in let e = d % 100_000 in let f = e % 10_000 in let g = f % 1_000 in let h = g % 100 in
    let one : a / 100_000_000 ≡ n / 100_000_000 % 10 = omega arith in
    let two : b / 10_000_000 ≡ n / 10_000_000 % 10 = omega arith in
    let three : c / 1_000_000 ≡ n / 1_000_000 % 10 = omega arith in
    let four : d / 100_000 ≡ n / 100_000 % 10 = omega arith in
    let five : e / 10_000 ≡ n / 10_000 % 10 = omega arith in
    let six : f / 1_000 ≡ n / 1_000 % 10 = omega arith in
    let seven : g / 100 ≡ n / 100 % 10 = omega arith in
    let eight : h / 10 ≡ n / 10 % 10 = omega arith in
    let nine : h % 10 / 1 ≡ n / 1 % 10 = omega arith in
    cc

-- the last digits are those of what is left
pub low_digits : (n : ℕ) → last_digits 9 (n % 1_000_000_000) ≡ last_digits 9 n
low_digits n =
    sym (nine_places (n % 1_000_000_000)) ∙ ap (λ m. places 9 1_000_000_000 m) (mod-mod n 1_000_000_000) ∙ nine_places n

pub two : (n : ℕ) → n < 100 → pad2 n ≡ last_digits 2 n
unfolding last_digits
two n below =
    let a : n / 10 ≡ n / 10 ^ 1 % 10 = omega arith in
    let b : n % 10 ≡ n / 10 ^ 0 % 10 = omega arith in
    ap₂ (λ x y. (48 + x) ∷ (48 + y) ∷ []) a b

pub four : (n : ℕ) → n < 10_000 → pad4 n ≡ last_digits 4 n
unfolding last_digits
four n below =
    let a : n / 100 / 10 ≡ n / 10 ^ 3 % 10 = omega arith in
    let b : n / 100 % 10 ≡ n / 10 ^ 2 % 10 = omega arith in
    let c : n % 100 / 10 ≡ n / 10 ^ 1 % 10 = omega arith in
    let d : n % 100 % 10 ≡ n / 10 ^ 0 % 10 = omega arith in
    ap₂ (λ x y. x ++ y) (ap₂ (λ x y. (48 + x) ∷ (48 + y) ∷ []) a b) (ap₂ (λ x y. (48 + x) ∷ (48 + y) ∷ []) c d)
