-- What a text says can be read back from it: its words are parted by spaces, and its lines by line feeds.
use Rattle.std.proofs.Common.{◌≡◌, ℕ, zero, suc, ◌+◌, ◌%◌, ◌/◌, ◌<◌, ◌^◌, ◌==◌, Bool, true, false, ◌&&◌, not, inl}
use Rattle.std.proofs.Common.{inr, List, [], ◌∷◌, ◌++◌, refl, ap, ◌∙◌, sym, arith, append_assoc}
use Rattle.std.specs.Prelude.{decimal, nat_le, nat_lt}
use Rattle.std.specs.Fmt.{digits, digits_onto, digit_glyph}
use Rattle.std.proofs.lemmas.Bool.{cases_Bool, and_parts, le-leb, lt-ltb}
use Rattle.std.proofs.lemmas.Bool.Decides.{nat_tests}
use Rattle.std.proofs.lemmas.Fmt.{decimal_by_steps}
use Rattle.bm_trace.specs.Inside.Reading.{ends_word, is_word, runs_on}
use Rattle.bm_trace.specs.Words.{spaced, line}

-- where a run is stopped, it is the same run
pub split : (stops : ℕ → Bool) (w v : List ℕ) (c d : ℕ) (x y : List ℕ) → runs_on stops w ≡ true → runs_on stops v ≡ true
    → stops c ≡ true → stops d ≡ true
    → w ++ c ∷ x ≡ v ++ d ∷ y → (w ≡ v) × (c ∷ x ≡ d ∷ y)
split stops [] [] c d x y hw hv hc hd e = (refl, e)
split stops [] (b ∷ v) c d x y hw hv hc hd e =
    let s : c ≡ b = cc in let p = and_parts (not (stops b)) (runs_on stops v) hv in absurd (grind (arith, nat_tests))
split stops (b ∷ w) [] c d x y hw hv hc hd e =
    let s : b ≡ d = cc in let p = and_parts (not (stops b)) (runs_on stops w) hw in absurd (grind (arith, nat_tests))
split stops (a ∷ w) (b ∷ v) c d x y hw hv hc hd e =
    let s : a ≡ b = cc
    in let t : w ++ c ∷ x ≡ v ++ d ∷ y = cc
    in let p = and_parts (not (stops a)) (runs_on stops w) hw
    in let q = and_parts (not (stops b)) (runs_on stops v) hv
    in let r = split stops w v c d x y p.1 q.1 hc hd t
    in (cc, r.1)

abbrev pub AreWords : List (List ℕ) → Type 0
AreWords [] = Unit {0}
AreWords (w ∷ words) = (is_word w ≡ true) × AreWords words

abbrev first_of : List (List ℕ) → ℕ
first_of [] = 10
first_of (w ∷ words) = 32

rest_of : List (List ℕ) → List ℕ → List ℕ
rest_of [] x = x
rest_of (w ∷ words) x = w ++ (spaced words ++ 10 ∷ x)

stopped : (words : List (List ℕ)) (x : List ℕ) → spaced words ++ 10 ∷ x ≡ first_of words ∷ rest_of words x
unfolding rest_of
stopped [] x = refl
stopped (w ∷ words) x = ap (λ z. 32 ∷ z) (append_assoc w (spaced words) (10 ∷ x))

first_stops : (words : List (List ℕ)) → ends_word (first_of words) ≡ true
first_stops [] = refl
first_stops (w ∷ words) = refl

-- the same words stand in the same text
pub read_words : (ws vs : List (List ℕ)) (x y : List ℕ) → AreWords ws → AreWords vs → spaced ws ++ 10 ∷ x ≡ spaced vs
    ++ 10 ∷ y → (ws ≡ vs) × (x ≡ y)
read_words [] [] x y hw hv e = (refl, cc)
read_words [] (v ∷ vs) x y hw hv e = let n : ◌≡◌ {A = ℕ} 10 32 = cc in absurd (omega arith)
read_words (w ∷ ws) [] x y hw hv e = let n : ◌≡◌ {A = ℕ} 32 10 = cc in absurd (omega arith)
read_words (w ∷ ws) (v ∷ vs) x y hw hv e =
    let t : w ++ (spaced ws ++ 10 ∷ x) ≡ v ++ (spaced vs ++ 10 ∷ y) =
    cc (stopped (w ∷ ws) x, append_assoc w (spaced ws) (10 ∷ x), append_assoc v (spaced vs) (10 ∷ y))
    in let u : w ++ (first_of ws ∷ rest_of ws x) ≡ v ++ (first_of vs ∷ rest_of vs y) = cc (stopped ws x, stopped vs y)
    in let p =
    split ends_word w v (first_of ws) (first_of vs) (rest_of ws x) (rest_of vs y) hw.0 hv.0 (first_stops ws)
    (first_stops vs) u
    in let r : spaced ws ++ 10 ∷ x ≡ spaced vs ++ 10 ∷ y = stopped ws x ∙ p.1 ∙ sym (stopped vs y)
    in let i = read_words ws vs x y hw.1 hv.1 r
    in (cc, i.1)

-- a line, and what comes after it
pub read_line : (f g : List ℕ) (ws vs : List (List ℕ)) (x y : List ℕ) → is_word f ≡ true → is_word g ≡ true
    → AreWords ws → AreWords vs
    → line f ws ++ x ≡ line g vs ++ y → (f ≡ g) × (ws ≡ vs) × (x ≡ y)
read_line f g ws vs x y hf hg hw hv e =
    let a : line f ws ++ x ≡ f ++ (spaced ws ++ 10 ∷ x) =
    append_assoc (f ++ spaced ws) (10 ∷ []) x ∙ append_assoc f (spaced ws) (10 ∷ x)
    in let b : line g vs ++ y ≡ g ++ (spaced vs ++ 10 ∷ y) =
    append_assoc (g ++ spaced vs) (10 ∷ []) y ∙ append_assoc g (spaced vs) (10 ∷ y)
    in let u : f ++ (first_of ws ∷ rest_of ws x) ≡ g ++ (first_of vs ∷ rest_of vs y) =
    cc (a, b, stopped ws x, stopped vs y)
    in let p =
    split ends_word f g (first_of ws) (first_of vs) (rest_of ws x) (rest_of vs y) hf hg (first_stops ws)
    (first_stops vs) u
    in let r : spaced ws ++ 10 ∷ x ≡ spaced vs ++ 10 ∷ y = stopped ws x ∙ p.1 ∙ sym (stopped vs y)
    in let i = read_words ws vs x y hw hv r
    in (p.0, i.0, i.1)

pub runs_on_append : (stops : ℕ → Bool) (w v : List ℕ) → runs_on stops w ≡ true → runs_on stops v ≡ true
    → runs_on stops (w ++ v) ≡ true
runs_on_append stops [] v hw hv = hv
runs_on_append stops (c ∷ w) v hw hv =
    let p = and_parts (not (stops c)) (runs_on stops w) hw
    in let r : runs_on stops (w ++ v) ≡ true = runs_on_append stops w v p.1 hv
    in let q : not (stops c) ≡ true = p.0
    in grind (arith, nat_tests)

-- digits stop nothing that starts below them or above them
pub decimal_runs_on : (stops : ℕ → Bool) → ((d : ℕ) → d < 10 → stops (48 + d) ≡ false) → (n : ℕ) → n < 2 ^ 64
    → runs_on stops (decimal n) ≡ true
decimal_runs_on stops h n small =
    decimal_by_steps (λ m ds. runs_on stops ds ≡ true)
    (λ m low. let s : stops (48 + m) ≡ false = h m low in grind (arith, nat_tests))
    (λ m ds high before.
    let s : stops (48 + m % 10) ≡ false = h (m % 10) (omega arith)
    in let l : runs_on stops ((48 + m % 10) ∷ []) ≡ true = grind (arith, nat_tests)
    in runs_on_append stops ds ((48 + m % 10) ∷ []) before l)
    n small

pub decimal_is_word : (n : ℕ) → n < 2 ^ 64 → is_word (decimal n) ≡ true
decimal_is_word n small = decimal_runs_on ends_word (λ d low. grind (arith, nat_tests)) n small

glyph_is : (d : ℕ) → d < 10 → digit_glyph false d ≡ 48 + d
glyph_is d low = let t : nat_lt d 10 ≡ true = lt-ltb d 10 low in rw t refl

pub both_true : {a b : Bool} → a ≡ true → b ≡ true → (a && b) ≡ true
both_true ha hb = grind (arith, nat_tests)

onto_runs_on : (stops : ℕ → Bool) → ((d : ℕ) → d < 10 → stops (48 + d) ≡ false) → (k n : ℕ) (acc : List ℕ)
    → runs_on stops acc ≡ true → runs_on stops (digits_onto k 10 false n acc) ≡ true
onto_runs_on stops h zero n acc ha = ha
onto_runs_on stops h (suc k) n acc ha =
    let low : n % 10 < 10 = omega arith
    in let s : stops (48 + n % 10) ≡ false = h (n % 10) low
    in let g : digit_glyph false (n % 10) ≡ 48 + n % 10 = glyph_is (n % 10) low
    in let t : not (stops (digit_glyph false (n % 10))) ≡ true = ap (λ c. not (stops c)) g ∙ ap not s
    in let r : runs_on stops (digit_glyph false (n % 10) ∷ acc) ≡ true = both_true t ha
    in elim (cases_Bool (n / 10 == 0)) [
      | inl z ↦ rw z r
      | inr z ↦ rw z (onto_runs_on stops h k (n / 10) (digit_glyph false (n % 10) ∷ acc) r)
    ]

pub decimal_runs : (stops : ℕ → Bool) → ((d : ℕ) → d < 10 → stops (48 + d) ≡ false) → (n : ℕ)
    → runs_on stops (decimal n) ≡ true
unfolding digits
decimal_runs stops h n = onto_runs_on stops h 64 n [] refl

pub is_word_decimal : (n : ℕ) → is_word (decimal n) ≡ true
is_word_decimal n = decimal_runs ends_word (λ d low. grind (arith, nat_tests)) n

pub word_append : (w v : List ℕ) → is_word w ≡ true → is_word v ≡ true → is_word (w ++ v) ≡ true
word_append w v hw hv = runs_on_append ends_word w v hw hv

-- the first octet is a digit, or comes before digits
abbrev pub starts_low : List ℕ → Bool
starts_low [] = false
starts_low (c ∷ w) = nat_le c 57

low_glyph : (d : ℕ) (acc : List ℕ) → d < 10 → starts_low (digit_glyph false d ∷ acc) ≡ true
low_glyph d acc low = ap (λ c. nat_le c 57) (glyph_is d low) ∙ le-leb (48 + d) 57 (omega arith)

onto_starts_low : (k n : ℕ) (acc : List ℕ) → starts_low acc ≡ true → starts_low (digits_onto k 10 false n acc) ≡ true
onto_starts_low zero n acc ha = ha
onto_starts_low (suc k) n acc ha =
    let r : starts_low (digit_glyph false (n % 10) ∷ acc) ≡ true = low_glyph (n % 10) acc (omega arith)
    in elim (cases_Bool (n / 10 == 0)) [
      | inl z ↦ rw z r
      | inr z ↦ rw z (onto_starts_low k (n / 10) (digit_glyph false (n % 10) ∷ acc) r)
    ]

starts_append : (w v : List ℕ) → starts_low w ≡ true → starts_low (w ++ v) ≡ true
starts_append [] v h = absurd (cc)
starts_append (c ∷ w) v h = h

decimal_starts : (n : ℕ) → starts_low (decimal n) ≡ true
unfolding digits
decimal_starts n =
    let r : starts_low (digit_glyph false (n % 10) ∷ []) ≡ true = low_glyph (n % 10) [] (omega arith)
    in elim (cases_Bool (n / 10 == 0)) [
      | inl z ↦ rw z r
      | inr z ↦ rw z (onto_starts_low 63 (n / 10) (digit_glyph false (n % 10) ∷ []) r)
    ]

pub decimal_starts_low : (n : ℕ) (v : List ℕ) → starts_low (decimal n ++ v) ≡ true
decimal_starts_low n v = starts_append (decimal n) v (decimal_starts n)
