-- A line is its words, and is cut where they end.
use Rattle.std.specs.Prelude.{decimal}
use Rattle.std.proofs.Common.{◌≡◌, ℕ, true, false, not, List, [], ◌∷◌, ◌++◌, refl, ap, sym, ◌∙◌, append_assoc, subst}
use Rattle.std.proofs.lemmas.Bool.{and_parts}
use Rattle.bm_trace.proofs.Reading.{is_word_decimal, split, word_append}
use Rattle.bm_trace.specs.Inside.Reading.{ends_word, is_word}
use Rattle.bm_trace.specs.Words.{line, spaced}
use Rattle.bm_check.specs.Inside.Reading.{stop, text_of}

spaced_is : (ws : List (List ℕ)) → spaced ws ++ 10 ∷ [] ≡ stop ws ∷ text_of ws
spaced_is [] = refl
spaced_is (w ∷ ws) =
    ap (λ (x : List ℕ). 32 ∷ x) (append_assoc w (spaced ws) (10 ∷ []) ∙ ap (λ (x : List ℕ). w ++ x) (spaced_is ws))

-- a line is its words, each with the space or the line's end after it
pub line_is : (w : List ℕ) (ws : List (List ℕ)) → line w ws ≡ text_of (w ∷ ws)
line_is w ws = append_assoc w (spaced ws) (10 ∷ []) ∙ ap (λ (x : List ℕ). w ++ x) (spaced_is ws)

-- WHERE WORDS END

stop_stops : (ws : List (List ℕ)) → ends_word (stop ws) ≡ true
stop_stops [] = refl
stop_stops (w ∷ ws) = refl

tail_same : (c d : ℕ) (x y : List ℕ) → c ∷ x ≡ d ∷ y → x ≡ y
tail_same c d x y e = cc

no_stop : (w : List ℕ) (c : ℕ) (x : List ℕ) → ends_word c ≡ true → is_word (w ++ c ∷ x) ≡ true → ⊥
no_stop [] c x stops is =
    let p = and_parts (not (ends_word c)) (is_word x) is
    in let bad : false ≡ true = sym (ap not stops) ∙ p.0 in absurd (cc)
no_stop (d ∷ w) c x stops is = no_stop w c x stops (and_parts (not (ends_word d)) (is_word (w ++ c ∷ x)) is).1

pub number_word : (n : ℕ) → is_word (decimal n) ≡ true
number_word n = is_word_decimal n

-- CUTTING

-- a word that one octet more makes longer
pub word_longer : (w : List ℕ) (c : ℕ) → is_word w ≡ true → ends_word c ≡ false → is_word (w ++ c ∷ []) ≡ true
word_longer w c is goes_on = word_append w (c ∷ []) is (rw goes_on refl)

-- a text that is cut at its first word's end
pub cut_there : (text a b w : List ℕ) (c : ℕ) (ws : List (List ℕ)) → text ≡ a ++ c ∷ b → is_word a ≡ true
    → ends_word c ≡ true → is_word w ≡ true → text ≡ text_of (w ∷ ws) → (a ≡ w) × (b ≡ text_of ws)
cut_there text a b w c ws is word stops other whole =
    let p = split ends_word a w c (stop ws) b (text_of ws) word other stops (stop_stops ws) (sym is ∙ whole)
    in (p.0, tail_same c (stop ws) b (text_of ws) p.1)

-- a text without a word's end isn't a line
pub cut_never : (text w : List ℕ) (ws : List (List ℕ)) → is_word text ≡ true → text ≡ text_of (w ∷ ws) → ⊥
cut_never text w ws word whole = no_stop w (stop ws) (text_of ws) (stop_stops ws) (subst (λ (t : List ℕ).
    is_word t ≡ true) whole word)
