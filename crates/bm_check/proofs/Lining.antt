-- Texts and their lines.
use Rattle.std.proofs.Common.{◌≡◌, ℕ, ◌<◌, Bool, true, false, not, List, [], ◌∷◌, ◌++◌, length, refl, ap}
use Rattle.std.proofs.Common.{arith, ◌∙◌, sym}
use Rattle.std.proofs.Common.{Option, None, Some, is_some}
use denote.Ref.{Bor}
use Rattle.std.specs.Bool.{Decides}
use Rattle.std.specs.Prelude.{MatchOption, ◌≢◌}
use Rattle.std.proofs.lemmas.Bool.{and_parts}
use Rattle.bm_trace.specs.Inside.Reading.{runs_on}
use Rattle.bm_check.specs.Inside.Taking.{EndsLine, is_feed}
use Rattle.bm_check.specs.Lines.{Begins, lines, put_first}

pub is_false : (b : Bool) → not b ≡ true → b ≡ false
is_false true e = absurd (cc)
is_false false e = refl

-- a text up to a line feed is a line of its own
pub line_first : (a b : List ℕ) → runs_on is_feed a ≡ true → lines (a ++ 10 ∷ b) ≡ (a ++ 10 ∷ []) ∷ lines b
line_first [] b runs = refl
line_first (c ∷ a) b runs =
    let p = and_parts (not (is_feed c)) (runs_on is_feed a) runs
    in let other : is_feed c ≡ false = is_false (is_feed c) p.0
    in rw other (ap (λ (ls : List (List ℕ)). put_first c ls) (line_first a b p.1))

-- a text without a line feed is one line
pub line_last : (a : List ℕ) → runs_on is_feed a ≡ true → 0 < length a → lines a ≡ a ∷ []
line_last [] runs some = absurd (omega (arith, some))
line_last (c ∷ []) runs some =
    let p = and_parts (not (is_feed c)) true runs
    in let other : is_feed c ≡ false = is_false (is_feed c) p.0
    in rw other refl
line_last (c ∷ d ∷ a) runs some =
    let p = and_parts (not (is_feed c)) (runs_on is_feed (d ∷ a)) runs
    in let other : is_feed c ≡ false = is_false (is_feed c) p.0
    in rw other (ap (λ (ls : List (List ℕ)). put_first c ls) (line_last (d ∷ a) p.1 (omega arith)))

cancel : (t x y : List ℕ) → t ++ x ≡ t ++ y → x ≡ y
cancel [] x y e = e
cancel (c ∷ t) x y e = let s : t ++ x ≡ t ++ y = cc in cancel t x y s

-- a line that begins with the text, by what comes after that
pub begins_if : (line text rest : List ℕ) (b : Bool) → line ≡ text ++ rest → Decides b (EndsLine rest)
    → Decides b (Begins text line)
begins_if line text rest b is ends = (
  λ t. let p = ends.0 t in (p.0, is ∙ ap (λ (x : List ℕ). text ++ x) p.1),
  λ p. ends.1 (p.0, cancel text rest (p.0 ++ 10 ∷ []) (sym is ∙ p.1)),
)

-- a text that ends with a line feed, by what comes before that
pub ends_if : (text : List ℕ) (front : Option (Bor (List ℕ))) (b : Bool) → b ≡ is_some front
    → MatchOption front ((x : List ℕ) → text ≢ x ++ 10 ∷ []) (λ x. text ≡ x.now ++ 10 ∷ []) → Decides b (EndsLine text)
ends_if text None b is none = (λ t. absurd (cc), λ p. absurd (none p.0 p.1))
ends_if text (Some x) b is some = (λ t. (x.now, some), λ p. is)
