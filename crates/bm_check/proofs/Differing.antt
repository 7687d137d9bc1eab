-- Where two texts part, their lines differ first.
use Rattle.std.proofs.Common.{◌≡◌, ℕ, zero, suc, ◌+◌, ◌<◌, ◌≤◌, ◌==◌, false, inl, inr, List, [], ◌∷◌, ◌++◌, length, refl, ap, sym}
use Rattle.std.proofs.Common.{◌-◌, ◌∙◌, arith, get_or, take, drop, subst}
use Rattle.std.specs.Prelude.{◌≢◌, slice_index}
use Rattle.std.proofs.Math.Seq.{take-append-add, take-length, take-suc}
use Rattle.std.specs.Prelude.{if◌then◌else◌}
use Rattle.std.proofs.lemmas.Bool.{cases_Bool, eqb-true}
use Rattle.std.proofs.lemmas.Bool.Decides.{eqb_tells}
use Rattle.std.proofs.lemmas.List.{append-nil, append_assoc, length-append, take-append-drop, take-append-le, take_rest}
use Rattle.bm_check.specs.Answers.{DifferAt, IsLeast}
use Rattle.bm_check.specs.Inside.Comparing.{feeds}
use Rattle.bm_check.specs.Lines.{lines, put_first}

-- one of the texts has ended, or they begin with different octets
abbrev Part : List ℕ → List ℕ → Type 0
Part [] [] = ⊥
Part [] (d ∷ b) = Unit {0}
Part (c ∷ a) [] = Unit {0}
Part (c ∷ a) (d ∷ b) = c ≢ d

put_head : (c : ℕ) (ls : List (List ℕ)) → get_or (put_first c ls) 0 [] ≡ c ∷ get_or ls 0 []
put_head c [] = refl
put_head c (l ∷ ls) = refl

put_tail : (c : ℕ) (ls : List (List ℕ)) (i : ℕ) → get_or (put_first c ls) (suc i) [] ≡ get_or ls (suc i) []
put_tail c [] i = refl
put_tail c (l ∷ ls) i = refl

same_tail : (c d : ℕ) (x y : List ℕ) → c ∷ x ≡ d ∷ y → x ≡ y
same_tail c d x y e = cc

same_head : (c d : ℕ) (x y : List ℕ) → c ∷ x ≡ d ∷ y → c ≡ d
same_head c d x y e = cc

put_same : (c : ℕ) (ls ms : List (List ℕ)) (i : ℕ) → get_or ls i [] ≡ get_or ms i []
    → get_or (put_first c ls) i [] ≡ get_or (put_first c ms) i []
put_same c ls ms zero same = put_head c ls ∙ ap (λ (l : List ℕ). c ∷ l) same ∙ sym (put_head c ms)
put_same c ls ms (suc i) same = put_tail c ls i ∙ same ∙ sym (put_tail c ms i)

put_differ : (c : ℕ) (ls ms : List (List ℕ)) (i : ℕ) → get_or ls i [] ≢ get_or ms i []
    → get_or (put_first c ls) i [] ≢ get_or (put_first c ms) i []
put_differ c ls ms zero differ =
    λ same. differ (same_tail c c (get_or ls 0 []) (get_or ms 0 []) (sym (put_head c ls) ∙ same ∙ put_head c ms))
put_differ c ls ms (suc i) differ = λ same. differ (sym (put_tail c ls i) ∙ same ∙ put_tail c ms i)

-- the first line begins as the text
begins_line : (c : ℕ) (a : List ℕ) → (rest : List ℕ) × (get_or (lines (c ∷ a)) 0 [] ≡ c ∷ rest)
begins_line c a = elim (cases_Bool (c == 10)) [
  | inl feed ↦ let is : c ≡ 10 = eqb-true c 10 feed in ([], rw feed (ap (λ (x : ℕ). x ∷ []) (sym is)))
  | inr other ↦ (get_or (lines a) 0 [], rw other (put_head c (lines a)))
]

heads_differ : (a b : List ℕ) → Part a b → get_or (lines a) 0 [] ≢ get_or (lines b) 0 []
heads_differ [] [] part = absurd part
heads_differ [] (d ∷ b) part = let head = begins_line d b in λ same. let no : [] ≡ d ∷ head.0 = same ∙ head.1 in absurd (cc)
heads_differ (c ∷ a) [] part =
    let head = begins_line c a in λ same. let no : c ∷ head.0 ≡ [] = sym head.1 ∙ same in absurd (cc)
heads_differ (c ∷ a) (d ∷ b) part =
    let head = begins_line c a
    in let other = begins_line d b
    in λ same. part (same_head c d head.0 other.0 (sym head.1 ∙ same ∙ other.1))

differ_here : (p a b : List ℕ) → Part a b → get_or (lines (p ++ a)) (feeds p) [] ≢ get_or (lines (p ++ b)) (feeds p) []
differ_here [] a b part = heads_differ a b part
differ_here (c ∷ p) a b part = elim (cases_Bool (c == 10)) [
  | inl feed ↦ rw feed (differ_here p a b part)
  | inr other ↦ rw other (put_differ c (lines (p ++ a)) (lines (p ++ b)) (feeds p) (differ_here p a b part))
]

same_before : (p a b : List ℕ) (i : ℕ) → i < feeds p → get_or (lines (p ++ a)) i [] ≡ get_or (lines (p ++ b)) i []
same_before [] a b i early = absurd (omega (arith, early))
same_before (c ∷ p) a b zero early = elim (cases_Bool (c == 10)) [
  | inl feed ↦ rw feed refl
  | inr other ↦
      let sooner : 0 < feeds p = rw other at early
      in rw other (put_same c (lines (p ++ a)) (lines (p ++ b)) 0 (same_before p a b 0 sooner))
]
same_before (c ∷ p) a b (suc i) early = elim (cases_Bool (c == 10)) [
  | inl feed ↦
      let sooner : suc i < suc (feeds p) = rw feed at early
      in rw feed (same_before p a b i (omega (arith, sooner)))
  | inr other ↦
      let sooner : suc i < feeds p = rw other at early
      in rw other (put_same c (lines (p ++ a)) (lines (p ++ b)) (suc i) (same_before p a b (suc i) sooner))
]

least : (p a b : List ℕ) → Part a b → IsLeast (DifferAt (p ++ a) (p ++ b)) (suc (feeds p))
least p a b part = (differ_here p a b part, earlier) where
  earlier : (m : ℕ) → m < suc (feeds p) → DifferAt (p ++ a) (p ++ b) m → ⊥
  earlier zero early differ = differ
  earlier (suc i) early differ = differ (same_before p a b i (omega (arith, early)))

part_here : (a b : List ℕ) (i : ℕ) → (i ≡ length a → i ≡ length b → ⊥) → i ≤ length a → i ≤ length b
    → (i < length a → i < length b → slice_index a i ≢ slice_index b i) → Part (drop i a) (drop i b)
part_here [] [] zero more la lb ends = more refl refl
part_here [] (d ∷ b) zero more la lb ends = tt
part_here (c ∷ a) [] zero more la lb ends = tt
part_here (c ∷ a) (d ∷ b) zero more la lb ends = ends (omega arith) (omega arith)
part_here [] b (suc i) more la lb ends = absurd (omega (arith, la))
part_here (c ∷ a) [] (suc i) more la lb ends = absurd (omega (arith, lb))
part_here (c ∷ a) (d ∷ b) (suc i) more la lb ends =
    part_here a b i (λ p q. more (ap suc p) (ap suc q)) (omega (arith, la)) (omega (arith, lb))
    (λ p q. ends (omega (arith, p)) (omega (arith, q)))

-- where the texts are the same up to a place, and no further
pub first_differ : (a b : List ℕ) (i : ℕ) → (i ≡ length a → i ≡ length b → ⊥) → i ≤ length a → i ≤ length b
    → take i a ≡ take i b → (i < length a → i < length b → slice_index a i ≢ slice_index b i)
    → IsLeast (DifferAt a b) (suc (feeds (take i a)))
first_differ a b i more la lb same ends =
    subst (λ (x : List ℕ). IsLeast (DifferAt a x) (suc (feeds (take i a))))
    (ap (λ (p : List ℕ). p ++ drop i b) same ∙ take-append-drop i b)
    (subst (λ (x : List ℕ). IsLeast (DifferAt x (take i a ++ drop i b)) (suc (feeds (take i a)))) (take-append-drop i a)
    (least (take i a) (drop i a) (drop i b) (part_here a b i more la lb ends)))

-- where a text and another are the same up to a place after their common beginning, and no further
pub differ_after : (first rest other : List ℕ) (m : ℕ)
    → (m ≡ length rest → m ≡ length other → ⊥) → m ≤ length rest → m ≤ length other
    → take m rest ≡ take m other
    → (m < length rest → m < length other → slice_index rest m ≢ slice_index other m)
    → IsLeast (DifferAt (first ++ rest) (first ++ other)) (suc (feeds (take (length first + m) (first ++ rest))))
differ_after first rest other m more lr lo same ends =
    let p : List ℕ = first ++ take m rest
    in let whole : p ++ drop m rest ≡ first ++ rest =
    append_assoc first (take m rest) (drop m rest) ∙ ap (λ (l : List ℕ). first ++ l) (take-append-drop m rest)
    in let written : p ++ drop m other ≡ first ++ other =
    append_assoc first (take m rest) (drop m other) ∙ ap (λ (l : List ℕ). first ++ (l ++ drop m other)) same
    ∙ ap (λ (l : List ℕ). first ++ l) (take-append-drop m other)
    in let here : IsLeast (DifferAt (p ++ drop m rest) (p ++ drop m other)) (suc (feeds p)) =
    least p (drop m rest) (drop m other) (part_here rest other m more lr lo ends)
    in subst (λ (q : List ℕ). IsLeast (DifferAt (first ++ rest) (first ++ other)) (suc (feeds q)))
    (sym (take-append-add first rest m))
    (subst (λ (x : List ℕ). IsLeast (DifferAt (first ++ rest) x) (suc (feeds p))) written
    (subst (λ (x : List ℕ). IsLeast (DifferAt x (p ++ drop m other)) (suc (feeds p))) whole here))

pub same_whole : (a b : List ℕ) (m : ℕ) → m ≡ length a → m ≡ length b → take m a ≡ take m b → a ≡ b
same_whole a b m la lb same =
    sym (ap (λ (k : ℕ). take k a) la ∙ take-length a) ∙ same ∙ (ap (λ (k : ℕ). take k b) lb ∙ take-length b)

index_left : (a b : List ℕ) (m : ℕ) → m < length a → slice_index (a ++ b) m ≡ slice_index a m
index_left [] b m below = absurd (omega (arith, below))
index_left (c ∷ a) b zero below = refl
index_left (c ∷ a) b (suc m) below = index_left a b m (omega (arith, below))

-- where a text doesn't begin with the first part of another
pub differ_within : (text first second : List ℕ) (m : ℕ) → ((rest : List ℕ) → text ≢ first ++ rest)
    → m ≤ length text → m ≤ length first → take m text ≡ take m first
    → (m < length text → m < length first → slice_index text m ≢ slice_index first m)
    → IsLeast (DifferAt text (first ++ second)) (suc (feeds (take m text)))
differ_within text first second m none lt lf same ends =
    let whole : m ≡ length first → ⊥ =
    λ e. none (drop m text)
    (sym (take-append-drop m text)
    ∙ ap (λ (l : List ℕ). l ++ drop m text) (same ∙ (ap (λ (k : ℕ). take k first) e ∙ take-length first)))
    in let below : m < length first = shorter m (length first) lf whole
    in let total = length-append first second
    in first_differ text (first ++ second) m (λ p q. absurd (omega (arith, q, total, below))) lt
    (omega (arith, total, below)) (same ∙ sym (take-append-le m first second lf))
    (λ p q e. ends p below (e ∙ index_left first second m below)) where
      shorter : (n k : ℕ) → n ≤ k → (n ≡ k → ⊥) → n < k
      shorter n k few differ = omega (arith, few, differ)

take_none : (n : ℕ) → take {A = ℕ} n [] ≡ []
take_none zero = refl
take_none (suc n) = refl

-- a first part and a part of what comes after it
take_more : (xs : List ℕ) (n m : ℕ) → take (n + m) xs ≡ take n xs ++ take m (drop n xs)
take_more xs zero m = let same : zero + m ≡ m = omega arith in ap (λ (k : ℕ). take k xs) same
take_more [] (suc n) m = take_none (suc n + m) ∙ sym (take_none m)
take_more (x ∷ xs) (suc n) m =
    let same : suc n + m ≡ suc (n + m) = omega arith
    in ap (λ (k : ℕ). take k (x ∷ xs)) same ∙ ap (λ (l : List ℕ). x ∷ l) (take_more xs n m)

pub no_item : (xs : List ℕ) → length xs ≡ 0 → xs ≡ []
no_item [] none = refl
no_item (x ∷ xs) none = absurd (omega (arith, none))

-- a piece whose first part is as expected
pub as_expected : (expected other piece written : List ℕ) (n m : ℕ) → other ≡ []
    → take n expected ++ other ≡ written → take m (take (length expected - n) (drop n expected)) ≡ take m piece
    → take (n + m) expected ++ (other ++ drop m piece) ≡ written ++ piece
as_expected expected other piece written n m none is same =
    let begins : take m (drop n expected) ≡ take m piece =
    ap (λ (l : List ℕ). take m l) (sym (take_rest expected n)) ∙ same
    in let before : take n expected ≡ written =
    sym (append-nil (take n expected)) ∙ ap (λ (l : List ℕ). take n expected ++ l) (sym none) ∙ is
    in ap (λ (l : List ℕ). l ++ (other ++ drop m piece))
    (take_more expected n m ∙ ap (λ (l : List ℕ). take n expected ++ l) begins)
    ∙ ap (λ (l : List ℕ). take n expected ++ take m piece ++ (l ++ drop m piece)) none
    ∙ append_assoc (take n expected) (take m piece) (drop m piece)
    ∙ ap (λ (l : List ℕ). take n expected ++ l) (take-append-drop m piece) ∙ ap (λ (l : List ℕ). l ++ piece) before

feeds_append : (a : List ℕ) (c : ℕ) → feeds (a ++ c ∷ []) ≡ (if c == 10 then suc (feeds a) else feeds a)
feeds_append [] c = refl
feeds_append (d ∷ a) c = elim (cases_Bool (d == 10)) [
  | inl feed ↦ elim (cases_Bool (c == 10)) [
    | inl also ↦ let r = feeds_append a c in rw (feed, also) (let s : feeds (a ++ c ∷ []) ≡ suc (feeds a) = rw also at r in ap suc s)
    | inr not ↦ let r = feeds_append a c in rw (feed, not) (let s : feeds (a ++ c ∷ []) ≡ feeds a = rw not at r in ap suc s)
  ]
  | inr other ↦ rw other (feeds_append a c)
]

-- the line feeds up to a place, and those up to the next one
pub feeds_more : (text : List ℕ) (i : ℕ) → i < length text
    → feeds (take (i + 1) text)
    ≡ (if slice_index text i == 10 then suc (feeds (take i text)) else feeds (take i text))
feeds_more text i below =
    let next : i + 1 ≡ suc i = omega arith
    in ap (λ (n : ℕ). feeds (take n text)) next ∙ ap feeds (take-suc text i 0 below)
    ∙ feeds_append (take i text) (slice_index text i)

pub no_eqb : (a b : ℕ) → (a ≡ b → ⊥) → (a == b) ≡ false
no_eqb a b differ = elim (eqb_tells a b) [
  | inl same ↦ absurd (differ same.1)
  | inr other ↦ other.0
]
