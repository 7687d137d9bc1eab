-- A text that is written part by part: what is written and what is left make the whole.
use Rattle.std.proofs.Common.{◌≡◌, ℕ, ◌+◌, ◌<◌, List, ◌∷◌, ◌++◌, length, drop, get_or, ap, ◌∙◌, sym}
use Rattle.std.proofs.Common.{append_assoc}
use Rattle.std.proofs.lemmas.List.{drop_more}

pub rest_more : {X S : Type 0} (part : S → X → List ℕ) (next : S → X → S) (all : S → List X → List ℕ)
    → ((s : S) (x : X) (xs : List X) → all s (x ∷ xs) ≡ part s x ++ all (next s x) xs)
    → (xs : List X) (i : ℕ) (d : X) (s : S) (whole old new : List ℕ) → i < length xs
    → new ≡ old ++ part s (get_or xs i d) → old ++ all s (drop i xs) ≡ whole
    → new ++ all (next s (get_or xs i d)) (drop (i + 1) xs) ≡ whole
rest_more part next all steps xs i d s whole old new below n o =
    ap (λ l. l ++ all (next s (get_or xs i d)) (drop (i + 1) xs)) n
    ∙ append_assoc old (part s (get_or xs i d)) (all (next s (get_or xs i d)) (drop (i + 1) xs))
    ∙ ap (λ l. old ++ l) (sym (steps s (get_or xs i d) (drop (i + 1) xs)))
    ∙ ap (λ l. old ++ all s l) (sym (drop_more xs i d below))
    ∙ o
