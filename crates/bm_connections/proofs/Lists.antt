-- One element more of a list that is gone through.
use Rattle.std.proofs.Common.{◌≡◌, ℕ, ◌+◌, ◌<◌, Bool, List, [], ◌∷◌, ◌++◌, length, take, get_or, map}
use Rattle.std.proofs.Common.{filter, sym, ap, ◌∙◌, arith}
use Rattle.std.proofs.lemmas.Grind.{common_steps}
use Rattle.std.proofs.lemmas.List.{map-append}
use Rattle.std.proofs.lemmas.List.Elements.{filter-append}

-- one element more under a map
pub mapped_more : {X Y : Type 0} (g : X → Y) (xs : List X) (i : ℕ) (d : X) (y : Y) (old new : List Y) →
    i < length xs → y ≡ g (get_or xs i d) → new ≡ old ++ y ∷ [] → old ≡ map g (take i xs) →
    new ≡ map g (take (i + 1) xs)
mapped_more g xs i d y old new below is n o =
    let e : take (i + 1) xs ≡ take i xs ++ get_or xs i d ∷ [] = grind (arith, common_steps)
    in n ∙ (λ j. o j ++ is j ∷ []) ∙ sym (ap (map g) e ∙ map-append g (take i xs) (get_or xs i d ∷ []))

-- one element more under a map and a test
pub filtered_more : {X Y : Type 0} (p : Y → Bool) (g : X → Y) (xs : List X) (i : ℕ) (d : X) (y : Y) (old new : List Y) →
    i < length xs → y ≡ g (get_or xs i d) → new ≡ old ++ filter p (y ∷ []) → old ≡ filter p (map g (take i xs)) →
    new ≡ filter p (map g (take (i + 1) xs))
filtered_more p g xs i d y old new below is n o =
    let e : take (i + 1) xs ≡ take i xs ++ get_or xs i d ∷ [] = grind (arith, common_steps)
    in n ∙ ap (λ l. l ++ filter p (y ∷ [])) o ∙ ap (λ z. filter p (map g (take i xs)) ++ filter p (z ∷ [])) is
    ∙ sym (ap (λ l. filter p (map g l)) e ∙ ap (filter p) (map-append g (take i xs) (get_or xs i d ∷ []))
    ∙ filter-append p (map g (take i xs)) (g (get_or xs i d) ∷ []))

-- one element more under a test
pub kept_more : {X : Type 0} (p : X → Bool) (xs : List X) (i : ℕ) (d : X) (old new : List X) →
    i < length xs → new ≡ old ++ filter p (get_or xs i d ∷ []) → old ≡ filter p (take i xs) →
    new ≡ filter p (take (i + 1) xs)
kept_more p xs i d old new below n o =
    let e : take (i + 1) xs ≡ take i xs ++ get_or xs i d ∷ [] = grind (arith, common_steps)
    in n ∙ ap (λ l. l ++ filter p (get_or xs i d ∷ [])) o
    ∙ sym (ap (filter p) e ∙ filter-append p (take i xs) (get_or xs i d ∷ []))
