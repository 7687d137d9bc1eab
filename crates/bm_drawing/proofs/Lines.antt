-- An item more of a list, and a part more of what is made of its items.
use Rattle.std.proofs.Common.{◌≡◌, ℕ, ◌+◌, ◌-◌, ◌<◌, List, [], ◌∷◌, ◌++◌, length, take, get_or}
use Rattle.std.proofs.Common.{Bool, filter, flat_map, ap, ◌∙◌, sym, subst, arith, map, ◌*◌, ◌/◌, append_assoc}
use Rattle.std.specs.List.{range_with_len}
use Rattle.std.proofs.lemmas.List.FromFn.{map-range_with_len_more}
use Rattle.std.proofs.lemmas.Grind.{common_steps}
use Rattle.std.proofs.lemmas.List.{append-nil}
use Rattle.std.proofs.lemmas.List.Concat.{flat_map-append}
use Rattle.std.proofs.lemmas.List.Elements.{filter-append}

pub line_more : {X Y : Type 0} (line : X → List Y) (xs : List X) (i : ℕ) (d : X) → i < length xs
    → flat_map line (take (i + 1) xs) ≡ flat_map line (take i xs) ++ line (get_or xs i d)
line_more line xs i d below =
    let e : take (i + 1) xs ≡ take i xs ++ get_or xs i d ∷ [] = grind (arith, common_steps)
    in ap (flat_map line) e ∙ flat_map-append line (take i xs) (get_or xs i d ∷ [])
    ∙ ap (λ l. flat_map line (take i xs) ++ l) (append-nil (line (get_or xs i d)))

pub items_more : {X Y : Type 0} (line : X → List Y) (xs : List X) (i : ℕ) (d : X) (old new : List Y) → i < length xs
    → new ≡ old ++ line (get_or xs i d) → old ≡ flat_map line (take i xs)
    → new ≡ flat_map line (take (i + 1) xs)
items_more line xs i d old new below n o =
    n ∙ ap (λ l. l ++ line (get_or xs i d)) o ∙ sym (line_more line xs i d below)

-- under a test, after what was there
pub filtered_more : {X : Type 0} (p : X → Bool) (xs : List X) (i : ℕ) (d : X) (begun old new : List X) → i < length xs
    → new ≡ old ++ filter p (get_or xs i d ∷ []) → old ≡ begun ++ filter p (take i xs)
    → new ≡ begun ++ filter p (take (i + 1) xs)
filtered_more p xs i d begun old new below n o =
    let e : take (i + 1) xs ≡ take i xs ++ get_or xs i d ∷ [] = grind (arith, common_steps) in
    n ∙ ap (λ l. l ++ filter p (get_or xs i d ∷ [])) o
    ∙ append_assoc begun (filter p (take i xs)) (filter p (get_or xs i d ∷ []))
    ∙ ap (λ l. begun ++ l) (sym (ap (filter p) e ∙ filter-append p (take i xs) (get_or xs i d ∷ [])))

-- of the moments of ticks
pub ticks_more : (part : ℕ → List ℕ) (from step f s n : ℕ) (first old new : List ℕ) → f ≡ from → s ≡ step
    → new ≡ old ++ part (f + n * s)
    → old ≡ first ++ flat_map part (map (λ k. from + k * step) (range_with_len 0 n))
    → new ≡ first ++ flat_map part (map (λ k. from + k * step) (range_with_len 0 (n + 1)))
ticks_more part from step f s n first old new begins is added before =
    let here : List ℕ = flat_map part (map (λ k. from + k * step) (range_with_len 0 n)) in
    let more : map (λ k. from + k * step) (range_with_len 0 (n + 1))
    ≡ map (λ k. from + k * step) (range_with_len 0 n) ++ (from + n * step) ∷ []
    = map-range_with_len_more (λ k. from + k * step) 0 n n (omega arith) in
    added ∙ ap (λ t. old ++ part (t + n * s)) begins ∙ ap (λ t. old ++ part (from + n * t)) is
    ∙ ap (λ l. l ++ part (from + n * step)) before
    ∙ append_assoc first here (part (from + n * step))
    ∙ ap (λ l. first ++ l)
    (sym
    (ap (flat_map part) more
    ∙ flat_map-append part (map (λ k. from + k * step) (range_with_len 0 n)) ((from + n * step) ∷ [])
    ∙ ap (λ l. here ++ l) (append-nil (part (from + n * step)))))

-- up to the last one that isn't above the end
pub ticks_all : (part : ℕ → List ℕ) (from step f s end n : ℕ) (first old new : List ℕ) → f ≡ from → s ≡ step
    → n ≡ (end - f) / s → new ≡ old ++ part (f + (end - f) / s * s)
    → old ≡ first ++ flat_map part (map (λ k. from + k * step) (range_with_len 0 n))
    → new ≡ first ++ flat_map part (map (λ k. from + k * step) (range_with_len 0 ((end - from) / step + 1)))
ticks_all part from step f s end n first old new begins is there added before =
    subst
    (λ t. new ≡ first ++ flat_map part (map (λ k. from + k * step) (range_with_len 0 ((end - t) / step + 1)))) begins
    (subst
    (λ t. new ≡ first ++ flat_map part (map (λ k. from + k * step) (range_with_len 0 ((end - f) / t + 1)))) is
    (ticks_more part from step f s ((end - f) / s) first old new begins is added
    (subst (λ m. old ≡ first ++ flat_map part (map (λ k. from + k * step) (range_with_len 0 m))) there before)))
