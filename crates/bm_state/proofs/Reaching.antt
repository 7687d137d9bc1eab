-- The default at the end of a list changes no look-up that has this default.
use Rattle.std.proofs.Common.{◌≡◌, ℕ, zero, suc, List, [], ◌∷◌, ◌++◌, get_or, refl}

pub default_push : {X : Type 0} (xs : List X) (d : X) (q : ℕ) → get_or (xs ++ d ∷ []) q d ≡ get_or xs q d
default_push [] d zero = refl
default_push [] d (suc q) = refl
default_push (x ∷ xs) d zero = refl
default_push (x ∷ xs) d (suc q) = default_push xs d q
