-- Emptying the first of several lists.
use Rattle.std.specs.Prelude.{ℕ, zero, suc, List, [], ◌∷◌}

-- the lists, the first `count` of them emptied
abbrev pub cleared : ℕ → List (List ℕ) → List (List ℕ)
cleared zero lists = lists
cleared (suc count) [] = []
cleared (suc count) (list ∷ lists) = [] ∷ cleared count lists
