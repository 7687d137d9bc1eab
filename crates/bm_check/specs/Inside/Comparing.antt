-- Comparing two texts.
use Rattle.std.specs.Prelude.{ℕ, suc, ◌==◌, if◌then◌else◌, List, [], ◌∷◌}

-- how many line feeds the text has
abbrev pub feeds : List ℕ → ℕ
feeds [] = 0
feeds (c ∷ text) = if c == 10 then suc (feeds text) else feeds text
