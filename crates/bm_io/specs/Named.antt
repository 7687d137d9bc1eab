-- Files in memory, by name.
use Rattle.std.specs.Prelude.{ℕ, List, [], ◌∷◌, if◌then◌else◌, Option, Some, None}
use Rattle.std.specs.Str.{bytes_eq}

-- the first of these that has the name
abbrev pub find_by : {X : Type 0} → (X → List ℕ) → List ℕ → List X → Option X
find_by name_of name [] = None
find_by name_of name (file ∷ files) =
    if bytes_eq (name_of file) name then Some file else find_by name_of name files

-- its octets; none where there is no file
abbrev pub octets_by : {X : Type 0} → (X → List ℕ) → Option X → List ℕ
octets_by octets_of None = []
octets_by octets_of (Some file) = octets_of file
