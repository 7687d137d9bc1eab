-- The names that the files are asked for.
use Rattle.std.specs.Prelude.{ℕ, List, [], ◌∷◌, map, take, Option, Some, None}
use Rattle.bm_io.specs.Names.{Adds, opening}
use Rattle.bm_cli.specs.Statuses.{FilesDid}

-- These names are asked for, in order. At each of them the files have failed as often as before the
-- call, so that none is asked for after a failure; and this many sources are open.
abbrev pub AsksAll : ℕ → FilesDid → List (List ℕ) → Type 0
AsksAll held files names = Adds files.before files.now (map (opening files.faults held) names)

-- the same for a first part of these names, maybe none
pub record AsksPrefix (held : ℕ) (files : FilesDid) (names : List (List ℕ)) : Type 0 where
  pub count : ℕ
  pub first : AsksAll held files (take count names)

abbrev pub script_names : Option (List ℕ) → List (List ℕ)
script_names None = []
script_names (Some name) = name ∷ []
