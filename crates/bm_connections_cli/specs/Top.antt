-- What the program does, by its exit status.
use Rattle.std.specs.Prelude.{[], ◌∷◌, ℕ, List, Option, Some, None}
use Rattle.bm_cli.specs.Names.{script_names}
use Rattle.bm_connections_words.specs.Words.{Asked, Connections, Help, Lifetime, Version}

-- just the script's name, if the words have one
abbrev pub scripts_in : Option Asked → List (List ℕ)
scripts_in None = []
scripts_in (Some (Connections names options)) = script_names names.script
scripts_in (Some (Lifetime script seconds)) = script ∷ []
scripts_in (Some Help) = []
scripts_in (Some Version) = []
