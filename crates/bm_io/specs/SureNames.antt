-- The file of a name, its octets, and what opening it gives.
use Rattle.std.specs.Prelude.{◌≡◌, ℕ, List, Option, Some, None}
use Rattle.bm_io.specs.declared.sure.SureSource.{SureSource}
use Rattle.bm_io.specs.declared.sure_file.SureFile.{SureFile}
use Rattle.bm_io.specs.Named.{find_by, octets_by}

-- the first file of this name
abbrev pub file_of : List SureFile → List ℕ → Option SureFile
file_of files name = find_by (λ file. file.name) name files

abbrev pub octets_in : Option SureFile → List ℕ
octets_in found = octets_by (λ file. file.octets) found

-- the octets of a name, none for one that isn't there
abbrev pub octets_of : List SureFile → List ℕ → List ℕ
octets_of files name = octets_in (file_of files name)

-- The source has the file's step, where there is a file.
abbrev pub IsSourceOf : Option SureFile → SureSource → Type 0
IsSourceOf None src = Unit {0}
IsSourceOf (Some file) src = src.step ≡ file.step
