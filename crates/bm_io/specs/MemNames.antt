-- The file of a name, its octets, and what opening it gives.
use Rattle.std.specs.Prelude.{◌≡◌, ℕ, List, Option, Some, None, Result, Ok, Err}
use Rattle.bm_io.specs.declared.fault.IoFault.{IoFault}
use Rattle.bm_io.specs.declared.fault.IoFault.TheVariants.{Failed, Memory}
use Rattle.bm_io.specs.declared.mem.MemSource.{MemSource}
use Rattle.bm_io.specs.declared.mem_file.MemFile.{MemFile}
use Rattle.bm_io.specs.Named.{find_by, octets_by}

-- the first file of this name
abbrev pub file_of : List MemFile → List ℕ → Option MemFile
file_of files name = find_by (λ file. file.name) name files

abbrev pub octets_in : Option MemFile → List ℕ
octets_in found = octets_by (λ file. file.octets) found

-- the octets of a name, none for one that isn't there
abbrev pub octets_of : List MemFile → List ℕ → List ℕ
octets_of files name = octets_in (file_of files name)

-- The source has the file's step and is to fail at the file's calls, and no call was made yet.
abbrev pub IsSourceOf : MemFile → MemSource → Type 0
IsSourceOf file src = (src.step ≡ file.step) × (src.fails.items ≡ file.fails) × (src.calls ≡ 0)

-- A file that is there gives its source, or memory is refused. One that isn't there gives an error.
abbrev pub Opens : Option MemFile → Result MemSource IoFault → Type 0
Opens None (Ok src) = ⊥
Opens None (Err e) = Unit {0}
Opens (Some file) (Ok src) = IsSourceOf file src
Opens (Some file) (Err Failed) = ⊥
Opens (Some file) (Err Memory) = Unit {0}
