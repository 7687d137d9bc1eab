-- What the contracts of private calls and the proofs of bodies use in addition to MemNames.
use Rattle.std.specs.Prelude.{Option, Some, None}
use Rattle.bm_io.specs.declared.mem.MemSource.{MemSource}
use Rattle.bm_io.specs.declared.mem_file.MemFile.{MemFile}
use Rattle.bm_io.specs.MemNames.{IsSourceOf}

-- The same, where there is a file.
abbrev pub IsSourceOfFound : Option MemFile → MemSource → Type 0
IsSourceOfFound None src = Unit {0}
IsSourceOfFound (Some file) src = IsSourceOf file src
