-- Calls that are asked to fail, by their numbers, counted from 1, and how failures are counted.
use Rattle.std.specs.Prelude.{ℕ, ◌+◌, ◌-◌, ◌^◌, Bool, true, false, ◌==◌, min, List, if◌then◌else◌}
use Rattle.std.specs.Prelude.{Result, Ok, Err}
use Rattle.std.specs.List.{list_any}
use Rattle.bm_io.specs.declared.fault.IoFault.{IoFault}
use Rattle.bm_io.specs.declared.fault.IoFault.TheVariants.{Failed, Memory}

-- the number of the next call, after this many calls; it never passes 2^64 - 1
abbrev pub next_call : ℕ → ℕ
next_call calls = min (calls + 1) (2 ^ 64 - 1)

-- the call of this number is to fail
abbrev pub is_asked : List ℕ → ℕ → Bool
is_asked fails call = list_any (λ n. n == call) fails

-- the count of failures after a call that failed or didn't; it never passes 2^64 - 1
abbrev pub faults_after : Bool → ℕ → ℕ
faults_after failed faults = if failed then min (faults + 1) (2 ^ 64 - 1) else faults

-- it failed, and not because memory was refused
abbrev pub has_failed : {T : Type 0} → Result T IoFault → Bool
has_failed (Ok x) = false
has_failed (Err Failed) = true
has_failed (Err Memory) = false
