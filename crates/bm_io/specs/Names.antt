-- What is known of files by name.
use Rattle.std.specs.Prelude.{◌≡◌, ℕ, suc, List, [], ◌∷◌, ◌++◌, Result, Ok, Err}
use Rattle.std.specs.declared.option.Option.{Option}
use Rattle.std.specs.declared.option.Option.TheVariants.{Some, None}
use Rattle.bm_io.specs.declared.fault.IoFault.{IoFault}
use Rattle.bm_io.specs.declared.fault.IoFault.TheVariants.{Failed, Memory}
use Rattle.bm_io.specs.declared.opening.Opening.{Opening}

-- If the octets of each name are known, the source has those of this name left.
abbrev pub HasOctetsOf : Option (List ℕ → List ℕ) → List ℕ → Option (List ℕ) → Type 0
HasOctetsOf None name left = Unit {0}
HasOctetsOf (Some octets) name left = left ≡ Some (octets name)

-- This name was asked for, after so many failures, while so many sources were open.
abbrev pub opening : ℕ → ℕ → List ℕ → Opening
opening faults held name = record { name = name; faults = faults; open_now = held }

-- What was asked for has these at its end in addition.
abbrev pub Adds : Option (List Opening) → Option (List Opening) → List Opening → Type 0
Adds None new more = Unit {0}
Adds (Some old) new more = new ≡ Some (old ++ more)

-- The name was asked for, unless memory ran out.
abbrev pub Asks : {T : Type 0} → Option (List Opening) → Option (List Opening) → Opening
    → Result T IoFault → Type 0
Asks old new asked (Ok x) = Adds old new (asked ∷ [])
Asks old new asked (Err Failed) = Adds old new (asked ∷ [])
Asks old new asked (Err Memory) = new ≡ old

-- how many sources are open after a call that was to open one more
abbrev pub open_after : {T E : Type 0} → Result T E → ℕ → ℕ
open_after (Ok x) before = suc before
open_after (Err e) before = before
