-- What the contracts of private calls and the proofs of bodies use in addition to Reader.
use Rattle.std.specs.Prelude.{ℕ, ◌≤◌, ◌-◌, List, [], drop, length, Option, Some, None}
use Rattle.std.specs.Prelude.{Result, Ok, Err}
use Rattle.bm_pcap.specs.declared.fault.CaptureFault.{CaptureFault}
use Rattle.bm_pcap.specs.declared.step.Step.{Step}
use Rattle.bm_pcap.specs.declared.step.Step.TheVariants as step
use Rattle.bm_pcap.specs.Causes.{IsRecordFault}

-- a record's octets are the last that were taken
abbrev pub own_octets : Result Step CaptureFault → List ℕ → List ℕ
own_octets (Ok (step.Record time len)) passed = drop (length passed - len) passed
own_octets (Ok step.Cut) passed = []
own_octets (Ok step.End) passed = []
own_octets (Err e) passed = []

-- as many octets as a record has were taken
abbrev pub IsLast : List ℕ → Step → Type 0
IsLast passed (step.Record time len) = len ≤ length passed
IsLast passed step.Cut = Unit {0}
IsLast passed step.End = Unit {0}

-- what a reader that has ended returns is no record, and its faults are those of records
abbrev pub EndsWell : Option (Result Step CaptureFault) → Type 0
EndsWell None = Unit {0}
EndsWell (Some (Ok (step.Record time len))) = ⊥
EndsWell (Some (Ok step.Cut)) = Unit {0}
EndsWell (Some (Ok step.End)) = Unit {0}
EndsWell (Some (Err e)) = IsRecordFault e
