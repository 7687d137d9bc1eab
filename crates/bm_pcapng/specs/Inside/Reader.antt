-- What the contracts of private calls and the proofs of bodies use in addition to Reader.
use Rattle.std.specs.Prelude.{ℕ, ◌+◌, ◌≤◌, List, [], length, Option, Some}
use Rattle.std.specs.Prelude.{None, Result, Ok, Err}
use Rattle.bm_pcapng.specs.declared.content.Content.TheVariants.{Holds}
use Rattle.bm_pcap.specs.declared.fault.CaptureFault.{CaptureFault}
use Rattle.bm_pcapng.specs.declared.reader.Stop.{Stop}
use Rattle.bm_pcapng.specs.declared.reader.Stop.TheVariants as stop
use Rattle.bm_pcapng.specs.declared.section.Section.{Section}
use Rattle.bm_pcapng.specs.declared.step.Step.{Step}
use Rattle.bm_pcapng.specs.declared.step.Step.TheVariants.{Block, Cut, End}
use Rattle.bm_pcapng.specs.Causes.{IsBlockFault}
use Rattle.bm_pcapng.specs.Inside.Parts.{last_of}
use Rattle.bm_pcapng.specs.Reader.{Reader, Refuses, IsOpened, Stops}

-- as many octets as a packet's block has were taken
abbrev pub IsStopLast : List ℕ → Stop → Type 0
IsStopLast passed (stop.Packet number n packet) =
    (n ≤ length passed) × (packet.at + packet.len ≤ n)
IsStopLast passed other = Unit {0}

-- what a reader that has ended returns is no block, and its faults are those of blocks
abbrev pub EndsWell : Option (Result Step CaptureFault) → Type 0
EndsWell None = Unit {0}
EndsWell (Some (Ok (Block n content))) = ⊥
EndsWell (Some (Ok Cut)) = Unit {0}
EndsWell (Some (Ok End)) = Unit {0}
EndsWell (Some (Err e)) = IsBlockFault e

-- The first block of the capture is read.
abbrev pub OpensIn : Option (List ℕ) → Result Section CaptureFault → Type 0
OpensIn old (Ok section) = IsOpened old section.order
OpensIn old (Err e) = Refuses old e

-- What was found: a packet, with its number, in a block of n octets.
abbrev pub GivesStop : {S : Type 0} → (S → Option (List ℕ)) → (S → ℕ) → Reader S → Reader S
    → Result Stop CaptureFault → Type 0
GivesStop left faults old new (Ok (stop.Packet number n packet)) =
    Stops left faults old new number (Ok (Block n (Holds packet))) (last_of n new.passed)
GivesStop left faults old new (Ok (stop.Cut number)) = Stops left faults old new number (Ok Cut) []
GivesStop {S} left faults old new (Ok stop.End) =
    (number : ℕ) × Stops left faults old new number (Ok End) []
GivesStop {S} left faults old new (Err e) =
    (number : ℕ) × Stops left faults old new number (Err e) []
