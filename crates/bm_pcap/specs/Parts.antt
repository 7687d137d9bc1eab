-- What reading a header or a step of a capture gives.
use Rattle.std.specs.Prelude.{◌≡◌, ℕ, ◌+◌, ◌≤◌, List, drop, Option, Some, None}
use Rattle.std.specs.Prelude.{Result, Ok, Err}
use Rattle.bm_pcap.specs.declared.fault.CaptureFault.{CaptureFault}
use Rattle.bm_pcap.specs.declared.fault.CaptureFault.TheVariants.{Memory, ReadFault}
use Rattle.bm_pcap.specs.declared.form.Form.{Form}
use Rattle.bm_pcap.specs.declared.place.Place.{Place}
use Rattle.bm_pcap.specs.Limits.{latest, longest, most_records}
use Rattle.bm_pcap.specs.declared.step.Step.{Step}
use Rattle.bm_pcap.specs.declared.step.Step.TheVariants as step
use Rattle.bm_pcap.specs.Header.{form_of}

-- What was read is what the capture's header says, and the source has the rest left. A failed read
-- says nothing.
abbrev pub FormGives : Option (List ℕ) → Option (List ℕ) → Result Form CaptureFault → Type 0
FormGives None new result = Unit {0}
FormGives (Some left) new (Ok form) = (form_of left ≡ Ok form) × (new ≡ Some (drop 24 left))
FormGives (Some left) new (Err ReadFault) = Unit {0}
FormGives (Some left) new (Err Memory) = Unit {0}
FormGives (Some left) new (Err e) = form_of left ≡ Err e

-- a record fits its place
abbrev pub StepFits : Place → Step → Type 0
StepFits place (step.Record time len) =
    (place.number ≤ most_records) × (16 + len ≤ place.room) × (len ≤ longest) × (time ≤ latest)
StepFits place other = Unit {0}
