-- What reading a block or a step of a capture gives.
use Rattle.std.specs.Prelude.{◌≡◌, ℕ, ◌+◌, ◌≤◌, ◌<◌, List, length, take, drop, Option, Some}
use Rattle.std.specs.Prelude.{None, Result, Ok, Err, IsErrOf}
use Rattle.bm_pcap.specs.declared.form.Order.{Order}
use Rattle.bm_pcap.specs.Limits.{longest, most_records}
use Rattle.bm_pcapng.specs.declared.content.Content.{Content}
use Rattle.bm_pcapng.specs.declared.content.Content.TheVariants as content
use Rattle.bm_pcap.specs.declared.fault.CaptureFault.{CaptureFault}
use Rattle.bm_pcap.specs.declared.fault.CaptureFault.TheVariants.{ReadFault}
use Rattle.bm_pcapng.specs.declared.interface.Interface.{Interface}
use Rattle.bm_pcapng.specs.declared.place.Place.{Place}
use Rattle.bm_pcapng.specs.declared.step.Step.{Step}
use Rattle.bm_pcapng.specs.declared.step.Step.TheVariants as step
use Rattle.bm_pcapng.specs.Blocks.{next_of}
use Rattle.bm_pcapng.specs.Limits.{longest_block, most_interfaces}

-- a section has room for what its block says
abbrev pub IsRoomFor : List Interface → Content → Type 0
IsRoomFor interfaces (content.Describes interface) = length interfaces < most_interfaces
IsRoomFor interfaces other = Unit {0}

-- a packet is in its block, of n octets, and fits its place
abbrev pub HoldsAt : Place → ℕ → Content → Type 0
HoldsAt place n (content.Holds packet) =
    (place.number ≤ most_records) × (packet.at + packet.len ≤ n) × (packet.len ≤ longest)
HoldsAt place n other = Unit {0}

-- a block fits its place
abbrev pub StepFits : List Interface → Place → Step → Type 0
StepFits interfaces place (step.Block n said) =
    (12 ≤ n) × (n ≤ longest_block) × (n ≤ place.room) × IsRoomFor interfaces said
    × HoldsAt place n said
StepFits interfaces place other = Unit {0}

-- These octets alone are no whole block and have no fault: what follows them decides.
abbrev pub IsOpen : Result Step CaptureFault → Type 0
IsOpen (Ok (step.Block n said)) = ⊥
IsOpen (Ok step.Cut) = Unit {0}
IsOpen (Ok step.End) = Unit {0}
IsOpen (Err e) = ⊥

-- A read fails only if the octets that were read ahead don't decide what comes next: a whole block,
-- or a fault of the capture, is returned first.
abbrev pub FailsOpen : {T : Type 0} → Order → List Interface → Place → Result T CaptureFault → List ℕ
    → Type 0
FailsOpen order interfaces place result ahead =
    IsErrOf result ReadFault → IsOpen (next_of order interfaces place ahead)

-- What was returned is what comes next, a block with its own octets, and what follows is still to
-- come. After a failed read nothing is lost. If the source's octets aren't known, nothing is said.
abbrev pub BlockGives : Option (List ℕ) → Option (List ℕ) → Order → List Interface → Place
    → Result Step CaptureFault → List ℕ → Type 0
BlockGives None new order interfaces place result own = Unit {0}
BlockGives (Some octets) new order interfaces place (Ok (step.Block n said)) own =
    (next_of order interfaces place octets ≡ Ok (step.Block n said))
    × (own ≡ take n octets)
    × (new ≡ Some (drop n octets))
BlockGives (Some octets) new order interfaces place (Err ReadFault) own = new ≡ Some octets
BlockGives (Some octets) new order interfaces place result own =
    (next_of order interfaces place octets ≡ result) × (new ≡ Some octets)
