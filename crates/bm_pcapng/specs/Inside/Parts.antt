-- The parts of a capture, as they are read.
use Rattle.std.specs.Prelude.{◌≡◌, ℕ, ◌+◌, ◌-◌, ◌≤◌, List, [], length, take, drop, Option, Some}
use Rattle.std.specs.Prelude.{None, Result, Ok, Err, IsTrue, true, not, ◌&&◌, nat_lt}
use Rattle.std.specs.Prelude.{if◌then◌else◌}
use Rattle.bm_pcap.specs.declared.form.Order.{Order}
use Rattle.bm_pcap.specs.Header.{number_at}
use Rattle.bm_pcap.specs.Limits.{longest, most_records}
use Rattle.bm_pcapng.specs.declared.block.Kind.{Kind}
use Rattle.bm_pcapng.specs.declared.block.Kind.TheVariants.{SectionHeader}
use Rattle.bm_pcapng.specs.declared.content.Content.{Content}
use Rattle.bm_pcapng.specs.declared.content.Content.TheVariants as content
use Rattle.bm_pcap.specs.declared.fault.CaptureFault.{CaptureFault}
use Rattle.bm_pcap.specs.declared.fault.CaptureFault.TheVariants.{BadBlock, NotACapture, ReadFault}
use Rattle.bm_pcap.specs.declared.fault.CaptureFault.TheVariants.{TooManyPackets}
use Rattle.bm_pcapng.specs.declared.interface.Interface.{Interface}
use Rattle.bm_pcapng.specs.declared.place.Place.{Place}
use Rattle.bm_pcapng.specs.declared.step.Head.{Head}
use Rattle.bm_pcapng.specs.declared.step.Head.TheVariants as head
use Rattle.bm_pcapng.specs.declared.step.Step.{Step}
use Rattle.bm_pcapng.specs.declared.step.Step.TheVariants as step
use Rattle.bm_pcapng.specs.Blocks.{after_head, is_length, is_packet, is_section, least_length}
use Rattle.bm_pcapng.specs.Blocks.{next_of}
use Rattle.bm_pcapng.specs.Blocks.{order_of}
use Rattle.bm_pcapng.specs.Capture.{first_order}
use Rattle.bm_pcapng.specs.Causes.{IsStartFault}
use Rattle.bm_pcapng.specs.Limits.{longest_block}
use Rattle.bm_pcapng.specs.Parts.{IsRoomFor}

-- these octets are the first of the others
abbrev pub Begins : List ℕ → List ℕ → Type 0
Begins ahead octets = take (length ahead) octets ≡ ahead

-- The order that was read is the one that a capture's first octets give. A failed read says
-- nothing.
abbrev pub OrderGives : Option (List ℕ) → Result Order CaptureFault → Type 0
OrderGives None result = Unit {0}
OrderGives (Some octets) (Ok order) = first_order octets ≡ Some order
OrderGives (Some octets) (Err NotACapture) = first_order octets ≡ None
OrderGives (Some octets) (Err e) = Unit {0}

-- If a head states a kind, an order and a total length, what follows the head decides; otherwise
-- the head decides alone. A failed read says nothing.
abbrev pub HeadSays : Result Step CaptureFault → List Interface → Place → List ℕ → Result Head CaptureFault
    → Type 0
HeadSays found interfaces place octets (Ok head.End) = found ≡ Ok step.End
HeadSays found interfaces place octets (Ok head.Cut) = found ≡ Ok step.Cut
HeadSays found interfaces place octets (Ok (head.States kind own n)) =
    found ≡ after_head kind own interfaces place n octets
HeadSays found interfaces place octets (Err ReadFault) = Unit {0}
HeadSays found interfaces place octets (Err e) = found ≡ Err e

abbrev pub HeadGives : Option (List ℕ) → Order → List Interface → Place → Result Head CaptureFault
    → Type 0
HeadGives None order interfaces place result = Unit {0}
HeadGives (Some octets) order interfaces place result =
    HeadSays (next_of order interfaces place octets) interfaces place octets result

-- The octets that were read ahead have the head that states this, whatever follows them.
abbrev pub HeadIn : Order → List Interface → Place → List ℕ → Head → Type 0
HeadIn order interfaces place ahead (head.States kind own n) =
    (octets : List ℕ) → Begins ahead octets
    → next_of order interfaces place octets ≡ after_head kind own interfaces place n octets
HeadIn order interfaces place ahead other = Unit {0}

-- A head after which reading goes on has a length that its kind may have, and fits its place.
abbrev pub HeadFits : Place → Head → Type 0
HeadFits place (head.States kind order n) =
    (least_length kind ≤ n) × (12 ≤ n) × (n ≤ longest_block)
    × (IsTrue (is_packet kind) → place.number ≤ most_records)
HeadFits place other = Unit {0}

-- what a whole head says of a block of this kind, in a section of this order
abbrev pub stated_in : Kind → Option Order → Place → List ℕ → Result Head CaptureFault
stated_in kind None place octets = Err (BadBlock place.block)
stated_in kind (Some own) place octets =
    if not (is_length kind (number_at own 4 4 octets)) then Err (BadBlock place.block)
    else if is_packet kind && nat_lt most_records place.number then Err TooManyPackets
    else Ok (head.States kind own (number_at own 4 4 octets))

abbrev pub stated : Kind → Order → Place → List ℕ → Result Head CaptureFault
stated kind order place octets = stated_in kind (order_of kind order octets) place octets

-- what was read ahead begins with the type of a section header
abbrev pub IsAtSection : List ℕ → Type 0
IsAtSection ahead = (4 ≤ length ahead) × (is_section (take 4 ahead) ≡ true)

-- the head of a section header, or a fault of a capture's first block
abbrev pub StartsSection : Result Head CaptureFault → Type 0
StartsSection (Ok (head.States kind own n)) = kind ≡ SectionHeader
StartsSection (Ok other) = Unit {0}
StartsSection (Err e) = IsStartFault e

-- a packet is in its block, of n octets
abbrev pub IsPacketIn : ℕ → Content → Type 0
IsPacketIn n (content.Holds packet) = (packet.at + packet.len ≤ n) × (packet.len ≤ longest)
IsPacketIn n other = ⊥

-- a packet is in its block, of n octets, whose kind is one of packets
abbrev pub HoldsIn : Kind → ℕ → Content → Type 0
HoldsIn kind n (content.Holds packet) =
    IsTrue (is_packet kind) × (packet.at + packet.len ≤ n) × (packet.len ≤ longest)
HoldsIn kind n other = Unit {0}

-- what a block of this kind, of n octets, may say
abbrev pub IsContentOf : Kind → List Interface → ℕ → Content → Type 0
IsContentOf kind interfaces n said = IsRoomFor interfaces said × HoldsIn kind n said

-- a block of n octets says what one of its kind may say
abbrev pub IsBlockOf : Kind → List Interface → ℕ → Step → Type 0
IsBlockOf kind interfaces n (step.Block size said) =
    (size ≡ n) × IsContentOf kind interfaces n said
IsBlockOf kind interfaces n other = ⊥

-- if the step is a block, all of it was read ahead
abbrev pub StepIn : List ℕ → Step → Type 0
StepIn ahead (step.Block n said) = n ≤ length ahead
StepIn ahead other = Unit {0}

-- What was read is what comes next. A failed read says nothing.
abbrev pub StepGives : Option (List ℕ) → Order → List Interface → Place → Result Step CaptureFault
    → Type 0
StepGives None order interfaces place result = Unit {0}
StepGives (Some octets) order interfaces place (Ok found) =
    next_of order interfaces place octets ≡ Ok found
StepGives (Some octets) order interfaces place (Err ReadFault) = Unit {0}
StepGives (Some octets) order interfaces place (Err e) =
    next_of order interfaces place octets ≡ Err e

-- the last octets
abbrev pub last_of : ℕ → List ℕ → List ℕ
last_of n octets = drop (length octets - n) octets

-- a block's octets are the last that were taken
abbrev pub own_octets : Result Step CaptureFault → List ℕ → List ℕ
own_octets (Ok (step.Block n said)) passed = last_of n passed
own_octets (Ok step.Cut) passed = []
own_octets (Ok step.End) passed = []
own_octets (Err e) passed = []

-- as many octets as a block has were taken
abbrev pub IsLast : List ℕ → Step → Type 0
IsLast passed (step.Block n said) = n ≤ length passed
IsLast passed other = Unit {0}
