-- A reader of a capture, and what its calls do.
use Rattle.std.specs.Prelude.{◌≡◌, ℕ, ◌≤◌, List, [], length, take, drop, Option, Some}
use Rattle.std.specs.Prelude.{None, Result, Ok, Err}
use Rattle.std.specs.Io.KnownBytes.{prepend_known, Keeps as Keeps_octets}
use Rattle.bm_base.specs.declared.capture.Vip.{Vip}
use Rattle.bm_pcap.specs.declared.form.Order.{Order}
use Rattle.bm_pcapng.specs.declared.content.Content.{Content}
use Rattle.bm_pcapng.specs.declared.content.Content.TheVariants.{Holds}
use Rattle.bm_pcapng.specs.declared.content.Packet.{Packet}
use Rattle.bm_pcap.specs.declared.fault.CaptureFault.{CaptureFault}
use Rattle.bm_pcap.specs.declared.fault.CaptureFault.TheVariants.{Memory}
use Rattle.bm_pcapng.specs.declared.interface.Interface.{Interface}
use Rattle.bm_pcapng.specs.declared.item.NgItem.{NgItem}
use Rattle.bm_pcapng.specs.declared.item.NgItem.TheVariants as item
use Rattle.bm_pcapng.specs.declared.place.Place.{Place}
use Rattle.bm_pcapng.specs.declared.step.Step.{Step}
use Rattle.bm_pcapng.specs.declared.step.Step.TheVariants.{Block, Cut, End}
use Rattle.bm_pcapng.specs.Began.{began, time_or_zero}
use Rattle.bm_pcapng.specs.Blocks.{next_of}
use Rattle.bm_pcapng.specs.Capture.{capture, first_order}
use Rattle.bm_pcap.specs.Capture.{Captured}
use Rattle.bm_pcap.specs.Causes.{HasStepCause}
use Rattle.bm_pcap.specs.Reader.{Captures}
use Rattle.bm_pcapng.specs.Limits.{longest_block}
use Rattle.bm_pcapng.specs.Parts.{BlockGives, FailsOpen, StepFits}
use Rattle.bm_pcapng.specs.Places.{first_place, interfaces_after, order_after, place_after}

-- A reader: the source after what was read ahead, the order of its section's numbers and its
-- interfaces, and the place after what was taken. `buffered` is the octets that were read ahead (see
-- `FailsOpen` in Parts). `passed` is those that were taken last; only contracts of private calls
-- speak of these. `ended` is what the reader returns from now on, if it has ended.
pub record Reader (S : Type 0) : Type 0 where
  pub source : S
  pub order : Order
  pub interfaces : List Interface
  pub place : Place
  pub buffered : List ℕ
  pub passed : List ℕ
  pub ended : Option (Result Step CaptureFault)

-- The octets that aren't consumed yet, if the source's octets are known: those that were read
-- ahead, and then those that the source has left.
abbrev pub to_come : {S : Type 0} → (S → Option (List ℕ)) → Reader S → Option (List ℕ)
to_come left reader = prepend_known reader.buffered (left reader.source)

-- what was read ahead and isn't consumed yet is bounded
abbrev pub IsBounded : {S : Type 0} → Reader S → Type 0
IsBounded reader = length reader.buffered ≤ longest_block

-- the octets of a packet in a block
abbrev pub octets_in : Packet → List ℕ → List ℕ
octets_in packet block = take packet.len (drop packet.at block)

-- nothing was returned yet
abbrev pub IsFresh : {S : Type 0} → Reader S → Type 0
IsFresh reader = (reader.place ≡ first_place) × (reader.ended ≡ None) × (reader.interfaces ≡ [])

-- At the front of a capture that has these octets: the reader has the order that they give, and all
-- of them are to come.
abbrev pub StandsIn : Option (List ℕ) → Order → List ℕ → Type 0
StandsIn left order octets = (first_order octets ≡ Some order) × (left ≡ Some octets)

-- The capture has this fault, for whichever services.
abbrev pub Refuses : Option (List ℕ) → CaptureFault → Type 0
Refuses None e = Unit {0}
Refuses (Some octets) e = (vips : List Vip) → Captures (capture vips octets) (Err e)

-- The first octets of the capture give this order, and its first block has no fault.
abbrev pub IsOpened : Option (List ℕ) → Order → Type 0
IsOpened None order = Unit {0}
IsOpened (Some octets) order =
    (first_order octets ≡ Some order)
    × ((found : Step) × (next_of order [] first_place octets ≡ Ok found))

-- The result is a reader at the front of a capture, or the fault of its first block with the
-- source.
abbrev pub Starts : {S : Type 0} → (S → Option (List ℕ)) → S → Result (Reader S) (S × CaptureFault)
    → Type 0
Starts left old (Ok reader) =
    IsOpened (left old) reader.order × Keeps_octets (left old) (to_come left reader)
Starts left old (Err refused) = Refuses (left old) refused.1

-- A source that is given back is past some octets that were read ahead, and these aren't more than
-- the longest block has.
abbrev pub StartLeaves : {S : Type 0} → (S → Option (List ℕ)) → S → Result (Reader S) (S × CaptureFault)
    → Type 0
StartLeaves left old (Ok reader) = Unit {0}
StartLeaves left old (Err refused) =
    (ahead : List ℕ) × (length ahead ≤ longest_block)
    × Keeps_octets (left old) (prepend_known ahead (left refused.0))

-- the count rises if `ReadFault` is returned, and stays the same otherwise
abbrev pub StartsWithCause : {S : Type 0} → (S → ℕ) → S → Result (Reader S) (S × CaptureFault) → Type 0
StartsWithCause {S} faults old (Ok reader) = faults reader.source ≡ faults old
StartsWithCause {S} faults old (Err refused) =
    HasStepCause {T = Reader S} (faults old) (faults refused.0) (Err refused.1)

-- After a block a reader is at the next place; any other result it keeps, and returns from then on.
abbrev pub Keeps : {S : Type 0} → Reader S → Reader S → Result Step CaptureFault → Type 0
Keeps old new (Ok (Block n content)) =
    StepFits old.interfaces old.place (Block n content)
    × (new.order ≡ order_after old.order content)
    × (new.interfaces ≡ interfaces_after old.interfaces content)
    × (new.place ≡ place_after old.place n content)
    × (new.ended ≡ None)
Keeps old new result =
    (new.order ≡ old.order)
    × (new.interfaces ≡ old.interfaces)
    × (new.place ≡ old.place)
    × (new.ended ≡ Some result)

-- A reader that has ended returns the same again and changes nothing; any other returns what comes
-- next.
abbrev pub AdvancesFrom : {S : Type 0} → (S → Option (List ℕ)) → (S → ℕ)
    → Option (Result Step CaptureFault) → Reader S → Reader S → Result Step CaptureFault → List ℕ → Type 0
AdvancesFrom left faults (Some ended) old new result own = (result ≡ ended) × (new ≡ old)
AdvancesFrom left faults None old new result own =
    BlockGives (to_come left old) (to_come left new) old.order old.interfaces old.place result own
    × HasStepCause (faults old.source) (faults new.source) result
    × Keeps old new result
    × FailsOpen old.order old.interfaces old.place result new.buffered

abbrev pub Advances : {S : Type 0} → (S → Option (List ℕ)) → (S → ℕ) → Reader S → Reader S
    → Result Step CaptureFault → List ℕ → Type 0
Advances left faults old new result own = AdvancesFrom left faults old.ended old new result own

-- a block without a packet
abbrev pub IsPassedOver : Content → Type 0
IsPassedOver (Holds packet) = ⊥
IsPassedOver other = Unit {0}

-- Skipping blocks without a packet leads from one reader to the other.
pub data Passes {S : Type 0} (left : S → Option (List ℕ)) (faults : S → ℕ) (from : Reader S)
    : Reader S → Type 0 where
  here : Passes left faults from from
  over : (mid new : Reader S) (n : ℕ) (content : Content) (own : List ℕ)
      → Passes left faults from mid
      → IsPassedOver content → Advances left faults mid new (Ok (Block n content)) own
      → Passes left faults from new

-- After blocks without a packet the reader returns this, a block with its own octets.
abbrev pub Stops : {S : Type 0} → (S → Option (List ℕ)) → (S → ℕ) → Reader S → Reader S → ℕ
    → Result Step CaptureFault → List ℕ → Type 0
Stops {S} left faults old new number result own =
    (mid : Reader S)
    × (Passes left faults old mid × Advances left faults mid new result own
    × (number ≡ mid.place.number))

-- What `next` returns, and what it leaves. A record has the number of its place, its moment, the
-- link type of its interface, and its octets, which are in its block's.
abbrev pub GivesNext : {S : Type 0} → (S → Option (List ℕ)) → (S → ℕ) → Reader S → Reader S
    → Result NgItem CaptureFault → Type 0
GivesNext left faults old new (Ok (item.Record number moment link octets)) =
    (n : ℕ) × ((packet : Packet) × ((block : List ℕ)
    × (Stops left faults old new number (Ok (Block n (Holds packet))) block
    × (moment ≡ new.place.last)
    × (link ≡ packet.link)
    × (octets.now ≡ octets_in packet block))))
GivesNext left faults old new (Ok (item.Cut number)) = Stops left faults old new number (Ok Cut) []
GivesNext left faults old new (Ok item.End) =
    (number : ℕ) × Stops left faults old new number (Ok End) []
GivesNext left faults old new (Err e) = (number : ℕ) × Stops left faults old new number (Err e) []

abbrev pub ReadsCapture : {S : Type 0} → (S → Option (List ℕ)) → Reader S → List Vip → Captured
    → Type 0
ReadsCapture left reader vips result =
    (octets : List ℕ) → StandsIn (to_come left reader) reader.order octets
    → Captures (capture vips octets) result

-- the time of the first packet that has one, or 0 before such a packet was returned
abbrev pub time_began : {S : Type 0} → Reader S → ℕ
time_began reader = time_or_zero reader.place.first

-- A reader whose capture was read knows when it began.
abbrev pub KnowsBegan : {S : Type 0} → (S → Option (List ℕ)) → Reader S → Reader S → Type 0
KnowsBegan left old new =
    (octets : List ℕ) → StandsIn (to_come left old) old.order octets → time_began new ≡ began octets

-- what a reader returns from now on, after its capture was read to the end or to the record that is
-- cut short
abbrev pub last_step : Option ℕ → Step
last_step None = End
last_step (Some number) = Cut

-- A reader whose capture was read returns the cut or the end from now on; if the capture has a
-- fault, that fault. `Memory` says nothing.
abbrev pub HasEnded : Captured → Option (Result Step CaptureFault) → Type 0
HasEnded (Ok read) ended = ended ≡ Some (Ok (last_step read.0.cut))
HasEnded (Err Memory) ended = Unit {0}
HasEnded (Err e) ended = ended ≡ Some (Err e)

-- The last call to the reader returned the end, the cut or the fault.
abbrev pub EndsWith : {S : Type 0} → (S → Option (List ℕ)) → (S → ℕ) → Captured → Reader S → Type 0
EndsWith {S} left faults (Ok read) new =
    (before : Reader S)
    × ((before.ended ≡ None) × Advances left faults before new (Ok (last_step read.0.cut)) [])
EndsWith left faults (Err Memory) new = Unit {0}
EndsWith {S} left faults (Err e) new =
    (before : Reader S) × ((before.ended ≡ None) × Advances left faults before new (Err e) [])
