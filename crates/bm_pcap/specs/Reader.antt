-- A reader of a capture, and what its calls do.
use Rattle.std.specs.Prelude.{◌≡◌, ℕ, ◌+◌, ◌≤◌, List, [], length, drop, Option, Some, None}
use Rattle.std.specs.Prelude.{Result, Ok, Err, IsErrOf, unwrap_or}
use Rattle.std.specs.Io.KnownBytes.{prepend_known}
use Rattle.bm_pcap.specs.declared.fault.CaptureFault.{CaptureFault}
use Rattle.bm_pcap.specs.declared.fault.CaptureFault.TheVariants.{Memory, ReadFault}
use Rattle.bm_pcap.specs.declared.form.Form.{Form}
use Rattle.bm_pcap.specs.declared.item.Item.{Item}
use Rattle.bm_pcap.specs.declared.item.Item.TheVariants as item
use Rattle.bm_pcap.specs.declared.place.Place.{Place}
use Rattle.bm_pcap.specs.Limits.{widest}
use Rattle.bm_pcap.specs.declared.step.Step.{Step}
use Rattle.bm_pcap.specs.declared.step.Step.TheVariants as step
use Rattle.bm_base.specs.declared.capture.Vip.{Vip}
use Rattle.bm_pcap.specs.Began.{began}
use Rattle.bm_pcap.specs.Capture.{Captured, capture}
use Rattle.bm_pcap.specs.Causes.{HasStepCause}
use Rattle.bm_pcap.specs.Header.{form_of}
use Rattle.bm_pcap.specs.Parts.{FormGives, StepFits}
use Rattle.bm_pcap.specs.Records.{Found, IsOpen, whole, cut, end, next_of, first_place}
use Rattle.bm_pcap.specs.Records.{after_record}
use Rattle.bm_pcap.specs.Taken.{FormLeaves}

-- A reader: the source after what was read ahead, what the capture's header says, and the place
-- after what was taken. `buffered` is the octets that were read ahead (see `IsFresh`, `FailsOpen`).
-- `passed` is those that were taken last; only contracts of private calls speak of these. `ended` is
-- what the reader returns from now on, if it has ended.
pub record Reader (S : Type 0) : Type 0 where
  pub source : S
  pub form : Form
  pub place : Place
  pub buffered : List ℕ
  pub passed : List ℕ
  pub ended : Option (Result Step CaptureFault)

-- The octets that aren't consumed yet, if the source's octets are known: those that were read
-- ahead, and then those that the source has left.
abbrev pub to_come : {S : Type 0} → (S → Option (List ℕ)) → Reader S → Option (List ℕ)
to_come left reader = prepend_known reader.buffered (left reader.source)

-- what was read ahead and isn't consumed yet is bounded
abbrev pub IsBounded : {S : Type 0} → Reader S → Type 0
IsBounded reader = length reader.buffered ≤ widest

-- no record was asked for yet, and nothing is read ahead
abbrev pub IsFresh : {S : Type 0} → Reader S → Type 0
IsFresh reader = (reader.place ≡ first_place) × (reader.ended ≡ None) × (reader.buffered ≡ [])

-- The result is a reader of what the header says, or the header's first fault with the source.
abbrev pub Starts : {S : Type 0} → (S → Option (List ℕ)) → S → Result (Reader S) (S × CaptureFault)
    → Type 0
Starts left old (Ok reader) = FormGives (left old) (left reader.source) (Ok reader.form)
Starts left old (Err refused) = FormGives (left old) (left refused.0) (Err refused.1)

-- After the header, or its fault, the source has the rest left.
abbrev pub StartLeaves : {S : Type 0} → (S → Option (List ℕ)) → S
    → Result (Reader S) (S × CaptureFault) → Type 0
StartLeaves left old (Ok reader) = FormLeaves (left old) (left reader.source) (Ok reader.form)
StartLeaves left old (Err refused) = FormLeaves (left old) (left refused.0) (Err refused.1)

-- the count rises if `ReadFault` is returned, and stays the same otherwise
abbrev pub StartsWithCause : {S : Type 0} → (S → ℕ) → S → Result (Reader S) (S × CaptureFault) → Type 0
StartsWithCause {S} faults old (Ok reader) = faults reader.source ≡ faults old
StartsWithCause {S} faults old (Err refused) =
    HasStepCause {T = Reader S} (faults old) (faults refused.0) (Err refused.1)

-- what a step means, with the octets of its record
abbrev pub found_in : Step → List ℕ → Found
found_in (step.Record time len) own = whole time own
found_in step.Cut own = cut
found_in step.End own = end

-- How many octets a step consumes: a record's header and its octets, and otherwise none.
abbrev pub step_taken : Step → ℕ
step_taken (step.Record time len) = 16 + len
step_taken step.Cut = 0
step_taken step.End = 0

-- What was returned is what comes next, a record with its own octets, and what follows it is still
-- to come. After a failed read nothing is lost. If the source's octets aren't known, nothing is
-- said.
abbrev pub StepGives : Option (List ℕ) → Option (List ℕ) → Form → Place → Result Step CaptureFault
    → List ℕ → Type 0
StepGives None new form place result own = Unit {0}
StepGives (Some octets) new form place (Ok found) own =
    (next_of form place octets ≡ Ok (found_in found own))
    × (new ≡ Some (drop (step_taken found) octets))
StepGives (Some octets) new form place (Err ReadFault) own = new ≡ Some octets
StepGives (Some octets) new form place (Err Memory) own = Unit {0}
StepGives (Some octets) new form place (Err e) own =
    (next_of form place octets ≡ Err e) × (new ≡ Some octets)

-- A read fails only if the octets that were read ahead don't decide what comes next: a whole
-- record, or a fault of the capture, is returned first.
abbrev pub FailsOpen : Form → Place → Result Step CaptureFault → List ℕ → Type 0
FailsOpen form place result ahead = IsErrOf result ReadFault → IsOpen (next_of form place ahead)

-- After a record a reader is at the next place; any other result it keeps, and returns from then
-- on.
abbrev pub Keeps : {S : Type 0} → Reader S → Reader S → Result Step CaptureFault → Type 0
Keeps old new (Ok (step.Record time len)) =
    StepFits old.place (step.Record time len)
    × (new.form ≡ old.form)
    × (new.place ≡ after_record old.place time len)
    × (new.ended ≡ None)
Keeps old new result = (new.form ≡ old.form) × (new.place ≡ old.place) × (new.ended ≡ Some result)

-- A reader that has ended returns the same again and changes nothing; any other returns what comes
-- next.
abbrev pub AdvancesFrom : {S : Type 0} → (S → Option (List ℕ)) → (S → ℕ)
    → Option (Result Step CaptureFault) → Reader S → Reader S → Result Step CaptureFault → List ℕ
    → Type 0
AdvancesFrom left faults (Some ended) old new result own = (result ≡ ended) × (new ≡ old)
AdvancesFrom left faults None old new result own =
    StepGives (to_come left old) (to_come left new) old.form old.place result own
    × HasStepCause (faults old.source) (faults new.source) result
    × Keeps old new result
    × FailsOpen old.form old.place result new.buffered

abbrev pub Advances : {S : Type 0} → (S → Option (List ℕ)) → (S → ℕ) → Reader S → Reader S
    → Result Step CaptureFault → List ℕ → Type 0
Advances left faults old new result own = AdvancesFrom left faults old.ended old new result own

-- What `next` returns, and what it leaves. An item has the number of the place; a record has its
-- moment, and its octets.
abbrev pub GivesNext : {S : Type 0} → (S → Option (List ℕ)) → (S → ℕ) → Reader S → Reader S
    → Result Item CaptureFault → Type 0
GivesNext left faults old new (Ok (item.Record number moment octets)) =
    (time : ℕ)
    × (Advances left faults old new (Ok (step.Record time (length octets.now))) octets.now
    × (number ≡ old.place.number)
    × (moment ≡ new.place.last))
GivesNext left faults old new (Ok (item.Cut number)) =
    Advances left faults old new (Ok step.Cut) [] × (number ≡ old.place.number)
GivesNext left faults old new (Ok item.End) = Advances left faults old new (Ok step.End) []
GivesNext left faults old new (Err e) = Advances left faults old new (Err e) []

-- After the header of a capture that has these octets: the header gives the reader's form, and the
-- source has the rest left.
abbrev pub StandsIn : Option (List ℕ) → Form → List ℕ → Type 0
StandsIn left form octets = (form_of octets ≡ Ok form) × (left ≡ Some (drop 24 octets))

-- The result is the capture that the octets are, for these services. `ReadFault` and `Memory` say
-- nothing.
abbrev pub Captures : Captured → Captured → Type 0
Captures wanted (Ok answer) = Ok answer ≡ wanted
Captures wanted (Err ReadFault) = Unit {0}
Captures wanted (Err Memory) = Unit {0}
Captures wanted (Err e) = Err e ≡ wanted

abbrev pub ReadsCapture : {S : Type 0} → (S → Option (List ℕ)) → Reader S → List Vip → Captured
    → Type 0
ReadsCapture left reader vips result =
    (octets : List ℕ) → StandsIn (left reader.source) reader.form octets
    → Captures (capture vips octets) result

-- the captured time of record 1, or 0 before a record was returned
abbrev pub time_began : {S : Type 0} → Reader S → ℕ
time_began reader = unwrap_or reader.place.first 0

-- A reader whose capture was read knows when it began.
abbrev pub KnowsBegan : {S : Type 0} → (S → Option (List ℕ)) → Reader S → Reader S → Type 0
KnowsBegan left old new =
    (octets : List ℕ) → StandsIn (left old.source) old.form octets → time_began new ≡ began octets

-- what a reader returns from now on, after its capture was read to the end or to the record that is
-- cut short
abbrev pub last_step : Option ℕ → Step
last_step None = step.End
last_step (Some number) = step.Cut

-- A reader whose capture was read returns the cut or the end from now on; if the capture has a
-- fault, that fault. `Memory` says nothing.
abbrev pub HasEnded : Captured → Option (Result Step CaptureFault) → Type 0
HasEnded (Ok read) ended = ended ≡ Some (Ok (last_step read.0.cut))
HasEnded (Err Memory) ended = Unit {0}
HasEnded (Err e) ended = ended ≡ Some (Err e)

-- The last call to the reader returned the end, the cut or the fault.
abbrev pub EndsWith : {S : Type 0} → (S → Option (List ℕ)) → (S → ℕ) → Captured → Reader S → Type 0
EndsWith {S} left faults (Ok read) new =
    (before : Reader S)
    × ((before.ended ≡ None) × Advances left faults before new (Ok (last_step read.0.cut)) [])
EndsWith left faults (Err Memory) new = Unit {0}
EndsWith {S} left faults (Err e) new =
    (before : Reader S) × ((before.ended ≡ None) × Advances left faults before new (Err e) [])
