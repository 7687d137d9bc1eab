-- What is read of a script, from its source and from the files.
use Rattle.std.proofs.Common.{◌≡◌, ◌≢◌, IfOk, inl, inr, ℕ, ◌≤◌, ◌<◌, List, Option, Some, None, Result, Ok, Err, IsErrAnd, take}
use Rattle.std.proofs.Common.{length, sym, ap, subst, ◌∙◌, refl, arith}
use Rattle.std.specs.Result.{result_map_both}
use Rattle.bm_io.specs.Causes.{Rose}
use Rattle.bm_script.specs.declared.fault.ScriptFault.{ScriptFault}
use Rattle.bm_script.specs.declared.fault.ScriptFault.TheVariants.{NotToml, Missing, BadValue, Unknown, Refused, Rack}
use Rattle.bm_script.specs.declared.fault.ScriptFault.TheVariants.{Memory as ScriptMemory}
use Rattle.bm_script.specs.declared.verbs.ChangeVerb.{ChangeVerb}
use Rattle.bm_script.specs.declared.verbs.WordedScript.{WordedScript}
use Rattle.bm_script.specs.Faults.{Gives, ◌>>=◌}
use Rattle.bm_script.specs.Scripts.{script_of}
use Rattle.bm_script.specs.Verbs.{verbs_of, worded_script_of}
use Rattle.bm_table.specs.declared.script.Script.{Script}
use Rattle.bm_cli.specs.declared.fault.StageFault.{StageFault}
use Rattle.bm_cli.specs.declared.fault.StageFault.TheVariants.{LongScript, Script as OfScript}
use Rattle.bm_cli.specs.Plain.{plain_script}
use Rattle.bm_cli.specs.Inside.Fronts.{HasFront}
use Rattle.bm_cli.specs.Inside.Scripts.{ReadsScript, ReadsVerbs}
use Rattle.bm_cli.specs.Stages.{IsOutside, IsRead}
use Rattle.bm_cli.specs.Reading.{Octets, script_in, with_script_fault}
use Rattle.bm_cli.proofs.Fronts.{few, too_many, whole}

-- a source that was opened and closed leaves the files' count no lower
pub closed_later : (before opened after : ℕ) → before ≤ opened → opened ≤ after → before ≤ after
closed_later before opened after low high = omega (arith, low, high)

-- a fault of a source is one of the files once it was closed
pub closed_rose : (before opened after start faults : ℕ) → before ≤ opened → start ≡ 0 → Rose start faults →
    (0 < faults → Rose opened after) → Rose before after
closed_rose before opened after start faults low new rose counted =
    let some : 0 < faults = omega (arith, new, rose) in
    let more : Rose opened after = counted some in
    omega (arith, low, more)

-- THE TEXT

-- more octets than there may be were read
pub too_long : (octets text : List ℕ) → text ≡ take 1048577 octets → 1048576 < length text →
    script_in octets ≡ Err LongScript
too_long octets text front more =
    rw (too_many 1048576 octets text front more) refl

-- at most as many octets were read as there may be, so these are all
pub all_read : (octets text : List ℕ) → text ≡ take 1048577 octets → length text ≤ 1048576 →
    script_in octets ≡ with_script_fault (script_of text)
all_read octets text front short =
    rw (few 1048576 octets text front short)
    (ap (λ (t : List ℕ). with_script_fault (script_of t)) (sym (whole 1048576 octets text front short)))

pub script_is : (octets text : List ℕ) (script : Script) → text ≡ take 1048577 octets → length text ≤ 1048576 →
    Gives (Ok script) (script_of text) → script_in octets ≡ Ok script
script_is octets text script front few gives = all_read octets text front few ∙ ap with_script_fault gives

fault_is : (octets text : List ℕ) (fault : ScriptFault) → text ≡ take 1048577 octets → length text ≤ 1048576 →
    script_of text ≡ Err fault → IsRead (script_in octets) (Err (OfScript fault))
fault_is octets text fault front few is = inr (all_read octets text front few ∙ ap with_script_fault is)

pub script_fault : (octets text : List ℕ) (fault : ScriptFault) → text ≡ take 1048577 octets →
    length text ≤ 1048576 → Gives (Err fault) (script_of text) → IsRead (script_in octets) (Err (OfScript fault))
script_fault octets text NotToml front few gives = fault_is octets text NotToml front few (gives (λ e. cc))
script_fault octets text (Missing place key) front few gives =
    fault_is octets text (Missing place key) front few (gives (λ e. cc))
script_fault octets text (BadValue place key) front few gives =
    fault_is octets text (BadValue place key) front few (gives (λ e. cc))
script_fault octets text (Unknown place name) front few gives =
    fault_is octets text (Unknown place name) front few (gives (λ e. cc))
script_fault octets text (Refused n refusal) front few gives =
    fault_is octets text (Refused n refusal) front few (gives (λ e. cc))
script_fault octets text (Rack n refusal) front few gives =
    fault_is octets text (Rack n refusal) front few (gives (λ e. cc))
script_fault octets text ScriptMemory front few gives = inl (inr refl)

-- WHAT ITS COMMANDS SAY

abbrev worded : List ℕ → Script → Result WordedScript ScriptFault
worded text script = Ok (record { script = script; verbs = verbs_of text })

worded_by : (text : List ℕ) (read : WordedScript) (due : Result Script ScriptFault) → (due >>= worded text) ≡ Ok read →
    (due ≡ Ok read.script) × (read.verbs ≡ verbs_of text)
worded_by text read (Ok script) is =
    let made : WordedScript = record { script = script; verbs = verbs_of text } in
    let same : made ≡ read = cc in
    let ok : Script → Result Script ScriptFault = λ s. Ok s in
    (ap (λ (w : WordedScript). ok w.script) same, sym (ap (λ (w : WordedScript). w.verbs) same))
worded_by text read (Err fault) is = absurd (cc)

-- a script that is read with what its commands say
pub worded_is : (text : List ℕ) (read : WordedScript) → Gives (Ok read) (worded_script_of text) →
    (script_of text ≡ Ok read.script) × (read.verbs ≡ verbs_of text)
worded_is text read is = worded_by text read (script_of text) is

unworded : (text : List ℕ) (fault : ScriptFault) (due : Result Script ScriptFault) → (due >>= worded text) ≡ Err fault →
    due ≡ Err fault
unworded text fault (Ok script) is = absurd (cc)
unworded text fault (Err found) is =
    let same : found ≡ fault = cc in
    let err : ScriptFault → Result Script ScriptFault = λ f. Err f in
    ap err same

-- its fault
pub worded_fault : (text : List ℕ) (fault : ScriptFault) → Gives (Err fault) (worded_script_of text) →
    fault ≢ ScriptMemory → script_of text ≡ Err fault
worded_fault text fault gives other = unworded text fault (script_of text) (gives other)

pub verbs_are : (octets text : List ℕ) (verbs : List ChangeVerb) → text ≡ take 1048577 octets →
    length text ≤ 1048576 → verbs ≡ verbs_of text → verbs ≡ verbs_of octets
verbs_are octets text verbs front short is = is ∙ ap verbs_of (whole 1048576 octets text front short)

-- THE FILE

pub script_read : (told : Octets) (name text : List ℕ) (result : Result Script StageFault) →
    HasFront told name 1048577 text → ((octets : List ℕ) → text ≡ take 1048577 octets →
    IsRead (script_in octets) result) → ReadsScript told (Some name) result
script_read None name text result front reads = tt
script_read (Some octets) name text result front reads = reads (octets name) front

pub verbs_read : (told : Octets) (name text : List ℕ) (result : Result WordedScript StageFault) →
    HasFront told name 1048577 text → ((octets : List ℕ) → text ≡ take 1048577 octets →
    IfOk result (λ read. read.verbs ≡ verbs_of octets)) →
    IfOk result (λ read. ReadsVerbs told (Some name) read.verbs)
verbs_read told name text (Err fault) front reads = tt
verbs_read None name text (Ok read) front reads = tt
verbs_read (Some octets) name text (Ok read) front reads = reads (octets name) front

pub script_unread : (told : Octets) (name : Option (List ℕ)) (fault : StageFault) → IsOutside fault →
    ReadsScript told name (Err fault)
script_unread told None fault outside = inl outside
script_unread None (Some name) fault outside = tt
script_unread (Some octets) (Some name) fault outside = inl outside

pub script_plain : (told : Octets) → ReadsScript told None (Ok plain_script)
script_plain told = refl

-- a fault that came through `?`
pub read_err : {A : Type 0} (due r : Result A StageFault) (fault : StageFault) → IsErrAnd r (λ e. e ≡ fault) →
    IsRead due (Err fault) → IsRead due r
read_err due (Ok x) fault is read = absurd is
read_err due (Err e) fault is read = subst (λ f. IsRead due (Err f)) (sym is) read

-- the same, of a script with what its commands say
pub worded_err : (due : Result Script StageFault) (r : Result WordedScript StageFault) (fault : StageFault) →
    IsErrAnd r (λ e. e ≡ fault) → IsRead due (Err fault) →
    IsRead due (result_map_both (λ read. read.script) (λ fault. fault) r)
worded_err due (Ok x) fault is read = absurd is
worded_err due (Err e) fault is read = subst (λ f. IsRead due (Err f)) (sym is) read
