-- Faults, their statuses and their lines.
use Rattle.std.proofs.Common.{◌≡◌, ◌≢◌, ◌⊎◌, ◌==◌, inl, inr, false, ℕ, List, [], sym, ap, ◌∙◌, refl}
use Rattle.std.proofs.lemmas.Bool.{eqb-false}
use Rattle.bm_pcap.specs.declared.fault.CaptureFault.{CaptureFault}
use Rattle.bm_pcap.specs.declared.fault.CaptureFault.TheVariants.{NotACapture, BadVersion, BadLink, BadBlock}
use Rattle.bm_pcap.specs.declared.fault.CaptureFault.TheVariants.{ReadFault as SourceFault, TooLarge, BadLength}
use Rattle.bm_pcap.specs.declared.fault.CaptureFault.TheVariants.{TooManyPackets, Memory as NoMemory}
use Rattle.bm_quota.specs.declared.refusal.Refusal.{Refusal}
use Rattle.bm_quota.specs.declared.refusal.Refusal.TheVariants.{KnownServer, UnknownServer, NotActive, LastServer}
use Rattle.bm_quota.specs.declared.refusal.Refusal.TheVariants.{BadBucket, SameServer, StampFell, TooMany}
use Rattle.bm_quota.specs.declared.refusal.Refusal.TheVariants.{Memory as RefusalMemory}
use Rattle.bm_script.specs.declared.fault.ScriptFault.{ScriptFault}
use Rattle.bm_script.specs.declared.fault.ScriptFault.TheVariants.{NotToml, Missing, BadValue, Unknown, Refused, Rack}
use Rattle.bm_script.specs.declared.fault.ScriptFault.TheVariants.{Memory as ScriptMemory}
use Rattle.bm_cli.specs.declared.fault.StageFault.{StageFault}
use Rattle.bm_cli.specs.declared.fault.StageFault.TheVariants.{Files, LongScript, LongTrace, Seats}
use Rattle.bm_cli.specs.declared.fault.StageFault.TheVariants.{Script as OfScript}
use Rattle.bm_cli.specs.declared.fault.StageFault.TheVariants.{Capture as OfCapture, Memory as WantsMemory}
use Rattle.bm_cli.specs.declared.status.Status.{Status}
use Rattle.bm_cli.specs.declared.status.Status.TheVariants.{BadCapture, BadScript, Done, Memory, ReadFault, Usage}
use Rattle.bm_cli.specs.declared.status.Status.TheVariants.{Denied, Exceeded, Limit, WriteFault}
use Rattle.bm_cli.specs.Lines.{FaultLines, beamer_lines, capture_line, capture_status, fault_line, fault_status}
use Rattle.bm_cli.specs.Lines.{refusal_status, script_line, script_status}
use Rattle.bm_cli.specs.Statuses.{code_of}

-- FAULTS AND THEIR STATUSES

-- statuses with two codes are two
apart : (s t : Status) → (code_of s == code_of t) ≡ false → s ≢ t
apart s t codes = λ is. eqb-false (code_of s) (code_of t) codes (ap code_of is)

-- a status of a fault: neither of the words, nor of a report, nor of the sink, nor of a check, nor of a script
pub record IsOfFault (s : Status) : Type 0 where
  pub usage : s ≢ Usage
  pub done : s ≢ Done
  pub write : s ≢ WriteFault
  pub denied : s ≢ Denied
  pub exceeded : s ≢ Exceeded

of_code : (s : Status) → (code_of s == code_of Usage) ≡ false → (code_of s == code_of Done) ≡ false
    → (code_of s == code_of WriteFault) ≡ false → (code_of s == code_of Denied) ≡ false
    → (code_of s == code_of Exceeded) ≡ false → IsOfFault s
of_code s usage done write denied exceeded = record {
  usage = apart s Usage usage;
  done = apart s Done done;
  write = apart s WriteFault write;
  denied = apart s Denied denied;
  exceeded = apart s Exceeded exceeded;
}

bad_script : IsOfFault BadScript
bad_script = of_code BadScript refl refl refl refl refl

bad_capture : IsOfFault BadCapture
bad_capture = of_code BadCapture refl refl refl refl refl

read_fault : IsOfFault ReadFault
read_fault = of_code ReadFault refl refl refl refl refl

limit : IsOfFault Limit
limit = of_code Limit refl refl refl refl refl

memory : IsOfFault Memory
memory = of_code Memory refl refl refl refl refl

-- a refused command is a fault of the script, or passes a limit
refused_by : (refusal : Refusal) → (refusal_status refusal ≡ BadScript) ⊎ (refusal_status refusal ≡ Limit)
refused_by KnownServer = inl refl
refused_by UnknownServer = inl refl
refused_by NotActive = inl refl
refused_by LastServer = inl refl
refused_by BadBucket = inl refl
refused_by SameServer = inl refl
refused_by StampFell = inl refl
refused_by (TooMany limit) = inr refl
refused_by RefusalMemory = inl refl

neither : (s t : Status) → BadScript ≢ t → Limit ≢ t → (s ≡ BadScript) ⊎ (s ≡ Limit) → s ≢ t
neither s t script limit (inl e) = λ is. script (sym e ∙ is)
neither s t script limit (inr e) = λ is. limit (sym e ∙ is)

-- and so it has no other status
refusal_is_not : (refusal : Refusal) (s : Status) → BadScript ≢ s → Limit ≢ s → refusal_status refusal ≢ s
refusal_is_not refusal s script limit = neither (refusal_status refusal) s script limit (refused_by refusal)

script_of_fault : (fault : ScriptFault) → IsOfFault (script_status fault)
script_of_fault NotToml = bad_script
script_of_fault (Missing place key) = bad_script
script_of_fault (BadValue place key) = bad_script
script_of_fault (Unknown place name) = bad_script
script_of_fault (Refused n refusal) = record {
  usage = refusal_is_not refusal Usage bad_script.usage limit.usage;
  done = refusal_is_not refusal Done bad_script.done limit.done;
  write = refusal_is_not refusal WriteFault bad_script.write limit.write;
  denied = refusal_is_not refusal Denied bad_script.denied limit.denied;
  exceeded = refusal_is_not refusal Exceeded bad_script.exceeded limit.exceeded;
}
script_of_fault (Rack n refusal) = bad_script
script_of_fault ScriptMemory = memory

capture_of_fault : (fault : CaptureFault) → IsOfFault (capture_status fault)
capture_of_fault NotACapture = bad_capture
capture_of_fault BadVersion = bad_capture
capture_of_fault (BadLink link) = bad_capture
capture_of_fault (BadBlock block) = bad_capture
capture_of_fault SourceFault = read_fault
capture_of_fault TooLarge = limit
capture_of_fault (BadLength number n) = bad_capture
capture_of_fault TooManyPackets = limit
capture_of_fault NoMemory = memory

pub of_fault : (fault : StageFault) → IsOfFault (fault_status fault)
of_fault Files = read_fault
of_fault LongScript = limit
of_fault LongTrace = limit
of_fault Seats = limit
of_fault (OfScript fault) = script_of_fault fault
of_fault (OfCapture fault) = capture_of_fault fault
of_fault WantsMemory = memory

-- no fault of a script is one of the files
pub script_reads : (fault : ScriptFault) → script_status fault ≢ ReadFault
script_reads NotToml = apart BadScript ReadFault refl
script_reads (Missing place key) = apart BadScript ReadFault refl
script_reads (BadValue place key) = apart BadScript ReadFault refl
script_reads (Unknown place name) = apart BadScript ReadFault refl
script_reads (Refused n refusal) =
    refusal_is_not refusal ReadFault (apart BadScript ReadFault refl) (apart Limit ReadFault refl)
script_reads (Rack n refusal) = apart BadScript ReadFault refl
script_reads ScriptMemory = apart Memory ReadFault refl

script_no_line : (fault : ScriptFault) → script_status fault ≡ Memory → script_line fault ≡ []
script_no_line NotToml e = absurd (apart BadScript Memory refl e)
script_no_line (Missing place key) e = absurd (apart BadScript Memory refl e)
script_no_line (BadValue place key) e = absurd (apart BadScript Memory refl e)
script_no_line (Unknown place name) e = absurd (apart BadScript Memory refl e)
script_no_line (Refused n refusal) e =
    absurd (refusal_is_not refusal Memory (apart BadScript Memory refl) (apart Limit Memory refl) e)
script_no_line (Rack n refusal) e = absurd (apart BadScript Memory refl e)
script_no_line ScriptMemory e = refl

capture_no_line : (fault : CaptureFault) → capture_status fault ≡ Memory → capture_line fault ≡ []
capture_no_line NotACapture e = absurd (apart BadCapture Memory refl e)
capture_no_line BadVersion e = absurd (apart BadCapture Memory refl e)
capture_no_line (BadLink link) e = absurd (apart BadCapture Memory refl e)
capture_no_line (BadBlock block) e = absurd (apart BadCapture Memory refl e)
capture_no_line SourceFault e = absurd (apart ReadFault Memory refl e)
capture_no_line TooLarge e = absurd (apart Limit Memory refl e)
capture_no_line (BadLength number n) e = absurd (apart BadCapture Memory refl e)
capture_no_line TooManyPackets e = absurd (apart Limit Memory refl e)
capture_no_line NoMemory e = refl

-- want of memory has no line
pub memory_line : (fault : StageFault) → fault_status fault ≡ Memory → fault_line fault ≡ []
memory_line Files e = absurd (apart ReadFault Memory refl e)
memory_line LongScript e = absurd (apart Limit Memory refl e)
memory_line LongTrace e = absurd (apart Limit Memory refl e)
memory_line Seats e = absurd (apart Limit Memory refl e)
memory_line (OfScript fault) e = script_no_line fault e
memory_line (OfCapture fault) e = capture_no_line fault e
memory_line WantsMemory e = refl

-- nothing is told where memory was refused
abbrev pub IsSilent : FaultLines → Type 0
IsSilent lines = (fault : StageFault) (text : List ℕ) → fault_status fault ≡ Memory → lines fault text → text ≡ []

pub beamer_silent : IsSilent beamer_lines
beamer_silent fault text e is = is ∙ memory_line fault e

-- no fault of a capture is one of the script
pub capture_no_script : (fault : CaptureFault) → capture_status fault ≢ BadScript
capture_no_script NotACapture = apart BadCapture BadScript refl
capture_no_script BadVersion = apart BadCapture BadScript refl
capture_no_script (BadLink link) = apart BadCapture BadScript refl
capture_no_script (BadBlock block) = apart BadCapture BadScript refl
capture_no_script SourceFault = apart ReadFault BadScript refl
capture_no_script TooLarge = apart Limit BadScript refl
capture_no_script (BadLength number n) = apart BadCapture BadScript refl
capture_no_script TooManyPackets = apart Limit BadScript refl
capture_no_script NoMemory = apart Memory BadScript refl
