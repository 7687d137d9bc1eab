-- The lines of faults (docs/FORMATS.md). Each names the file that has the fault.
use Rattle.std.specs.Prelude.{◌≡◌, ◌≢◌, ◌==◌, ℕ, List, [], ◌++◌, Option, Some, None, codes, decimal}
use Rattle.std.specs.List.{after_first}
use Rattle.bm_table.specs.Limits.{limit_word}
use Rattle.bm_quota.specs.declared.refusal.Refusal.{Refusal}
use Rattle.bm_quota.specs.declared.refusal.Refusal.TheVariants.{TooMany}
use Rattle.bm_script.specs.declared.fault.ScriptFault.{ScriptFault}
use Rattle.bm_script.specs.declared.fault.ScriptFault.TheVariants.{Refused}
use Rattle.bm_script.specs.Faults.{fault_text}
use Rattle.bm_pcap.specs.declared.fault.CaptureFault.{CaptureFault}
use Rattle.bm_pcap.specs.declared.fault.CaptureFault.TheVariants.{NotACapture, BadVersion, BadLink}
use Rattle.bm_pcap.specs.declared.fault.CaptureFault.TheVariants.{BadBlock, BadLength, TooLarge}
use Rattle.bm_pcap.specs.declared.fault.CaptureFault.TheVariants.{ReadFault, TooManyPackets}
use Rattle.bm_pcap.specs.declared.fault.CaptureFault.TheVariants.{Memory as NoMemory}
use Rattle.bm_words.specs.Form.{Named}
use Rattle.bm_cli.specs.declared.fault.StageFault.{StageFault}
use Rattle.bm_cli.specs.declared.fault.StageFault.TheVariants.{Files, LongScript, LongTrace, Seats}
use Rattle.bm_cli.specs.declared.fault.StageFault.TheVariants.{Script, Capture}
use Rattle.bm_cli.specs.declared.fault.StageFault.TheVariants.{Memory as WantsMemory}
use Rattle.bm_cli.specs.declared.status.Status.TheVariants.{Memory}
use Rattle.bm_cli.specs.Lines.{FaultLines, fault_status}
use Rattle.bm_connections_cli.specs.declared.reason.Reason.{Reason}
use Rattle.bm_connections_cli.specs.declared.reason.Reason.TheVariants.{NoSuchFile, NotPermitted}
use Rattle.bm_connections_cli.specs.declared.reason.Reason.TheVariants.{IsFolder}
use Rattle.bm_connections_words.specs.Words.{Asked, Connections, Help, Lifetime, Version}

-- WHAT IS WRONG

-- why a file wasn't read, if the system tells
abbrev pub reason_words : Option Reason → List ℕ
reason_words None = []
reason_words (Some NoSuchFile) = codes ": no such file"
reason_words (Some NotPermitted) = codes ": permission denied"
reason_words (Some IsFolder) = codes ": is a folder"

abbrev pub read_words : Option Reason → List ℕ
read_words why = codes "read fault" ++ reason_words why

abbrev pub capture_words : Option Reason → CaptureFault → List ℕ
capture_words why NotACapture = codes "not a capture"
capture_words why BadVersion = codes "bad version"
capture_words why (BadLink link) = codes "bad link type " ++ decimal link
capture_words why (BadBlock block) = codes "block " ++ decimal block ++ codes ": bad block"
capture_words why (BadLength number length) =
    codes "record " ++ decimal number ++ codes ": bad length " ++ decimal length
capture_words why ReadFault = read_words why
capture_words why TooLarge = codes "limit capture-octets"
capture_words why TooManyPackets = codes "limit packets"
capture_words why NoMemory = codes "want of memory"

-- the text of a fault after its first word, `script`
abbrev pub text_words : ScriptFault → List ℕ
text_words fault = after_first (λ octet. octet == 32) (fault_text fault)

abbrev pub refusal_words : ℕ → Refusal → List ℕ
refusal_words n (TooMany limit) = codes "limit " ++ limit_word limit
refusal_words n refusal = text_words (Refused n refusal)

abbrev pub script_words : ScriptFault → List ℕ
script_words (Refused n refusal) = refusal_words n refusal
script_words fault = text_words fault

abbrev pub fault_words : Option Reason → StageFault → List ℕ
fault_words why Files = read_words why
fault_words why LongScript = codes "limit script-octets"
fault_words why LongTrace = codes "limit trace-octets"
fault_words why Seats = codes "limit seats"
fault_words why (Script fault) = script_words fault
fault_words why (Capture fault) = capture_words why fault
fault_words why WantsMemory = codes "want of memory"

-- THE LINE

-- the line of a fault of the file of this name
abbrev pub fault_line : List ℕ → Option Reason → StageFault → List ℕ
fault_line name why fault =
    codes "beamer-connections: " ++ name ++ codes ": " ++ fault_words why fault ++ codes "\n"

-- the octets are that line, with some reason or none; no octets tell of refused memory
abbrev pub names_file : List ℕ → FaultLines
names_file name fault text =
    (fault_status fault ≢ Memory) × (why : Option Reason) × (text ≡ fault_line name why fault)

-- WHICH FILE

-- the script's name, which all words with a capture have
abbrev pub script_name : Option (List ℕ) → List ℕ
script_name None = []
script_name (Some name) = name

-- the file with this fault, of a capture and a script
abbrev pub file_with : Named → StageFault → List ℕ
file_with names (Capture fault) = names.capture
file_with names fault = script_name names.script

-- the same, of those that the words name
abbrev pub file_of : Asked → StageFault → List ℕ
file_of (Connections names options) = file_with names
file_of (Lifetime script seconds) = λ fault. script
file_of Help = λ fault. []
file_of Version = λ fault. []

-- how faults are told, by the form of the words; those of no form name no file
abbrev pub lines_for : Option Asked → FaultLines
lines_for None fault text = ⊥
lines_for (Some asked) fault text = names_file (file_of asked fault) fault text
