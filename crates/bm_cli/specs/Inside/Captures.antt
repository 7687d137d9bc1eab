-- What was read of a capture.
use Rattle.std.specs.Prelude.{◌≡◌, ℕ, List, Option, Some, None, Result, Ok, Err}
use Rattle.bm_base.specs.declared.capture.Capture.{Capture}
use Rattle.bm_base.specs.declared.capture.Vip.{Vip}
use Rattle.bm_pcap.specs.Capture.{Captured, capture as classic_capture}
use Rattle.bm_pcap.specs.Reader.{Captures}
use Rattle.bm_pcap.specs.declared.fault.CaptureFault.{CaptureFault}
use Rattle.bm_pcapng.specs.Capture.{capture as pcapng_capture}
use Rattle.bm_cli.specs.Captures.{began, capture}

-- what was read of a source, if its octets are known
abbrev pub ReadsSource : Option (List ℕ) → List Vip → Captured → Type 0
ReadsSource None vips result = Unit {0}
ReadsSource (Some octets) vips result = Captures (capture vips octets) result

-- the same for a capture of the classic form
abbrev pub ReadsClassic : Option (List ℕ) → List Vip → Captured → Type 0
ReadsClassic None vips result = Unit {0}
ReadsClassic (Some octets) vips result = Captures (classic_capture vips octets) result

-- the same for a capture of the pcapng form
abbrev pub ReadsPcapng : Option (List ℕ) → List Vip → Captured → Type 0
ReadsPcapng None vips result = Unit {0}
ReadsPcapng (Some octets) vips result = Captures (pcapng_capture vips octets) result

-- what was read of a file, if the files' octets are known
abbrev pub ReadsFile : Option (List ℕ → List ℕ) → List ℕ → List Vip → Captured → Type 0
ReadsFile None name vips result = Unit {0}
ReadsFile (Some octets) name vips result = Captures (capture vips (octets name)) result

-- a capture that was read, and the packet of each of its records, without when it began
abbrev pub records_in : Result (Capture × List (List ℕ) × ℕ) CaptureFault → Captured
records_in (Ok read) = Ok (read.0, read.1)
records_in (Err e) = Err e

-- the time is when the capture of a source began, if its octets are known
abbrev pub BeganIn : (List ℕ → ℕ) → Option (List ℕ) → ℕ → Type 0
BeganIn when None time = Unit {0}
BeganIn when (Some octets) time = time ≡ when octets

-- the same for a file, if the files' octets are known
abbrev pub FileBegan : Option (List ℕ → List ℕ) → List ℕ → ℕ → Type 0
FileBegan None name time = Unit {0}
FileBegan (Some octets) name time = time ≡ began (octets name)
