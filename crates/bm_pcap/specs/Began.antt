-- When a capture began.
use Rattle.std.specs.Prelude.{ℕ, List, drop, Result, Ok, Err}
use Rattle.bm_pcap.specs.declared.fault.CaptureFault.{CaptureFault}
use Rattle.bm_pcap.specs.declared.form.Form.{Form}
use Rattle.bm_pcap.specs.Header.{form_of}
use Rattle.bm_pcap.specs.Records.{Found, whole, cut, end, next_of, first_place}

-- the captured time of a whole record, 0 otherwise
abbrev pub time_in : Result Found CaptureFault → ℕ
time_in (Ok (whole time octets)) = time
time_in (Ok cut) = 0
time_in (Ok end) = 0
time_in (Err e) = 0

-- the captured time of record 1, which comes after the header
abbrev pub first_time : List ℕ → Result Form CaptureFault → ℕ
first_time left (Ok form) = time_in (next_of form first_place left)
first_time left (Err e) = 0

-- the captured time of record 1, in nanoseconds since 1970, or 0 where there is no whole record
unfoldable pub began : List ℕ → ℕ
began octets = first_time (drop 24 octets) (form_of octets)
