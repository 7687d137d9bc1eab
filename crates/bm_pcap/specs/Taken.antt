-- How many of the octets left are gone after a capture's header was read; if fewer are left than
-- are counted here, all are gone.
use Rattle.std.specs.Prelude.{◌≡◌, ℕ, List, take, drop, Option, Some, None, Result, Err}
use Rattle.bm_pcap.specs.declared.fault.CaptureFault.{CaptureFault}
use Rattle.bm_pcap.specs.declared.fault.CaptureFault.TheVariants.{NotACapture, ReadFault}
use Rattle.bm_pcap.specs.declared.form.Form.{Form}
use Rattle.bm_pcap.specs.declared.form.Order.{Order}
use Rattle.bm_pcap.specs.declared.form.Unit.{Unit as Unit_of_time}
use Rattle.bm_pcap.specs.Header.{magic_of}

-- how much of a capture's header is read: what follows the magic number only if that is known
abbrev pub after_magic : Option (Order × Unit_of_time) → ℕ
after_magic None = 4
after_magic (Some magic) = 24

-- the header of a capture, or its fault
abbrev pub form_taken : List ℕ → Result Form CaptureFault → ℕ
form_taken left (Err NotACapture) = after_magic (magic_of (take 4 left))
form_taken left other = 24

-- After the header, or its fault, the source has the rest left. A failed read says nothing.
abbrev pub FormLeaves : Option (List ℕ) → Option (List ℕ) → Result Form CaptureFault → Type 0
FormLeaves None new result = Unit {0}
FormLeaves (Some left) new (Err ReadFault) = Unit {0}
FormLeaves (Some left) new result = new ≡ Some (drop (form_taken left result) left)
