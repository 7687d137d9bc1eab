-- When a capture may be refused, and why.
use Rattle.std.specs.Prelude.{◌≡◌, ◌≢◌, ℕ, ◌≤◌, Result, Err, IsErrOf}
use Rattle.bm_io.specs.Causes.{Rose}
use Rattle.bm_pcap.specs.declared.fault.CaptureFault.{CaptureFault}
use Rattle.bm_pcap.specs.declared.fault.CaptureFault.TheVariants.{NotACapture, BadVersion, BadLink, BadBlock}
use Rattle.bm_pcap.specs.declared.fault.CaptureFault.TheVariants.{ReadFault, TooLarge, BadLength}
use Rattle.bm_pcap.specs.declared.fault.CaptureFault.TheVariants.{TooManyPackets, Memory}

-- The count rises if `ReadFault` is returned, and stays the same otherwise.
pub record HasStepCause {T : Type 0} (before now : ℕ) (result : Result T CaptureFault) : Type 0 where
  pub later : before ≤ now
  pub failed : IsErrOf result ReadFault → Rose before now
  pub kept : result ≢ Err ReadFault → now ≡ before

-- the faults of a capture's header
abbrev pub IsHeaderFault : CaptureFault → Type 0
IsHeaderFault NotACapture = Unit {0}
IsHeaderFault BadVersion = Unit {0}
IsHeaderFault (BadLink link) = Unit {0}
IsHeaderFault ReadFault = Unit {0}
IsHeaderFault Memory = Unit {0}
IsHeaderFault (BadBlock block) = ⊥
IsHeaderFault TooLarge = ⊥
IsHeaderFault (BadLength number n) = ⊥
IsHeaderFault TooManyPackets = ⊥

-- the faults of a capture's records; reading these takes no memory
abbrev pub IsRecordFault : CaptureFault → Type 0
IsRecordFault ReadFault = Unit {0}
IsRecordFault TooLarge = Unit {0}
IsRecordFault (BadLength number n) = Unit {0}
IsRecordFault TooManyPackets = Unit {0}
IsRecordFault Memory = ⊥
IsRecordFault NotACapture = ⊥
IsRecordFault BadVersion = ⊥
IsRecordFault (BadLink link) = ⊥
IsRecordFault (BadBlock block) = ⊥

-- the faults of reading all records: one of these, or `Memory`
abbrev pub IsCaptureFault : CaptureFault → Type 0
IsCaptureFault Memory = Unit {0}
IsCaptureFault e = IsRecordFault e
