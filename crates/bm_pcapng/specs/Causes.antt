-- Which faults a capture may be refused for.
use Rattle.bm_pcap.specs.declared.fault.CaptureFault.{CaptureFault}
use Rattle.bm_pcap.specs.declared.fault.CaptureFault.TheVariants.{NotACapture, BadVersion, BadLink, BadBlock}
use Rattle.bm_pcap.specs.declared.fault.CaptureFault.TheVariants.{ReadFault, TooLarge, BadLength}
use Rattle.bm_pcap.specs.declared.fault.CaptureFault.TheVariants.{TooManyPackets, Memory}

-- the faults of a capture's first block
abbrev pub IsStartFault : CaptureFault → Type 0
IsStartFault NotACapture = Unit {0}
IsStartFault BadVersion = Unit {0}
IsStartFault (BadBlock block) = Unit {0}
IsStartFault ReadFault = Unit {0}
IsStartFault Memory = Unit {0}
IsStartFault TooLarge = ⊥
IsStartFault (BadLength number n) = ⊥
IsStartFault TooManyPackets = ⊥
IsStartFault (BadLink link) = ⊥

-- the faults of a capture's blocks; reading these takes no memory
abbrev pub IsBlockFault : CaptureFault → Type 0
IsBlockFault BadVersion = Unit {0}
IsBlockFault (BadBlock block) = Unit {0}
IsBlockFault ReadFault = Unit {0}
IsBlockFault TooLarge = Unit {0}
IsBlockFault (BadLength number n) = Unit {0}
IsBlockFault TooManyPackets = Unit {0}
IsBlockFault Memory = ⊥
IsBlockFault NotACapture = ⊥
IsBlockFault (BadLink link) = ⊥

-- the faults of reading all records: one of these, or `Memory`
abbrev pub IsCaptureFault : CaptureFault → Type 0
IsCaptureFault Memory = Unit {0}
IsCaptureFault e = IsBlockFault e
