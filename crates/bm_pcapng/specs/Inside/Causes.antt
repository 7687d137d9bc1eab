-- What the contracts of private calls and the proofs of bodies use in addition to Causes.
use Rattle.bm_pcap.specs.declared.fault.CaptureFault.{CaptureFault}
use Rattle.bm_pcap.specs.declared.fault.CaptureFault.TheVariants.{NotACapture, BadVersion, BadLink, BadBlock}
use Rattle.bm_pcap.specs.declared.fault.CaptureFault.TheVariants.{ReadFault, TooLarge, BadLength}
use Rattle.bm_pcap.specs.declared.fault.CaptureFault.TheVariants.{TooManyPackets, Memory}

-- the faults of a capture's first twelve octets
abbrev pub IsOrderFault : CaptureFault → Type 0
IsOrderFault NotACapture = Unit {0}
IsOrderFault ReadFault = Unit {0}
IsOrderFault BadVersion = ⊥
IsOrderFault (BadBlock block) = ⊥
IsOrderFault TooLarge = ⊥
IsOrderFault (BadLength number n) = ⊥
IsOrderFault TooManyPackets = ⊥
IsOrderFault Memory = ⊥
IsOrderFault (BadLink link) = ⊥

-- the faults of what a whole block says
abbrev pub IsContentFault : CaptureFault → Type 0
IsContentFault BadVersion = Unit {0}
IsContentFault (BadBlock block) = Unit {0}
IsContentFault (BadLength number n) = Unit {0}
IsContentFault ReadFault = ⊥
IsContentFault TooLarge = ⊥
IsContentFault TooManyPackets = ⊥
IsContentFault Memory = ⊥
IsContentFault NotACapture = ⊥
IsContentFault (BadLink link) = ⊥
