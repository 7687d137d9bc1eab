-- What the contracts of private calls and the proofs of bodies use in addition to Places.
use Rattle.std.specs.Prelude.{Option, Some, None}
use Rattle.bm_pcapng.specs.declared.content.Content.{Content}
use Rattle.bm_pcapng.specs.declared.content.Packet.{Packet}
use Rattle.bm_pcapng.specs.declared.content.Content.TheVariants.{Holds}

-- the packet of a block that contains one
abbrev pub packet_in : Content → Option Packet
packet_in (Holds packet) = Some packet
packet_in other = None
