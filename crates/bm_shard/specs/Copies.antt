-- What the octets of a copy say to a server.
use Rattle.std.specs.Prelude.{ℕ, ◌==◌, List, if◌then◌else◌, Result, Ok, Err}
use Rattle.bm_base.specs.declared.flow.Segment.{Segment}
use Rattle.bm_base.specs.declared.ids.ServerId.{ServerId}
use Rattle.bm_base.specs.declared.label.Tag.{Tag}
use Rattle.bm_tcp.specs.Packets.{segment_in}
use Rattle.bm_tcp.specs.declared.packet.InnerFault.{InnerFault}
use Rattle.bm_encap.specs.declared.fault.EncapFault.{EncapFault}
use Rattle.bm_encap.specs.Faults.{unwrapped}
use Rattle.bm_shard.specs.declared.fault.HandleFault.{HandleFault}
use Rattle.bm_shard.specs.declared.fault.HandleFault.TheVariants.{BadEncap, NotMine, BadInner}

abbrev pub of_packet : Tag → Result (Segment × List ℕ) InnerFault
    → Result (Tag × Segment) HandleFault
of_packet tag (Err fault) = Err (BadInner fault)
of_packet tag (Ok read) = Ok (tag, read.0)

abbrev pub of_header : ServerId → Result (Tag × List ℕ) EncapFault
    → Result (Tag × Segment) HandleFault
of_header id (Err fault) = Err (BadEncap fault)
of_header id (Ok read) =
    if read.0.dest.0 == id.0 then of_packet read.0 (segment_in read.1) else Err NotMine

-- the tag and the segment of a copy to this server, or the first fault
abbrev pub copy_in : ServerId → List ℕ → Result (Tag × Segment) HandleFault
copy_in id octets = of_header id (unwrapped octets)
