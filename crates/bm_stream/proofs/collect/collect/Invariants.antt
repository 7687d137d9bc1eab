use Rattle.std.proofs.Common.{take}
use Rattle.bm_stream.specs.Accepts.{pieces_of}
use Rattle.bm_stream.specs.Views.{HasTaken}
use Rattle.bm_stream.proofs.collect.collect.Given as goal

abbrev pub invariant-loop-packet : goal.invariant-loop-packet
invariant-loop-packet l =
    HasTaken (pieces_of l.stage l.octets l.start (take l.packet-index l.packets)) l.stream
