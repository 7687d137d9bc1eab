use Rattle.std.proofs.Common.{◌≤◌, ◌*◌, arith, take, length, length-take}
use Rattle.bm_stream.specs.Accepts.{pieces_of}
use Rattle.bm_stream.specs.Pieces.{stream}
use Rattle.bm_stream.proofs.Collecting.{short}
use Rattle.bm_stream.proofs.collect.collect.Goals as goal

pub take_packet-requires-clause-short : goal.take_packet-requires-clause-short
take_packet-requires-clause-short c =
    let taken = take c.loop-packet.packet-index c.args.packets.now in
    let bound : length (stream (pieces_of c.args.stage.now c.args.octets.now c.args.start taken))
    ≤ 65535 * length taken =
    short c.args.stage.now c.args.octets.now c.args.start taken
    in
    let count : length taken ≤ length c.args.packets.now =
    omega (arith, length-take c.loop-packet.packet-index c.args.packets.now)
    in
    record {
      pieces = _;
      taken = c.loop-packet.invariant;
      short = omega (arith, bound, count, c.requires.few);
    }
