use Rattle.std.proofs.Common.{◌≡◌, take}
use Rattle.std.specs.Io.KnownBytes.{Appends}
use Rattle.bm_connections_cli.proofs.Pieces.{joined}
use Rattle.bm_connections_cli.proofs.put.put_parts.Given as goal

abbrev pub invariant-loop-part : goal.invariant-loop-part
invariant-loop-part g l = record {
  written : Appends (g.K.Sink.written l.fn.out) (g.K.Sink.written l.out) (joined (take l.part-index l.parts));
  later : g.K.Sink.faults l.out ≡ g.K.Sink.faults l.fn.out;
}
