-- The line of what the code knows of a stream.
use Rattle.std.specs.Prelude.{List, [], ℕ, Option, Some, None}
use Rattle.bm_stream.specs.declared.lines.Received.{Received}
use Rattle.bm_stream.specs.Text.{stream_line}

abbrev pub received_line : Option Received → List ℕ
received_line None = []
received_line (Some r) = stream_line r.clock r.server r.flow r.octets r.hash r.ended
