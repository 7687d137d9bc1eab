use Rattle.std.proofs.Common.{reverse, take}
use Rattle.bm_connections.specs.Inside.Copies.{KnowsCopies}
use Rattle.bm_connections.proofs.copies.copies_in.Given as goal

abbrev pub invariant-loop-record : goal.invariant-loop-record
invariant-loop-record l =
    record { knows : KnowsCopies (reverse (take l.record-index l.capture.records)) l.copies }
