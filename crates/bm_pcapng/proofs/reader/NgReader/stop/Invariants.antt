use Rattle.bm_pcapng.specs.Reader.{Passes}
use Rattle.bm_pcapng.proofs.reader.NgReader.stop.Given as goal

abbrev pub invariant-loop-size : goal.invariant-loop-size
invariant-loop-size g l = Passes g.S.Source.left g.S.Source.faults l.fn.self l.self

abbrev pub decreases-loop-size : goal.decreases-loop-size
decreases-loop-size g l = l.self.place.room
