use Rattle.std.proofs.Common.{◌≡◌, ◌++◌, reverse, take}
use Rattle.bm_stream.specs.Text.{lines_of}
use Rattle.bm_stream.proofs.receiving.streams.Given as goal

abbrev pub invariant-loop-place : goal.invariant-loop-place
invariant-loop-place l =
    l.out.items
    ≡ l.fn.out.items
    ++ lines_of l.h.stage l.octets (reverse l.events) (reverse (take l.place l.events))
