use Rattle.std.proofs.Common.{◌≡◌, drop}
use Rattle.bm_io.specs.Named.{find_by}
use Rattle.bm_io.proofs.named.find.Given as goal

abbrev pub invariant-loop-file : goal.invariant-loop-file
invariant-loop-file g l =
    find_by g.T.Named.name_of l.name (drop l.file-index l.files) ≡ find_by g.T.Named.name_of l.name l.files
