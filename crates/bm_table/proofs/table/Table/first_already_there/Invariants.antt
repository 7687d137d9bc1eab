use Rattle.std.proofs.Common.{◌≡◌, drop}
use Rattle.bm_table.specs.Inside.Entries.{server_in}
use Rattle.bm_table.specs.Plans.{bucket_already_there}
use Rattle.bm_table.proofs.table.Table.first_already_there.Given as goal

abbrev pub invariant-loop-m : goal.invariant-loop-m
invariant-loop-m l =
    bucket_already_there (server_in l.self) (drop l.m-index l.moves) ≡ bucket_already_there (server_in l.self) l.moves
