use Rattle.std.proofs.Common.{drop}
use Rattle.std.specs.BTreeMap.{get}
use Rattle.std.specs.Ordering.{nat_cmp}
use Rattle.bm_table.specs.Inside.Entries.{server_in}
use Rattle.bm_table.proofs.LeafLemmas.{SayLeft}
use Rattle.bm_table.proofs.table.Table.left.Given as goal

abbrev pub invariant-loop-m : goal.invariant-loop-m
invariant-loop-m l = SayLeft (λ s. get nat_cmp l.left s) (server_in l.self) (drop l.m-index l.moves) l.moves
