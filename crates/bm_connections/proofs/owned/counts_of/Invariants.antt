use Rattle.std.proofs.Common.{◌≡◌, length, take}
use Rattle.bm_connections.specs.Inside.Owned.{AreCounted}
use Rattle.bm_connections.proofs.owned.counts_of.Given as goal

abbrev pub invariant-loop-owner : goal.invariant-loop-owner
invariant-loop-owner l = record {
  count : length l.counts.items ≡ l.servers;
  counted : AreCounted (take l.owner-index l.owners) l.counts.items;
}
