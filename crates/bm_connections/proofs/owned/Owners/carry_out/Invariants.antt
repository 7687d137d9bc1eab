use Rattle.std.proofs.Common.{◌≡◌, drop}
use Rattle.bm_connections.specs.Inside.Owned.{all_gone}
use Rattle.bm_connections.proofs.owned.Owners.carry_out.Given as goal

abbrev pub invariant-loop-m : goal.invariant-loop-m
invariant-loop-m l = record {
  servers : l.self.servers ≡ l.initial.self.servers;
  owners : all_gone (drop l.m-index l.moves) l.self.owners ≡ all_gone l.moves l.initial.self.owners;
}
