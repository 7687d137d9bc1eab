use Rattle.bm_connections.proofs.stamps.Stamps.observe.Goals as goal

pub returns : goal.returns
returns c = λ stage past e is k. record {
  versions = c.in_ok-observe.ensures past e is k.versions;
  labels = c.observe.ensures stage past e is k.versions k.labels;
  moves = k.moves;
}
