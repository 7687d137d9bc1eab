use Rattle.std.proofs.Common.{subst, sym}
use Rattle.bm_state.specs.declared.labels.Labels.{Labels}
use Rattle.bm_state.specs.Labels.{KeepsLabels}
use Rattle.bm_connections.proofs.followed.Followed.observe.Goals as goal

pub returns : goal.returns
returns c = λ past e is place k. record {
  stamps = c.in_ok-observe-2.ensures c.args.stage.now past e is k.stamps;
  owners = c.in_ok-observe.ensures past e is place
      (subst (λ (l : Labels). KeepsLabels c.args.stage.now past l) (sym c.labels.ensures) k.stamps.labels)
      k.owners;
  unretired = c.in_ok-observe-3.ensures past e is place k.unretired;
  last = k.last;
}
