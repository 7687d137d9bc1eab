use Rattle.std.proofs.Common.{◌∙◌, refl}
use Rattle.bm_connections.specs.Needed.{with_need}
use Rattle.bm_connections.proofs.Lateness.{longest_observed}
use Rattle.bm_connections.proofs.all_needs.AllNeeds.observe.Goals as goal

pub returns : goal.returns
returns c = λ past place by k. record {
  late = longest_observed c.args.stage.now past c.args.event.now c.came_late-late.result c.wait-wait.result _ _
      c.longest_after-self.ensures
      (c.came_late-late.ensures past k.followed by (c.thrice_need-third.ensures past k.followed by))
      (c.wait-wait.ensures past k.followed.stamps) k.late;
  followed = c.in_ok-observe-4.ensures past c.args.event.now refl place k.followed;
  changes =
      λ n. c.in_ok-observe.ensures n
      ∙ (λ i. with_need n (c.change_need-change.ensures past k.followed i) (k.changes n i));
  thirds =
      λ n. c.in_ok-observe-2.ensures n
      ∙ (λ i. with_need n (c.thrice_need-third.ensures past k.followed by i) (k.thirds n i));
  servers =
      λ n. c.in_ok-observe-3.ensures n
      ∙ (λ i. with_need n (c.server_need-server.ensures past k.followed by i) (k.servers n i));
}
