use Rattle.std.proofs.Common.{◌∷◌, refl, subst, sym}
use Rattle.bm_core.specs.Past.{newest}
use Rattle.bm_state.specs.Clocks.{KeepsClocks}
use Rattle.bm_state.specs.Labels.{KeepsLabels}
use Rattle.bm_state.specs.Moves.{AreMoves}
use Rattle.bm_state.specs.Losses.{KeepsLosses}
use Rattle.bm_state.specs.Tallies.{KeepsTallies}
use Rattle.bm_state.specs.Versions.{KeepsVersions}
use Rattle.bm_running.specs.declared.known.Known.{Known}
use Rattle.bm_running.specs.Inside.Leaves.{KeepsLeaves}
use Rattle.bm_running.specs.Inside.Shards.{KeepsShards}
use Rattle.bm_running.proofs.known.Known.step.Goals as goal

pub returns : goal.returns
returns c past few knows =
    let stage = c.args.stage.now
    in let e = c.args.event.now
    in let author = c.author_of-author.ensures
    in let on_time = (c.allow.ensures stage past e knows.clocks author refl).0 c.if-not-allow.false
    in let came = c.if-not-branch.false
    in let same = sym c.in_ok-may_come.ensures.others
    in let clocks = subst (λ (k : Known). KeepsClocks stage past k.clocks) same knows.clocks
    in let versions = subst (λ (k : Known). KeepsVersions past k.versions) same knows.versions
    in let labels = subst (λ (k : Known). KeepsLabels stage past k.labels) same knows.labels
    in let tallies = subst (λ (k : Known). KeepsTallies past k.tallies) same knows.tallies
    in let losses = subst (λ (k : Known). KeepsLosses past k.losses) same knows.losses
    in let moves = subst (λ (k : Known). AreMoves stage.script.plan k.moves) same knows.moves
    in let observed = sym c.in_ok-observe_leaves.ensures.others
    in let decides = c.in_ok-may_come.ensures.decides past knows
    in let may = decides.0 came
    in record {
      run = (
        record { clock = on_time.0; own = on_time.1; may = may },
        knows.run,
      );
      clocks =
          c.in_ok-observe.ensures stage past e (subst (λ (k : Known). KeepsClocks stage past k.clocks) observed clocks) author
          refl;
      labels =
          c.observe-2.ensures stage past e refl (subst (λ (k : Known). KeepsVersions past k.versions) observed versions)
          (subst (λ (k : Known). KeepsLabels stage past k.labels) observed labels);
      versions =
          c.in_ok-observe-2.ensures past e refl (subst (λ (k : Known). KeepsVersions past k.versions) observed versions);
      moves = subst (λ (k : Known). AreMoves stage.script.plan k.moves) observed moves;
      tallies =
          c.in_ok-observe-3.ensures past e refl few (subst (λ (k : Known). KeepsTallies past k.tallies) observed tallies);
      losses = c.in_ok-observe-4.ensures past few (subst (λ (k : Known). KeepsLosses past k.losses) observed losses);
      shards =
          subst (λ (k : Known). KeepsShards stage (e ∷ past) k.shards) observed
          (c.in_ok-may_come.ensures.shards past knows came);
      leaves =
          c.in_ok-observe_leaves.ensures.keeps past
          (subst (λ (k : Known). KeepsLeaves stage.script.plan (newest past) k.leaves) same knows.leaves) may;
    }
