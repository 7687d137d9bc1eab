use Rattle.std.proofs.Common.{sym, subst, ◌∙◌}
use Rattle.bm_core.specs.declared.events.Stage.{Stage}
use Rattle.bm_core.specs.Stages.{IsSound}
use Rattle.bm_replay.proofs.SmallStages.{bare_sound}
use Rattle.bm_replay_tests.proofs.stages.bare_stage.Goals as goal

pub returns-clause-sound : goal.returns-clause-sound
returns-clause-sound c =
    subst (λ (x : Stage). IsSound x)
    (λ i. record {
      script =
          record {
            setting = sym c.in_ok-setting.ensures i;
            plan = sym c.in_ok-new.ensures i;
            commands =
                sym (c.of.ensures ∙ c.in_ok-two_closes.ensures) i;
          };
      capture = c.args.capture;
    })
    (bare_sound c.args.capacity c.requires.capacity c.args.closing c.args.capture c.requires.capture)
