use Rattle.std.proofs.Common.{sym, subst, ◌∙◌}
use Rattle.bm_core.specs.declared.events.Stage.{Stage}
use Rattle.bm_core.specs.Stages.{IsSound}
use Rattle.bm_replay.proofs.SmallStages.{twice_moved_sound}
use Rattle.bm_replay_tests.proofs.stages.twice_moved_stage.Goals as goal

pub returns-clause-sound : goal.returns-clause-sound
returns-clause-sound c =
    subst (λ (x : Stage). IsSound x)
    (λ i. record {
      script =
          record {
            setting = sym c.in_ok-setting_of_three.ensures i;
            plan = sym c.in_ok-twice_moved_plan.ensures i;
            commands =
                sym (c.of.ensures ∙ c.in_ok-changes.ensures.items) i;
          };
      capture = c.args.capture;
    })
    (twice_moved_sound c.args.second.0 c.requires.later c.requires.soon c.args.capture c.requires.capture)
