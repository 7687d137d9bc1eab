use Rattle.std.proofs.Common.{◌∙◌}
use Rattle.bm_load.proofs.Records.{packets_of}
use Rattle.bm_load.proofs.Sound.{sound_of}
use Rattle.bm_load.proofs.stage.load_stage.Goals as goal

pub returns-clause-sound : goal.returns-clause-sound
returns-clause-sound c =
    sound_of c.args.n _ _ _ _ (c.in_ok-load_setting.ensures) (c.in_ok-load_plan.ensures.plan)
    (c.of.ensures ∙ c.in_ok-vec.ensures.items) (c.in_ok-records.ensures.records) c.requires.1
    (c.in_ok-load_plan.ensures.membership)

pub returns-clause-packets : goal.returns-clause-packets
returns-clause-packets c =
    packets_of c.args.n _ _ (c.in_ok-records.ensures.records) (c.in_ok-records.ensures.packets) c.requires.0
    c.requires.1
