use Rattle.std.proofs.Common.{ap, ◌∙◌}
use Rattle.bm_publish.specs.Posts.{Posted}
use Rattle.bm_worker.proofs.SmallRuns.{sound_servers}
use Rattle.bm_thread_tests.proofs.worker.worker.Goals as goal

pub new-mux-requires-clause-servers : goal.new-mux-requires-clause-servers
new-mux-requires-clause-servers c =
    sound_servers c.args.stage.now c.args.look.plan c.requires.sound
    (ap (λ (p : Posted). p.plan) c.requires.look ∙ c.requires.plan)
