use Rattle.std.proofs.Common.{subst}
use Rattle.bm_base.specs.declared.capture.Body.{Body}
use Rattle.bm_base.specs.Captures.{IsFit}
use Rattle.bm_table.specs.Settings.{plain_setting}
use Rattle.bm_thread_tests.proofs.worker.add_syn.Goals as goal

pub returns-clause-fit : goal.returns-clause-fit
returns-clause-fit c =
    subst (λ (b : Body). IsFit plain_setting.vips (record { moment = record { 0 = 0 }; body = b })) c.in-Steerable.is
    (c.classify-body.ensures.fit 0)
