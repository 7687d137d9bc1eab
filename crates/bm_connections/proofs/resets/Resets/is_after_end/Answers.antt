use Rattle.std.proofs.Common.{◌∙◌, ap, sym}
use Rattle.bm_connections.specs.Connections.{is_after_end}
use Rattle.bm_connections.proofs.Resetting.{after_end_is}
use Rattle.bm_connections.proofs.resets.Resets.is_after_end.Goals as goal

pub returns-in-Some : goal.returns-in-Some
returns-in-Some c = λ past k.
    after_end_is c.args.stage.now past _ c.in-Some.segment c.args.self.now _ (cc) c.follows_end.ensures k
    ∙ sym (ap (is_after_end c.args.stage.now past) c.in-Arrive.is)
