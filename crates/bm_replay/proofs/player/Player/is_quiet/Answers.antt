use Rattle.std.proofs.Common.{◌≡◌, true, rules}
use Rattle.bm_replay.specs.Inside.Comings.{is_before}
use Rattle.bm_replay.specs.Inside.Players.{publish_after}
use Rattle.bm_table.specs.Tables.{next_change}
use Rattle.bm_replay.proofs.Quiet.{before_sooner}
use Rattle.bm_replay.proofs.player.Player.is_quiet.Goals as goal

pub returns : goal.returns
returns c =
    let p = c.args.self.now
    in let m = c.args.moment.0
    in let change : is_before m (publish_after p.published (next_change p.stage.script.plan p.published)) ≡ true =
    search rules
    in let switch : is_before m p.switch ≡ true = search rules
    in let close : is_before m p.close.head ≡ true = search rules
    in let retire : is_before m p.retire.head ≡ true = search rules
    in let sync : is_before m p.sync.head ≡ true = search rules
    in before_sooner m _ _ (before_sooner m _ _ (before_sooner m _ _ (before_sooner m _ _ change switch) close) retire) sync
