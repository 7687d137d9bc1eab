use Rattle.std.proofs.Common.{◌∙◌, ap, sym}
use Rattle.bm_replay.specs.Inside.Comings.{first_coming}
use Rattle.bm_replay.specs.Inside.Players.{soonest_command}
use Rattle.bm_replay.proofs.Quiet.{quiet}
use Rattle.bm_replay.proofs.player.Player.coming.Goals as goal

pub returns-in-Some : goal.returns-in-Some
returns-in-Some c =
    let p = c.args.self.now
    in c.first_coming.ensures
    ∙ (quiet (soonest_command p) c.least-copy.result p.packet.head c.in-Some.moment (sym c.in-Some.ensures)
    c.if-is_quiet.ensures
    ∙ ap (λ o. first_coming (soonest_command p) o p.packet.head) c.least-copy.ensures.first)
