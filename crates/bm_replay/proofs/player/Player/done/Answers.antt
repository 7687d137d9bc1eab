use Rattle.std.proofs.Common.{◌≡◌, ◌+◌, ◌-◌, ◌∙◌, ap, sym, arith, false, is_some}
use Rattle.bm_fault.specs.Wires.{first_due}
use Rattle.bm_replay.proofs.HeldPackets.{go, steers_behind}
use Rattle.bm_replay.proofs.player.Player.done.Goals as goal

pub returns-then-is_none-clause-holds : goal.returns-then-is_none-clause-holds
returns-then-is_none-clause-holds c =
    let p = c.args.self.now in
    let at = steers_behind p.cleared p.packet.next c.in-Steers.packet p.packet.head c.in_ok-packet.field-0
    c.requires.behind c.in_ok-packet.was c.in-Steers.is in
    let one : c.in-Steers.packet ≡ (c.in-Steers.packet - 1) + 1 = omega (arith, at.1) in
    let none : is_some (first_due p.wire) ≡ false =
    ap (λ o. is_some o) (sym c.least.ensures.first) ∙ c.if-is_none.ensures in
    go p.stage.capture.records p.cleared (c.in-Steers.packet - 1) p.packets p.wire p.packet c.in_ok-packet.field-0
    c.in-Steers.packet c.requires c.in_ok-packet.was c.in-Steers.is one none
