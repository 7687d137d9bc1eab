use Rattle.std.proofs.Common.{◌≡◌, ◌+◌, ◌≤◌, ℕ, List, length, Some, sym, subst, ◌∙◌, ap}
use Rattle.bm_core.specs.Past.{segment_of}
use Rattle.bm_tcp.specs.Packets.{ReadsAs}
use Rattle.bm_worker.specs.Environments.{Environment}
use Rattle.bm_worker.proofs.Collecting.{packet_of_record}
use Rattle.bm_worker.proofs.shared.Shared.octets_at.Goals as goal

pub returns : goal.returns
returns g c = λ segment is.
    let a = c.self.inside in
    let got : segment_of a.stage.now (c.args.at + 1) ≡ Some segment =
    ap (λ (x : Environment _). segment_of x.stage (c.args.at + 1)) c.self.view_is ∙ is in
    subst (λ (l : List ℕ). (length l ≤ 65479) × ReadsAs l segment) (sym c.get.ensures)
    (packet_of_record a.stage.now a.octets.now c.args.at segment c.self.invariant.packets got)
