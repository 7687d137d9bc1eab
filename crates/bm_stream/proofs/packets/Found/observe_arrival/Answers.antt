use Rattle.std.proofs.Common.{◌≡◌, ◌∙◌, ap, true, rules}
use Rattle.std.specs.Prelude.{Some}
use Rattle.bm_core.specs.Past.{segment_of}
use Rattle.bm_core.specs.declared.events.Verdict.{Verdict}
use Rattle.bm_core.specs.declared.events.What.TheVariants.{Arrive}
use Rattle.bm_stream.specs.Accepts.{is_piece}
use Rattle.bm_stream.proofs.Finding.{piece_observed}
use Rattle.bm_stream.proofs.packets.Found.observe_arrival.Goals as goal

pub returns-then-is_piece : goal.returns-then-is_piece
returns-then-is_piece c past e hop what place may found =
    let segment : segment_of c.args.stage.now c.args.packet ≡ Some c.in-Some.segment = search rules in
    let piece : is_piece c.in-Process.taken ≡ true = search rules in
    piece_observed c.args.stage.now past e c.args.self.now _ c.args.packet hop c.args.server c.in-Process.taken
    c.in-Some.segment
    (what ∙ ap (λ (v : Verdict). Arrive c.args.packet hop c.args.server v) c.in-Process.is)
    piece segment may found c.in_ok-piece-in-Process.ensures.accepts c.in_ok-piece-in-Process.ensures.packets
