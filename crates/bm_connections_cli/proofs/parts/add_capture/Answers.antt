use Rattle.std.proofs.Common.{ℕ, List, [], ◌∷◌, ap, refl}
use Rattle.bm_trace.specs.Report.{note_line}
use Rattle.bm_connections.specs.Unsteered.{unsteered, unsteered_text}
use Rattle.bm_connections_cli.proofs.Joined.{added, then_more}
use Rattle.bm_connections_cli.proofs.parts.add_capture.Goals as goal

pub returns : goal.returns
returns c =
    let h = c.args.h.now in
    let f = c.requires.found in
    let d1 : List ℕ = unsteered_text (unsteered h.stage.capture) in
    let p1 = added c.unsteered_text.result _ _ _ d1 c.in_ok-add.ensures c.unsteered_text.ensures (ap unsteered_text f.not_steered) in
    let d2 : List ℕ = note_line h.stage.capture.cut in
    let p2 = added c.cut_text.result _ _ _ d2 c.in_ok-add-2.ensures c.cut_text.ensures (refl) in
    then_more c.args.parts.now.items (d1 ∷ []) (d2 ∷ []) _ _ (p1) p2
