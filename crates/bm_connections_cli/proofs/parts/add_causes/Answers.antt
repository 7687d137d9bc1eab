use Rattle.std.proofs.Common.{ℕ, List, [], ◌∷◌, ◌∙◌, ap}
use Rattle.std.specs.Prelude.{flat_map}
use Rattle.bm_connections.specs.AfterEnd.{after_end, after_end_text}
use Rattle.bm_connections.specs.NeededText.{thrice_text}
use Rattle.bm_connections.specs.Text.{cause_line, late_text}
use Rattle.bm_connections.specs.Thrice.{moved_thrice}
use Rattle.bm_connections_cli.specs.Text.{cause_lines, late_lines}
use Rattle.bm_connections_cli.proofs.Joined.{added, then_more}
use Rattle.bm_connections_cli.proofs.parts.add_causes.Goals as goal

pub returns : goal.returns
returns c =
    let h = c.args.h.now in
    let f = c.requires.found in
    let d1 : List ℕ = cause_lines h in
    let p1 = added c.causes_text.result _ _ _ d1 c.in_ok-add.ensures c.causes_text.ensures (ap (flat_map cause_line) (c.items.ensures ∙ f.causes)) in
    let d2 : List ℕ = late_lines h in
    let p2 = added c.late_text.result _ _ _ d2 c.in_ok-add-2.ensures c.late_text.ensures (ap late_text f.late) in
    let d3 : List ℕ = thrice_text (moved_thrice h) in
    let p3 = added c.moved_thrice_text.result _ _ _ d3 c.in_ok-add-3.ensures c.moved_thrice_text.ensures (ap thrice_text (c.items-2.ensures ∙ f.thirds)) in
    let d4 : List ℕ = after_end_text (after_end h) in
    let p4 = added c.after_end_text.result _ _ _ d4 c.in_ok-add-4.ensures c.after_end_text.ensures (ap after_end_text f.after_ends) in
    then_more c.args.parts.now.items (d1 ∷ d2 ∷ d3 ∷ []) (d4 ∷ []) _ _ (then_more c.args.parts.now.items (d1 ∷ d2 ∷ []) (d3 ∷ []) _ _ (then_more c.args.parts.now.items (d1 ∷ []) (d2 ∷ []) _ _ (p1) p2) p3) p4
