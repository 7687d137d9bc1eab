use Rattle.std.proofs.Common.{ℕ, List, [], ◌∷◌, ap, refl}
use Rattle.bm_connections.specs.Connections.{connections}
use Rattle.bm_connections.specs.Copies.{copies, copies_text}
use Rattle.bm_connections_cli.specs.Advice.{end_lines, nothing_line}
use Rattle.bm_connections_cli.proofs.Joined.{added, then_more}
use Rattle.bm_connections_cli.proofs.parts.add_capture_advice.Goals as goal

pub returns : goal.returns
returns c =
    let h = c.args.h.now in
    let f = c.requires.found in
    let d1 : List ℕ = copies_text (copies h.stage.capture) in
    let p1 = added c.copies_text.result _ _ _ d1 c.in_ok-add.ensures c.copies_text.ensures (ap copies_text f.copied) in
    let d2 : List ℕ = nothing_line (connections h) in
    let p2 = added c.nothing_text.result _ _ _ d2 c.in_ok-add-2.ensures c.nothing_text.ensures (ap nothing_line c.requires.table) in
    let d3 : List ℕ = end_lines h.stage in
    let p3 = added c.end_text.result _ _ _ d3 c.in_ok-add-3.ensures c.end_text.ensures (refl) in
    then_more c.args.parts.now.items (d1 ∷ d2 ∷ []) (d3 ∷ []) _ _ (then_more c.args.parts.now.items (d1 ∷ []) (d2 ∷ []) _ _ (p1) p2) p3
