use Rattle.std.proofs.Common.{ℕ, List, [], ◌∷◌, ◌∙◌, ap, refl}
use Rattle.std.specs.Prelude.{flat_map}
use Rattle.bm_lifetime.specs.Lifetime.{lifetime}
use Rattle.bm_connections.specs.Connections.{connections}
use Rattle.bm_connections.specs.Needed.{needed_changes}
use Rattle.bm_connections.specs.NeededText.{changes_text as needed_text}
use Rattle.bm_connections.specs.OpenEnds.{open_end_line, open_ends}
use Rattle.bm_connections_cli.specs.Changes.{changes_text}
use Rattle.bm_connections_cli.specs.Outlived.{outlived_text}
use Rattle.bm_connections_cli.proofs.Joined.{added, then_more}
use Rattle.bm_connections_cli.proofs.parts.add_changes.Goals as goal

pub returns : goal.returns
returns c =
    let h = c.args.h.now in
    let f = c.requires.found in
    let clock = c.args.clock.0 in
    let d1 : List ℕ = changes_text clock h.stage.script.setting.racks h.stage.script.plan c.args.verbs.now in
    let p1 = added c.changes_text.result _ _ _ d1 c.in_ok-add.ensures c.changes_text.ensures (refl) in
    let d2 : List ℕ = outlived_text (lifetime h.stage.script) (connections h) in
    let p2 = added c.outlived_text.result _ _ _ d2 c.in_ok-add-2.ensures c.outlived_text.ensures (ap (outlived_text (lifetime h.stage.script)) c.requires.table) in
    let d3 : List ℕ = needed_text clock (needed_changes h) in
    let p3 = added c.needed_changes_text.result _ _ _ d3 c.in_ok-add-3.ensures c.needed_changes_text.ensures (ap (needed_text clock) (c.items.ensures ∙ f.needed)) in
    let d4 : List ℕ = flat_map open_end_line (open_ends h.stage (connections h)) in
    let p4 = added c.open_ends_text.result _ _ _ d4 c.in_ok-add-4.ensures c.open_ends_text.ensures (ap (flat_map open_end_line) (c.items-2.ensures ∙ f.left_open)) in
    then_more c.args.parts.now.items (d1 ∷ d2 ∷ d3 ∷ []) (d4 ∷ []) _ _ (then_more c.args.parts.now.items (d1 ∷ d2 ∷ []) (d3 ∷ []) _ _ (then_more c.args.parts.now.items (d1 ∷ []) (d2 ∷ []) _ _ (p1) p2) p3) p4
