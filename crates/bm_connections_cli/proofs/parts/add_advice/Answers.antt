use Rattle.std.proofs.Common.{ℕ, List, [], ◌∷◌, ◌∙◌, ap}
use Rattle.std.specs.Prelude.{flat_map}
use Rattle.bm_connections.specs.declared.counts.CauseCount.{CauseCount}
use Rattle.bm_connections.specs.Connections.{connections}
use Rattle.bm_connections.specs.OpenEnds.{open_count}
use Rattle.bm_connections_cli.specs.Advice.{advice_line, open_line}
use Rattle.bm_connections_cli.specs.Text.{advice_lines}
use Rattle.bm_connections_cli.proofs.Joined.{added, then_more}
use Rattle.bm_connections_cli.proofs.parts.add_advice.Goals as goal

pub returns : goal.returns
returns c =
    let h = c.args.h.now in
    let f = c.requires.found in
    let d1 : List ℕ = advice_lines h in
    let p1 = added c.advice_text.result _ _ _ d1 c.in_ok-add.ensures c.advice_text.ensures (ap (flat_map (λ (x : CauseCount). advice_line x.cause)) (c.items.ensures ∙ f.causes)) in
    let d2 : List ℕ = open_line (open_count h.stage (connections h)) in
    let p2 = added c.open_text.result _ _ _ d2 c.in_ok-add-2.ensures c.open_text.ensures (ap open_line f.open_connections) in
    then_more c.args.parts.now.items (d1 ∷ []) (d2 ∷ []) _ _ (p1) p2
