use Rattle.std.proofs.Common.{ℕ, List, [], ◌∷◌, ◌∙◌, ap, refl}
use Rattle.bm_connections.specs.Answers.{answer_line, answer_of}
use Rattle.bm_connections.specs.Base.{compared_with}
use Rattle.bm_connections.specs.Connections.{connections}
use Rattle.bm_connections.specs.Late.{longest_late}
use Rattle.bm_connections.specs.OpenEnds.{open_count}
use Rattle.std.specs.Prelude.{flat_map}
use Rattle.bm_connections.specs.Text.{server_line, table_text}
use Rattle.bm_connections_cli.specs.Text.{server_lines}
use Rattle.bm_connections_cli.proofs.Joined.{added, then_more}
use Rattle.bm_connections_cli.proofs.parts.add_table.Goals as goal

pub returns : goal.returns
returns c =
    let h = c.args.h.now in
    let f = c.requires.found in
    let cs = compared_with c.args.table.now c.args.wholes.now in
    let left = open_count h.stage (connections h) in
    let found = c.args.found.now in
    let is = c.answer_of-answer.ensures
    ∙ ap (λ t. answer_of t cs found.ends.connections found.needs.late) c.requires.table
    ∙ ap (λ n. answer_of (connections h) cs n found.needs.late) f.open_connections
    ∙ ap (answer_of (connections h) cs left) f.late in
    let d1 : List ℕ = answer_line (answer_of (connections h) cs left (longest_late h)) in
    let p1 = added c.answer_text.result _ _ _ d1 c.in_ok-add.ensures c.answer_text.ensures (ap answer_line is) in
    let d2 : List ℕ = table_text c.args.clock.0 h.stage.script.setting.racks cs in
    let p2 = added c.table_text.result _ _ _ d2 c.in_ok-add-2.ensures c.table_text.ensures (refl) in
    let d3 : List ℕ = server_lines h in
    let p3 = added c.servers_text.result _ _ _ d3 c.in_ok-add-3.ensures c.servers_text.ensures (ap (flat_map server_line) (c.items.ensures ∙ f.servers)) in
    then_more c.args.parts.now.items (d1 ∷ d2 ∷ []) (d3 ∷ []) _ _ (then_more c.args.parts.now.items (d1 ∷ []) (d2 ∷ []) _ _ (p1) p2) p3
