use Rattle.std.proofs.Common.{◌∙◌, ◌++◌, ap, append_assoc, string_bytes}
use Rattle.bm_connections.specs.Text.{accepted_text, cost_text, outcome_text, seen_text, tallied_text}
use Rattle.bm_connections.proofs.Lines.{four_more}
use Rattle.bm_connections.proofs.text.write_connection.Goals as goal

pub returns : goal.returns
returns c =
    let clock = c.args.clock.0 in
    let before = string_bytes c.args.text.now in
    let one = c.args.c.now.connection in
    let seen = seen_text clock one in
    let accepted = accepted_text c.args.racks one in
    let tallied = tallied_text one in
    let outcome = outcome_text clock one in
    let cost = cost_text c.args.c.now in
    c.in_ok-write_cost.ensures
    ∙ ap (λ l. l ++ cost) (four_more before seen accepted tallied outcome (string_bytes c.write_seen.new.text)
    (string_bytes c.write_accepted.new.text) (string_bytes c.write_tallied.new.text)
    (string_bytes c.write_outcome.new.text) c.in_ok-write_seen.ensures c.in_ok-write_accepted.ensures
    c.in_ok-write_tallied.ensures c.in_ok-write_outcome.ensures)
    ∙ append_assoc before (seen ++ accepted ++ tallied ++ outcome) cost
