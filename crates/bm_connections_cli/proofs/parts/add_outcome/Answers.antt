use Rattle.std.proofs.Common.{◌++◌}
use Rattle.bm_connections.specs.Base.{compared_with}
use Rattle.bm_connections_cli.specs.Text.{change_parts, reply_parts, table_parts}
use Rattle.bm_connections_cli.proofs.Joined.{then_more}
use Rattle.bm_connections_cli.proofs.parts.add_outcome.Goals as goal

pub returns : goal.returns
returns c =
    let clock = c.args.clock.0 in
    let h = c.args.h.now in
    let before = c.args.parts.now.items in
    let first = table_parts clock h (compared_with c.args.table.now c.args.wholes.now) in
    let second = change_parts clock c.args.verbs.now h in
    then_more before (first ++ second) (reply_parts clock h) _ _
    (then_more before first second _ _ c.in_ok-add_table.ensures c.in_ok-add_changes.ensures)
    c.in_ok-add_replies.ensures
