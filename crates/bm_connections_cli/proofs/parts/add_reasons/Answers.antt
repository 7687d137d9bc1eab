use Rattle.std.proofs.Common.{◌++◌}
use Rattle.bm_connections_cli.specs.Text.{advice_parts, capture_advice, capture_parts, cause_parts}
use Rattle.bm_connections_cli.proofs.Joined.{then_more}
use Rattle.bm_connections_cli.proofs.parts.add_reasons.Goals as goal

pub returns : goal.returns
returns c =
    let h = c.args.h.now in
    let before = c.args.parts.now.items in
    let first = cause_parts h in
    let second = capture_parts h in
    let third = advice_parts h in
    then_more before (first ++ second ++ third) (capture_advice h) _ _
    (then_more before (first ++ second) third _ _
    (then_more before first second _ _ c.in_ok-add_causes.ensures c.in_ok-add_capture.ensures)
    c.in_ok-add_advice.ensures) c.in_ok-add_capture_advice.ensures
