use Rattle.std.proofs.Common.{◌≡◌, ◌∙◌, List, ap, length, map, sym}
use Rattle.std.proofs.lemmas.List.{length-map, with_items_is}
use Rattle.bm_connections.specs.declared.connection.Connection.{Connection}
use Rattle.bm_connections.specs.Inside.Resets.{with_end}
use Rattle.bm_connections.proofs.Closing.{all_ended}
use Rattle.bm_connections.proofs.observed.observe_events.Goals as goal

pub returns : goal.returns
returns c =
    let rows = c.observe_each.new.rows
    in let closed = c.observe_each.new.closed
    in let resets = c.observe_each.new.resets
    in let v = c.into_connections-connections.result
    in let written : c.end_all.new.connections ≡ map (with_end closed resets) v.items =
    c.end_all.ensures ∙ ap (map (with_end closed resets)) c.deref_mut.ensures.value
    in let long : length c.end_all.new.connections ≡ v.len =
    ap (λ (l : List Connection). length l) written ∙ length-map v.items (with_end closed resets) ∙ sym v.ok.0
    in let same : v.items ≡ rows.connections.items = ap (λ l. l.items) c.into_connections-connections.ensures
    in with_items_is v c.end_all.new.connections long
    ∙ all_ended c.args.h.now closed resets rows c.end_all.new.connections c.in_ok-observe_each.ensures.rows
    c.in_ok-observe_each.ensures.closed c.in_ok-observe_each.ensures.resets (written ∙ ap (map (with_end closed resets)) same)
