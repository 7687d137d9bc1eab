use Rattle.std.proofs.Common.{List, Bor, map, subst, sym, ap, ◌∙◌}
use Rattle.std.specs.List.{AllByRecursion}
use Rattle.std.proofs.lemmas.Result.{IfOk-weaker}
use Rattle.bm_core.specs.declared.events.Event.{Event}
use Rattle.bm_merge.specs.Merges.{joined}
use Rattle.bm_merge.specs.Rising.{IsRising, in_order}
use Rattle.bm_merge.proofs.Heading.{in_order_again, orders_rise}
use Rattle.bm_world.specs.Inside.Logged.{group_logs}
use Rattle.bm_world.proofs.Rising.{merged_back}
use Rattle.bm_world.proofs.run_logs.merge_beside.Goals as goal

abbrev now : Bor (List Event) → List Event
now log = log.now

pub merge_rising_beside-requires : goal.merge_rising_beside-requires
merge_rising_beside-requires g c =
    let groups = c.in_ok-groups.groups.items in
    let merged = merged_back groups c.as_mut_slice.result.now c.merge_and_make_room.new.groups c.as_slice.result.now
    c.as_slice-2.result.now c.in_ok-groups.groups.len c.is_one_refused.result c.as_mut_slice.ensures.value
    c.as_mut_slice.ensures.len c.merge_and_make_room.ensures.count c.merge_and_make_room.ensures.each.each
    c.as_slice.ensures.value c.is_one_refused.ensures c.if-is_one_refused.false c.as_slice-2.ensures.value in
    let logs = ap (λ l. map now l) c.as_slice-3.ensures.value ∙ c.in_ok-logs.ensures ∙ merged in (
      c.type_bounds.sync-R,
      subst (λ (l : List (List Event)). AllByRecursion IsRising l) (sym logs) (orders_rise (map group_logs groups)),
    )

pub returns : goal.returns
returns g c =
    let groups = c.in_ok-groups.groups.items in
    let merged = merged_back groups c.as_mut_slice.result.now c.merge_and_make_room.new.groups c.as_slice.result.now
    c.as_slice-2.result.now c.in_ok-groups.groups.len c.is_one_refused.result c.as_mut_slice.ensures.value
    c.as_mut_slice.ensures.len c.merge_and_make_room.ensures.count c.merge_and_make_room.ensures.each.each
    c.as_slice.ensures.value c.is_one_refused.ensures c.if-is_one_refused.false c.as_slice-2.ensures.value in
    let logs = ap (λ l. map now l) c.as_slice-3.ensures.value ∙ c.in_ok-logs.ensures ∙ merged in
    let order = ap (λ (l : List (List Event)). in_order (joined l)) logs ∙ in_order_again (map group_logs groups)
    ∙ ap (λ (l : List (List Event)). in_order (joined l)) c.in_ok-groups.ensures in
    IfOk-weaker c.merge_rising_beside.result _ _ (λ events is. is ∙ order) c.merge_rising_beside.ensures
