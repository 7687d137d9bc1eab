use Rattle.std.proofs.Common.{rules, refl, ◌∙◌}
use Rattle.bm_connections.specs.Inside.Closed.{AreClosed}
use Rattle.bm_connections.specs.Inside.Resets.{KnowsResets}
use Rattle.bm_connections.specs.Inside.Rows.{AreRows}
use Rattle.bm_connections.specs.Inside.Stamps.{KnowsStamps}
use Rattle.bm_connections.specs.Seen.{records_of}
use Rattle.bm_connections.proofs.Passes.{cause_here, break_here, few_before, past_more}
use Rattle.bm_connections.proofs.Tabled.{have_room}
use Rattle.bm_connections.proofs.observed.observe_each.Goals as goal

pub observe-requires : goal.observe-requires
observe-requires c =
    have_room c.args.h.now.stage _ c.loop-place.rows
    (few_before c.items-events.result.now c.loop-place.place c.loop-place-test.true (search rules))
    c.loop-place.invariant.rows

pub loop-place-preserved : goal.loop-place-preserved
loop-place-preserved c =
    let found = c.at-cause.ensures ∙ c.requires.causes c.loop-place.place
    in let broke = break_here c.args.h.now c.items-events.result.now c.loop-place.place _ c.at-cause.result
    c.requires.run c.items-events.ensures c.loop-place-test.true found
    in record {
      rows = past_more (λ past. AreRows c.args.h.now.stage (records_of c.args.h.now.stage) past c.observe.new.self)
          c.items-events.result.now c.loop-place.place _ c.loop-place-test.true
          (c.observe.ensures c.args.h.now.stage _ c.loop-place.invariant.rows
          (c.discount-late.ensures _ c.loop-place.invariant.resets broke)
          (cause_here c.args.h.now c.items-events.result.now c.loop-place.place _ c.at-cause.result
          c.items-events.ensures c.loop-place-test.true found)
          broke (c.wait-wait.ensures _ c.loop-place.invariant.known));
      closed = past_more (λ past. AreClosed c.args.h.now.stage past c.observe_close.new.closed)
          c.items-events.result.now c.loop-place.place _ c.loop-place-test.true
          (c.in_ok-observe_close.ensures _ c.loop-place.invariant.closed);
      resets = past_more (λ past. KnowsResets c.args.h.now.stage past c.observe-in-loop-place.new.self)
          c.items-events.result.now c.loop-place.place _ c.loop-place-test.true
          (c.in_ok-observe.ensures _ c.loop-place.invariant.resets broke);
      known = past_more (λ past. KnowsStamps c.args.h.now.stage past c.observe-in-loop-place-2.new.self)
          c.items-events.result.now c.loop-place.place _ c.loop-place-test.true
          (c.in_ok-observe-2.ensures c.args.h.now.stage _ _ refl c.loop-place.invariant.known);
    }
