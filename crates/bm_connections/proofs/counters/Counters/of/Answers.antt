use Rattle.std.proofs.Common.{◌∙◌, arith}
use Rattle.bm_connections.specs.Inside.Counters.{HasCounted}
use Rattle.bm_connections.specs.Inside.Resets.{KnowsResets}
use Rattle.bm_connections.proofs.Counting.{can_count_more, past_few, past_long}
use Rattle.bm_connections.proofs.Passes.{break_here, cause_here, past_more}
use Rattle.bm_connections.proofs.counters.Counters.of.Goals as goal

pub observe-requires-clause-room : goal.observe-requires-clause-room
observe-requires-clause-room c =
    can_count_more c.args.h.now.stage _ c.loop-place.counters
    (past_few c.items-events.result.now c.loop-place.place (omega (arith, c.loop-place-test.true))) c.loop-place.invariant.counted

pub loop-place-init : goal.loop-place-init
loop-place-init c = record {
  counted = c.new-counters.ensures c.args.h.now.stage;
  resets = c.new-resets.ensures c.args.h.now.stage;
}

pub loop-place-preserved : goal.loop-place-preserved
loop-place-preserved c =
    let found = c.at-found.ensures ∙ c.requires.causes c.loop-place.place
    in let broke = break_here c.args.h.now c.items-events.result.now c.loop-place.place _ c.at-found.result
    c.requires.run c.items-events.ensures c.loop-place-test.true found
    in record {
      counted = past_more (λ past. HasCounted c.args.h.now.stage past c.observe.new.self) c.items-events.result.now
          c.loop-place.place _ c.loop-place-test.true
          (c.in_ok-observe.ensures _ (past_long c.items-events.result.now c.loop-place.place c.loop-place-test.true)
          (c.counted-cause.ensures _ c.loop-place.invariant.resets
          (cause_here c.args.h.now c.items-events.result.now c.loop-place.place _ c.at-found.result
          c.items-events.ensures c.loop-place-test.true found)
          broke)
          (c.discount-late.ensures _ c.loop-place.invariant.resets broke)
          c.loop-place.invariant.counted);
      resets = past_more (λ past. KnowsResets c.args.h.now.stage past c.observe-in-loop-place.new.self) c.items-events.result.now
          c.loop-place.place _ c.loop-place-test.true
          (c.in_ok-observe-2.ensures _ c.loop-place.invariant.resets broke);
    }
