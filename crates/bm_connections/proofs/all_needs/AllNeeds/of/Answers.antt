use Rattle.std.proofs.Common.{◌∙◌}
use Rattle.bm_connections.specs.Inside.Needs.{HasNeeds}
use Rattle.bm_connections.specs.Inside.Resets.{KnowsResets}
use Rattle.bm_connections.proofs.Counting.{past_long}
use Rattle.bm_connections.proofs.Needing.{room_of}
use Rattle.bm_connections.proofs.Passes.{break_here, cause_here, past_more}
use Rattle.bm_connections.proofs.all_needs.AllNeeds.of.Goals as goal

pub observe-requires-clause-moves : goal.observe-requires-clause-moves
observe-requires-clause-moves c = c.loop-place.invariant.needs.followed.stamps.moves

pub observe-requires-clause-room : goal.observe-requires-clause-room
observe-requires-clause-room c =
    room_of c.args.h.now.stage _ c.requires.run.sound.capture c.loop-place.invariant.needs.followed.last

pub loop-place-preserved : goal.loop-place-preserved
loop-place-preserved c =
    let found = c.at-found.ensures ∙ c.requires.causes c.loop-place.place
    in let broke = break_here c.args.h.now c.items-events.result.now c.loop-place.place _ c.at-found.result
    c.requires.run c.items-events.ensures c.loop-place-test.true found
    in record {
      needs = past_more (λ past. HasNeeds c.args.h.now.stage past c.observe.new.self) c.items-events.result.now
          c.loop-place.place _ c.loop-place-test.true
          (c.in_ok-observe.ensures _ (past_long c.items-events.result.now c.loop-place.place c.loop-place-test.true)
          (c.counted-cause.ensures _ c.loop-place.invariant.resets
          (cause_here c.args.h.now c.items-events.result.now c.loop-place.place _ c.at-found.result
          c.items-events.ensures c.loop-place-test.true found)
          broke)
          c.loop-place.invariant.needs);
      resets = past_more (λ past. KnowsResets c.args.h.now.stage past c.observe-in-loop-place.new.self)
          c.items-events.result.now c.loop-place.place _ c.loop-place-test.true
          (c.in_ok-observe-2.ensures _ c.loop-place.invariant.resets broke);
    }
