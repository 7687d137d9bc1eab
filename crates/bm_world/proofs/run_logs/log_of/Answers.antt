use Rattle.std.proofs.Common.{◌≡◌, List, ap, length, map, take, arith, ◌∙◌}
use Rattle.std.proofs.Math.Seq.{take-length}
use Rattle.bm_shard.specs.declared.calls.ShardEntry.{ShardEntry}
use Rattle.bm_world.proofs.Rising.{book_rises, event_more}
use Rattle.bm_world.proofs.run_logs.log_of.Goals as goal

pub loop-entry-preserved : goal.loop-entry-preserved
loop-entry-preserved c =
    event_more c.history-entries.result.now c.loop-entry.entry-index _ c.loop-entry.events.items c.push.new.self.items
    c.loop-entry.invariant c.loop-entry-test.true c.in_ok-push.ensures.items

pub returns-clause-events : goal.returns-clause-events
returns-clause-events c =
    let entries = c.history-entries.result.now in
    let end : c.loop-entry.entry-index ≡ length entries =
    omega (arith, c.loop-entry-test.false, c.loop-entry.auto.entry-index-end) in
    c.loop-entry.invariant
    ∙ ap (λ (l : List ShardEntry). map (λ (e : ShardEntry). e.event) l)
    (ap (λ i. take i entries) end ∙ (take-length entries ∙ c.history-entries.ensures.entries))

pub returns-clause-rising : goal.returns-clause-rising
returns-clause-rising c = book_rises c.args.book.now.shard c.args.book.now.entries c.history-entries.ensures.replays
