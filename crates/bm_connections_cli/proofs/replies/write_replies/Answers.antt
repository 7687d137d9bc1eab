use Rattle.bm_core.specs.declared.events.Event.{Event}
use Rattle.bm_connections.proofs.Lines.{lines_more}
use Rattle.bm_connections_cli.specs.Replies.{reply_line}
use Rattle.bm_connections_cli.proofs.replies.write_replies.Goals as goal

pub loop-event-preserved : goal.loop-event-preserved
loop-event-preserved c = record {
  written = lines_more (λ (e : Event). reply_line c.args.clock.0 e.clock.0 e.what) c.args.events.now
      c.loop-event.event-index _ _ _ _ c.loop-event-test.true c.in_ok-write_reply.ensures c.loop-event.invariant.written;
}
