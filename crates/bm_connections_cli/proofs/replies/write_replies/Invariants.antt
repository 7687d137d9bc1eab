use Rattle.std.proofs.Common.{◌≡◌, ◌++◌, string_bytes, take}
use Rattle.bm_connections_cli.specs.Replies.{replies_text}
use Rattle.bm_connections_cli.proofs.replies.write_replies.Given as goal

abbrev pub invariant-loop-event : goal.invariant-loop-event
invariant-loop-event l = record {
  written : string_bytes l.text ≡ string_bytes l.initial.text
      ++ replies_text l.clock.0 (take l.event-index l.events);
}
