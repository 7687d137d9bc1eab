use Rattle.std.proofs.Common.{◌≡◌, take}
use Rattle.bm_drawing.specs.Drawing.{changes_in}
use Rattle.bm_drawing.proofs.changes.changes_in.Given as goal

abbrev pub invariant-loop-event : goal.invariant-loop-event
invariant-loop-event l = record {
  collected : l.changes.items ≡ changes_in l.plan (take l.event-index l.events);
}
