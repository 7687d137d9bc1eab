use Rattle.std.proofs.Common.{◌≡◌}
use Rattle.std.specs.Prelude.{reverse, take}
use Rattle.bm_core.specs.Past.{newest}
use Rattle.bm_check.proofs.orders.newest_version.Given as goal

abbrev pub invariant-loop-event : goal.invariant-loop-event
invariant-loop-event l = l.newest ≡ newest (reverse (take l.event-index l.events))
