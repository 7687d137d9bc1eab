use Rattle.std.proofs.Common.{length}
use Rattle.bm_world.proofs.KnownServers.{AreKnownBelow}
use Rattle.bm_world.proofs.known.known_servers.Given as goal

abbrev pub invariant-loop-number : goal.invariant-loop-number
invariant-loop-number l = AreKnownBelow l.script.plan (length l.script.plan.changes) l.number l.ids.items
