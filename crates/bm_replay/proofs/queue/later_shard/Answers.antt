use Rattle.std.proofs.Common.{◌≡◌, ◌∷◌, [], Some, Option, sym, subst}
use Rattle.bm_core.specs.declared.schedule.Due.{Due}
use Rattle.bm_replay.specs.Inside.Queues.{behind, later_shards}
use Rattle.bm_replay.proofs.QueueHeads.{later_here, later_none}
use Rattle.bm_replay.proofs.queue.later_shard.Goals as goal

pub returns-in-Retires : goal.returns-in-Retires
returns-in-Retires c =
    let was : c.args.due ≡ Some c.in_ok-server.field-0 = c.in_ok-server.was
    in subst (λ (o : Option Due). behind c.args.shards o ≡ c.retire_due.result ∷ later_shards c.args.shards
    c.retire_due.result.call) (sym was)
    (later_here c.args.shards c.in-Retires.server c.in-Retires.at c.in-Retires.shard c.in_ok-server.field-0.call
    c.retire_due.result c.if-shard-shards.true c.in-Retires.is c.retire_due.ensures)

pub returns-in_default : goal.returns-in_default
returns-in_default c =
    let was : c.args.due ≡ Some c.in_ok-server.field-0 = c.in_ok-server.was
    in subst (λ (o : Option Due). behind c.args.shards o ≡ []) (sym was)
    (later_none c.args.shards c.in-Retires.server c.in-Retires.at c.in-Retires.shard c.in_ok-server.field-0.call
    c.if-shard-shards.false c.in-Retires.is)
