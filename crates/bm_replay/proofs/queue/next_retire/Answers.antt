use Rattle.std.proofs.Common.{◌≡◌, subst, sym, ◌∙◌, ◌+◌, ◌∷◌, ◌++◌}
use Rattle.bm_core.specs.declared.schedule.Due.{Due}
use Rattle.bm_replay.specs.Inside.Queues.{later_shards, retires_from}
use Rattle.bm_replay.proofs.QueueHeads.{retires_head}
use Rattle.bm_replay.proofs.queue.next_retire.Goals as goal

pub returns-in-Retire : goal.returns-in-Retire
returns-in-Retire c shards some =
    let first =
    retires_head shards c.in-Retire.server c.in-Retire.at c.args.commands.now c.loop-i.i _ some c.loop-i-test.true
    c.in-Retire.is
    in c.loop-i.invariant shards
    ∙ subst (λ (d : Due). retires_from shards c.args.commands.now c.loop-i.i
    ≡ d ∷ (later_shards shards d.call ++ retires_from shards c.args.commands.now (c.loop-i.i + 1)))
    (sym c.retire_due.ensures) first
