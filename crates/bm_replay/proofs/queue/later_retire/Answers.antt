use Rattle.std.proofs.Common.{◌≡◌, ◌++◌, [], List, sym, subst}
use Rattle.bm_core.specs.declared.schedule.Due.{Due}
use Rattle.bm_replay.specs.Inside.Queues.{IsHead, behind, retires_after, retires_from}
use Rattle.bm_replay.proofs.queue.later_retire.Goals as goal

pub returns-in-None : goal.returns-in-None
returns-in-None c =
    let none : behind c.args.shards c.args.queue.now.head ≡ [] = c.in-None.ensures
    in subst (λ (l : List Due). IsHead (l ++ retires_from c.args.shards c.args.commands.now c.args.queue.now.next)
    (retires_after c.args.shards c.args.commands.now c.next_retire.result) c.next_retire.result.head) (sym none)
    (c.next_retire.ensures c.args.shards c.requires)
