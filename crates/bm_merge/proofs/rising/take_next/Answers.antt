use Rattle.std.proofs.Common.{map}
use Rattle.bm_merge.proofs.Heading.{split_earliest, took_last, took_one}
use Rattle.bm_merge.proofs.rising.take_next.Goals as goal

pub returns-in-Some-clause-next : goal.returns-in-Some-clause-next
returns-in-Some-clause-next g c =
    let logs = map g.L.EventLog.events c.args.logs.now in
    let heads = c.args.heads.now.items in
    took_one logs heads c.earliest-at.result c.index.result.now c.in-Some.head
    (split_earliest logs heads c.deref.result.now c.earliest-at.result c.index.result.now c.requires.standing
    c.deref.ensures.value c.earliest-at.ensures c.index.ensures) c.in-Some.ensures.1

pub returns-in-None-clause-next : goal.returns-in-None-clause-next
returns-in-None-clause-next g c =
    let logs = map g.L.EventLog.events c.args.logs.now in
    let heads = c.args.heads.now.items in
    let last = took_last logs heads c.earliest-at.result c.index.result.now
    (split_earliest logs heads c.deref.result.now c.earliest-at.result c.index.result.now c.requires.standing
    c.deref.ensures.value c.earliest-at.ensures c.index.ensures) c.in-None.ensures in
    rw c.remove.ensures.items last
