use Rattle.bm_publish.proofs.BoardLemmas.{changed_all}
use Rattle.bm_publish.proofs.shown.ShownAbsorbPost.absorb_first.Goals as goal

pub returns-clause-absorbed : goal.returns-clause-absorbed
returns-clause-absorbed c =
    let table =
    changed_all c.args.operation.now.change c.args.self.now.table c.apply.new.self c.apply.ensures.entries in
    let snapshot = c.again.ensures.same in
    cc (table, snapshot)
