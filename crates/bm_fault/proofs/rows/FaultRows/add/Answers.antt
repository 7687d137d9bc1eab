use Rattle.std.proofs.lemmas.Result.{IfOk-weaker}
use Rattle.bm_fault.proofs.RowLemmas.{added_direct, added_chained, added_twice}
use Rattle.bm_fault.proofs.rows.FaultRows.add.Goals as goal

pub returns-in-Direct : goal.returns-in-Direct
returns-in-Direct c =
    IfOk-weaker c.add_fate.result _ _
    (λ _ inserted. added_direct c.self.inside _ c.add_fate.new.fates c.args.row.now c.self.view_is c.in-Direct.is inserted)
    c.add_fate.ensures

pub returns-in-Chained : goal.returns-in-Chained
returns-in-Chained c =
    IfOk-weaker c.add_fate-in-Chained.result _ _
    (λ _ inserted. added_chained c.self.inside _ c.add_fate-in-Chained.new.fates c.args.row.now c.self.view_is
    c.in-Chained.is inserted) c.add_fate-in-Chained.ensures

pub returns-in-Twice : goal.returns-in-Twice
returns-in-Twice c =
    IfOk-weaker c.add_fate-in-Twice.result _ _
    (λ _ inserted. added_twice c.self.inside _ c.add_fate-in-Twice.new.fates c.args.row.now c.self.view_is
    c.in-Twice.is inserted) c.add_fate-in-Twice.ensures
