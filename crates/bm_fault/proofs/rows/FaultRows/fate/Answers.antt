use Rattle.std.proofs.Common.{◌∙◌}
use Rattle.bm_base.specs.declared.label.Hop.TheVariants.{Direct, Chained, Twice}
use Rattle.bm_fault.proofs.RowLemmas.{fate_hop}
use Rattle.bm_fault.proofs.rows.FaultRows.fate.Goals as goal

pub returns-in-Direct : goal.returns-in-Direct
returns-in-Direct c =
    rw c.in-Direct.is (c.fate_of.ensures ∙ fate_hop c.self.inside _ c.args.packet Direct c.self.view_is)

pub returns-in-Chained : goal.returns-in-Chained
returns-in-Chained c =
    rw c.in-Chained.is (c.fate_of-in-Chained.ensures ∙ fate_hop c.self.inside _ c.args.packet Chained c.self.view_is)

pub returns-in-Twice : goal.returns-in-Twice
returns-in-Twice c =
    rw c.in-Twice.is (c.fate_of-in-Twice.ensures ∙ fate_hop c.self.inside _ c.args.packet Twice c.self.view_is)
