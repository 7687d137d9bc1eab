use Rattle.std.proofs.Common.{◌-◌, ◌≤◌}
use Rattle.bm_lead.specs.Leads.{HasLed}
use Rattle.bm_lead.proofs.lead.lead_phase.Given as goal

abbrev pub invariant-loop-leader : goal.invariant-loop-leader
invariant-loop-leader g l =
    (l.fn.leader.next ≤ l.leader.next) × (l.leader.next ≤ l.until)
    × HasLed l.shared.stage l.shared.servers l.fn.poster l.poster l.fn.leader l.leader

abbrev pub decreases-loop-leader : goal.decreases-loop-leader
decreases-loop-leader g l = l.until - l.leader.next
