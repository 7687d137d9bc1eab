use Rattle.std.proofs.Common.{length, refl, ap, arith}
use Rattle.bm_table.proofs.KeptLemmas.{in_table, IsKept-same, IsKept-push}
use Rattle.bm_table.proofs.PlanLemmas.{IsAdmitted-from_none}
use Rattle.bm_table.proofs.plan.Plan.push.Goals as goal
use Rattle.bm_table.specs.Views.{planned}

pub left-requires : goal.left-requires
left-requires c =
    let admitted =
    IsAdmitted-from_none (planned c.self.inside) c.args.change (rw (← c.self.view_is) at c.in_ok-admit.ensures)
    in rw c.items.ensures (in_table c.self.inside c.self.invariant c.args.change.moves admitted.buckets)

pub invariant_of-self : goal.invariant_of-self
invariant_of-self c = IsKept-same c.self.inside _ c.self.invariant refl refl c.reserve.ensures.items refl refl

pub invariant_of-self-2 : goal.invariant_of-self-2
invariant_of-self-2 c =
    let admitted =
    IsAdmitted-from_none (planned c.self.inside) c.args.change (rw (← c.self.view_is) at c.in_ok-admit.ensures)
    in IsKept-push c.self.inside _ (record { change = c.args.change; left = c.in_ok-left.left }) c.self.invariant
    admitted (record {
      buckets = refl;
      servers = refl;
      steps = rw (← c.reserve.ensures.items) c.push_reserved.ensures.items;
      moves = omega (arith, ap length c.items-2.ensures);
      latest = c.apply.ensures.entries;
      left = rw (← c.items.ensures) c.in_ok-left.ensures;
    })
