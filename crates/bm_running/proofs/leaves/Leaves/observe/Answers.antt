use Rattle.std.proofs.Common.{◌≡◌, ◌<◌, Some, ap, subst, sym, ◌∙◌}
use Rattle.std.specs.BTreeMap as tree
use Rattle.std.specs.BTreeSet as set
use Rattle.std.specs.Option.{option_copied}
use Rattle.std.specs.Ordering.{nat_cmp}
use Rattle.std.specs.Prelude.{All}
use Rattle.bm_table.specs.Tables.{next_change}
use Rattle.bm_running.specs.Inside.Leaves.{AreLeft, is_kept, listed}
use Rattle.bm_running.proofs.Leaving.{drained_next, left_next, moves_within}
use Rattle.bm_running.proofs.leaves.Leaves.observe.Goals as goal

pub leave_all-requires-clause-range : goal.leave_all-requires-clause-range
leave_all-requires-clause-range c =
    let next : next_change c.args.plan.now c.args.changes ≡ Some c.in-Some.change.now =
    sym c.next_change.ensures ∙ ap option_copied c.in-Some.is
    in subst (λ list. All (λ m. m.bucket < c.args.plan.now.buckets) list) (sym c.items-list.ensures)
    (moves_within c.args.plan.now c.args.changes c.in-Some.change.now c.versions.ensures.kept next)

pub returns : goal.returns
returns c within keeps =
    let next : next_change c.args.plan.now c.args.changes ≡ Some c.in-Some.change.now =
    sym c.next_change.ensures ∙ ap option_copied c.in-Some.is
    in record {
      drained_of_each = λ s.
          drained_next c.args.plan.now c.args.changes c.in-Some.change.now s (is_kept c.args.self.now s)
          (is_kept c.leave_all.new.self s) (is_kept c.drain.new.self s) next (c.in_ok-drain.ensures.drained s)
          (ap (λ d. set.contains nat_cmp d s.0) c.leave_all.ensures.drained) (keeps.drained_of_each s);
      left_of_each = λ s.
          left_next c.args.plan.now c.args.changes c.in-Some.change.now s _ next
          (subst (λ left. AreLeft c.args.plan.now c.args.changes c.in-Some.change.now.moves s
          (listed (tree.get nat_cmp left s))) (sym c.drain.ensures.left)
          (subst (λ list. AreLeft c.args.plan.now c.args.changes list s
          (listed (tree.get nat_cmp c.leave_all.new.self.left s))) c.items-list.ensures
          (c.in_ok-leave_all.ensures.left keeps.left_of_each s)));
    }
