use Rattle.std.proofs.Common.{◌≡◌, ◌+◌, ◌++◌, suc, ap, ◌∙◌, arith, rules, subst, sym}
use Rattle.bm_connections.specs.Needed.{as_change, changes_needed, longest_of_change}
use Rattle.bm_connections.proofs.needed.needed_changes.Goals as goal

pub loop-before-init : goal.loop-before-init
loop-before-init c = λ past k. search rules

pub loop-before-preserved : goal.loop-before-preserved
loop-before-preserved c = λ past k.
    let one : suc c.loop-before.before ≡ c.loop-before.before + 1 = omega arith
    in let found = c.get.ensures ∙ k (c.loop-before.before + 1)
    ∙ ap (λ n. longest_of_change c.args.stage.now past n) (sym one)
    in let so_far = c.loop-before.invariant past k
    in subst (λ n. c.push_change.new.list.items ≡ changes_needed c.args.stage.now past n) one
    (c.in_ok-push_change.ensures ∙ (λ i. so_far i ++ as_change (sym one i) (found i)))
