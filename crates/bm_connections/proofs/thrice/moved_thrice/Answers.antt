use Rattle.std.proofs.Common.{◌≡◌, ◌+◌, ◌++◌, suc, ap, ◌∙◌, arith, rules, subst, sym}
use Rattle.bm_connections.specs.Thrice.{as_third, longest_of_third, thirds}
use Rattle.bm_connections.proofs.thrice.moved_thrice.Goals as goal

pub loop-before-init : goal.loop-before-init
loop-before-init c = λ past k. search rules

pub loop-before-preserved : goal.loop-before-preserved
loop-before-preserved c = λ past k.
    let one : suc c.loop-before.before ≡ c.loop-before.before + 1 = omega arith
    in let found = c.get.ensures ∙ k (c.loop-before.before + 1)
    ∙ ap (λ n. longest_of_third c.args.stage.now past n) (sym one)
    in let so_far = c.loop-before.invariant past k
    in subst (λ n. c.push_third.new.list.items ≡ thirds c.args.stage.now past n) one
    (c.in_ok-push_third.ensures ∙ (λ i. so_far i ++ as_third c.args.stage.now (sym one i) (found i)))
