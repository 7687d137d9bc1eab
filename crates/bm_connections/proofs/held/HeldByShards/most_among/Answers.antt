use Rattle.std.proofs.Common.{◌≡◌, ◌+◌, max, suc, ap, ◌∙◌, arith, refl, subst}
use Rattle.bm_connections.specs.declared.held.ShardCount.{ShardCount}
use Rattle.bm_connections.specs.Counts.{most_among, most_in_shard}
use Rattle.bm_connections.specs.Inside.Held.{count_after}
use Rattle.bm_connections.proofs.held.HeldByShards.most_among.Goals as goal

pub loop-shard-init : goal.loop-shard-init
loop-shard-init c = λ stage past k. refl

pub loop-shard-preserved : goal.loop-shard-preserved
loop-shard-preserved c = λ stage past k.
    let one : suc c.loop-shard.shard ≡ c.loop-shard.shard + 1 = omega arith
    in let count : c.get-count.result ≡ count_after stage past c.at.result =
    c.get-count.ensures ∙ k.counts.each c.at.result
    in let here : c.get-count.result.most ≡ most_in_shard stage past c.args.server c.loop-shard.shard =
    ap (λ (n : ShardCount). n.most) (count ∙ ap (count_after stage past) c.at.ensures)
    in subst (λ n. c.max-most.result ≡ most_among stage past c.args.server n) one
    (c.max-most.ensures ∙ (λ i. max (here i) (c.loop-shard.invariant stage past k i)))
