use Rattle.std.proofs.Common.{◌+◌, ◌*◌, ◌<◌, ◌^◌, ◌∙◌, subst, sym, arith}
use Rattle.bm_ipv4.proofs.Words.{fits_step, ones_step, pairs_step}
use Rattle.bm_ipv4.proofs.checksum.header_sum.Goals as goal

pub loop-pairs-preserved : goal.loop-pairs-preserved
loop-pairs-preserved c =
    let high : c.from.result < 65536 = subst (λ n. n < 65536) (sym c.from.ensures) c.word.type_inv
    in let low : c.from-in-len4-up.result < 65536 =
    subst (λ n. n < 65536) (sym c.from-in-len4-up.ensures) c.word-in-len4-up.type_inv
    in let few : c.from.result * 65536 + c.from-in-len4-up.result < 2 ^ 30 * 4 = omega (arith, high, low)
    in (
      pairs_step c.loop-pairs.sum c.from.result c.from-in-len4-up.result c.loop-pairs.pairs.now c.in-len4-up.len_at_least
          (c.from.ensures ∙ c.word.ensures) (c.from-in-len4-up.ensures ∙ c.word-in-len4-up.ensures) high low
          ∙ c.loop-pairs.invariant.0,
      fits_step c.loop-pairs.sum _ 4 c.loop-pairs.pairs.now c.in-len4-up.len_at_least few c.loop-pairs.invariant.1,
    )

pub loop-rest-preserved : goal.loop-rest-preserved
loop-rest-preserved c =
    let short : c.from-sum.result < 65536 = subst (λ n. n < 65536) (sym c.from-sum.ensures) c.word-in-len2-up.type_inv
    in let few : c.from-sum.result < 2 ^ 30 * 2 = omega (arith, short)
    in (
      ones_step c.loop-rest.sum c.from-sum.result c.loop-rest.rest.now c.in-len2-up.len_at_least
          (c.from-sum.ensures ∙ c.word-in-len2-up.ensures) short ∙ c.loop-rest.invariant.0,
      fits_step c.loop-rest.sum c.from-sum.result 2 c.loop-rest.rest.now c.in-len2-up.len_at_least few
          c.loop-rest.invariant.1,
    )
