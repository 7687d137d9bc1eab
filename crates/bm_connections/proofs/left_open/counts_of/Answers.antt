use Rattle.std.proofs.Common.{◌≡◌, ◌∷◌, ◌∙◌, rules}
use Rattle.bm_connections.proofs.LeftOpen.{counting_next}
use Rattle.bm_connections.proofs.left_open.counts_of.Goals as goal

pub loop-first-preserved : goal.loop-first-preserved
loop-first-preserved c = record {
  count = c.count_one.ensures.length ∙ c.loop-first.invariant.count;
  counting =
      counting_next c.loop-first.counts.items c.count_one.new.counts.items c.in-Some.first.now c.loop-first.rest.now
      c.in-Some.others.now c.args.away.now (search rules) c.count_one.ensures.length c.count_one.ensures.counts
      c.loop-first.invariant.counting;
}
