use Rattle.std.proofs.Common.{◌≡◌, ◌+◌, ◌==◌, true, false, arith, suc}
use Rattle.std.specs.Prelude.{slice_index, take}
use Rattle.std.proofs.lemmas.Bool.{eq-eqb}
use Rattle.bm_check.proofs.Differing.{feeds_more, no_eqb}
use Rattle.bm_check.specs.Inside.Comparing.{feeds}
use Rattle.bm_check.proofs.compare.line_feeds.Goals as goal
use Rattle.bm_check.proofs.compare.line_feeds.Goals.{then-octet-eq10, else-octet-eq10}

pub loop-octet-preserved : goal.loop-octet-preserved
loop-octet-preserved c =
    let text = c.args.text.now
    in let at = c.loop-octet.octet-index
    in let kept = c.loop-octet.invariant
    in let more = feeds_more text at c.loop-octet-test.true
    in elim c.if-octet-eq10.branch [
      | then-octet-eq10 w ↦
          let same : (slice_index text at == 10) ≡ true = eq-eqb (slice_index text at) 10 w.if-octet-eq10.true
          in let step : feeds (take (at + 1) text) ≡ suc (feeds (take at text)) = rw same at more
          in let is = w.count-is
          in let before = kept.0
          in let few = kept.1
          in (omega (arith, step, is, before), omega (arith, is, few))
      | else-octet-eq10 w ↦
          let other : (slice_index text at == 10) ≡ false = no_eqb (slice_index text at) 10 w.if-octet-eq10.false
          in let step : feeds (take (at + 1) text) ≡ feeds (take at text) = rw other at more
          in let is = w.count-is
          in let before = kept.0
          in let few = kept.1
          in (omega (arith, step, is, before), omega (arith, is, few))
    ]
