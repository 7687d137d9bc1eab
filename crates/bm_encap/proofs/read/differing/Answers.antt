use Rattle.std.proofs.Common.{◌∙◌, sym, arith}
use Rattle.std.proofs.lemmas.Bool.Decides.{nat_tests}
use Rattle.std.proofs.lemmas.List.{drop_all}
use Rattle.bm_encap.proofs.RowLemmas.{differing_from, differing_none}
use Rattle.bm_encap.proofs.read.differing.Goals as goal

pub returns-then-octets-from : goal.returns-then-octets-from
returns-then-octets-from c =
    λ fault. grind (
      arith,
      nat_tests,
      differing_from c.args.octets.now fault c.args.fixed.now c.loop-place.place-index (0, 0)
          c.loop-place-test.true,
      c.loop-place.invariant fault,
    )

pub loop-place-preserved : goal.loop-place-preserved
loop-place-preserved c =
    λ fault. grind (
      arith,
      nat_tests,
      differing_from c.args.octets.now fault c.args.fixed.now c.loop-place.place-index (0, 0)
          c.loop-place-test.true,
      c.loop-place.invariant fault,
    )

pub returns : goal.returns
returns c =
    λ fault. sym (c.loop-place.invariant fault)
    ∙ (rw (drop_all c.loop-place.place-index c.args.fixed.now c.loop-place-test.false)
    (differing_none c.args.octets.now fault))
