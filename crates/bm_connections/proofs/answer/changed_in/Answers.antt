use Rattle.std.proofs.Common.{◌∙◌, ◌+◌, ap, arith, count_by, sym}
use Rattle.std.proofs.lemmas.List.{take_all}
use Rattle.bm_connections.specs.declared.compared.Compared.{Compared}
use Rattle.bm_connections.specs.Answers.{is_by_the_change}
use Rattle.bm_connections.specs.Base.{compared_with}
use Rattle.bm_connections.proofs.Comparing.{compared_count_no, compared_count_yes, length_compared}
use Rattle.bm_connections.proofs.answer.changed_in.Goals.{then-is_by_the_change, else-is_by_the_change}
use Rattle.bm_connections.proofs.answer.changed_in.Goals as goal

pub loop-place-preserved : goal.loop-place-preserved
loop-place-preserved c = elim c.if-is_by_the_change.branch [
  | then-is_by_the_change w ↦ record {
    counted = w.count-is ∙ ap (λ n. n + 1) c.loop-place.invariant.counted
        ∙ sym (compared_count_yes (λ (x : Compared). is_by_the_change x.origin) c.args.table.now c.args.wholes.now
        c.loop-place.place _ _ c.loop-place-test.true c.compare_one-compared.ensures
        (sym c.is_by_the_change.ensures ∙ w.if-is_by_the_change.true));
    few = omega (arith, c.loop-place.invariant.few, w.count-is);
  }
  | else-is_by_the_change w ↦ record {
    counted = w.count-is ∙ c.loop-place.invariant.counted
        ∙ sym (compared_count_no (λ (x : Compared). is_by_the_change x.origin) c.args.table.now c.args.wholes.now
        c.loop-place.place _ _ c.loop-place-test.true c.compare_one-compared.ensures
        (sym c.is_by_the_change.ensures ∙ w.if-is_by_the_change.false));
    few = omega (arith, c.loop-place.invariant.few, w.count-is);
  }
]

pub returns : goal.returns
returns c =
    let table = c.args.table.now in
    let wholes = c.args.wholes.now in
    c.loop-place.invariant.counted
    ∙ ap (count_by (λ (x : Compared). is_by_the_change x.origin))
    (take_all c.loop-place.place (compared_with table wholes)
    (omega (arith, c.loop-place-test.false, length_compared table wholes)))
