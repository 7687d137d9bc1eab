use Rattle.std.proofs.Common.{◌≡◌, ◌++◌, ◌<◌, ◌∙◌, List, ap, arith, length, map, sym, take}
use Rattle.std.proofs.lemmas.List.{length-take-le, take_all}
use Rattle.bm_core.specs.declared.events.Event.{Event}
use Rattle.bm_merge.specs.Merges.{joined}
use Rattle.bm_merge.specs.Rising.{in_order}
use Rattle.bm_merge.specs.Inside.Rising.{lefts}
use Rattle.bm_merge.proofs.Heading.{length_in_order, none_behind, some_left}
use Rattle.bm_merge.proofs.rising.fill.Goals as goal

pub take_next-requires-clause-some : goal.take_next-requires-clause-some
take_next-requires-clause-some g c =
    let logs = map g.L.EventLog.events c.args.logs.now in
    let loop = c.loop-place in
    let size = loop.auto.out in
    let true = c.loop-place-test.true in
    let lt : loop.place < length loop.out = omega arith in
    some_left logs loop.heads.items (take loop.place loop.out) loop.place (length loop.out)
    (length-take-le loop.place loop.out loop.invariant.within)
    (ap (λ (l : List Event). length l) loop.invariant.all ∙ length_in_order (joined logs) ∙ sym loop.invariant.size) lt

pub returns : goal.returns
returns g c =
    let logs = map g.L.EventLog.events c.args.logs.now in
    let loop = c.loop-place in
    let size = loop.auto.out in
    let false = c.loop-place-test.false in
    let whole : take loop.place loop.out ≡ loop.out = take_all loop.place loop.out (omega arith) in
    let rest = in_order (joined (lefts logs loop.heads.items)) in
    none_behind loop.out rest (in_order (joined logs))
    (ap (λ (l : List Event). l ++ rest) (sym whole) ∙ loop.invariant.all)
    (loop.invariant.size ∙ sym (length_in_order (joined logs)))
