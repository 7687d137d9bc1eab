use Rattle.std.proofs.Common.{◌<◌, ◌∙◌, ◌∷◌, [], List, Bor, ap, arith, length, map, subst, sym}
use Rattle.std.proofs.lemmas.List.{length-map, map-append}
use Rattle.bm_core.specs.declared.events.Event.{Event}
use Rattle.bm_merge.specs.Rising.{IsRising}
use Rattle.bm_merge.proofs.Halving.{cut_more}
use Rattle.bm_merge.proofs.Heading.{mapped, rising_at}
use Rattle.bm_merge.proofs.beside.cut.Goals as goal

abbrev now : Bor (List Event) → List Event
now log = log.now

pub count_below-requires : goal.count_below-requires
count_below-requires c =
    let size = length-map c.args.logs.now now in
    let true = c.loop-log-test.true in
    let lt : c.loop-log.log-index < length (map now c.args.logs.now) = omega arith in
    subst (λ (l : List Event). IsRising l) (mapped now c.args.logs.now c.loop-log.log-index _ true)
    (rising_at (map now c.args.logs.now) c.loop-log.log-index c.requires lt)

pub loop-log-preserved : goal.loop-log-preserved
loop-log-preserved c =
    let size = length-map c.args.logs.now now in
    let true = c.loop-log-test.true in
    let lt : c.loop-log.log-index < length (map now c.args.logs.now) = omega arith in
    cut_more c.args.clock (map now c.args.logs.now) (map now c.loop-log.low.items) (map now c.loop-log.high.items)
    (map now c.push.new.self.items) (map now c.push-in-loop-log.new.self.items) c.loop-log.log-index _
    c.split_at.result.0.now c.split_at.result.1.now c.loop-log.invariant lt
    (sym (mapped now c.args.logs.now c.loop-log.log-index _ true)) c.split_at.ensures.by_index.0
    (rw (c.split_at.ensures.front, c.split_at.ensures.back) c.count_below.ensures.cut)
    (ap (λ l. map now l) c.in_ok-push.ensures.items
    ∙ map-append now c.loop-log.low.items (c.split_at.result.0 ∷ []))
    (ap (λ l. map now l) c.in_ok-push-2.ensures.items
    ∙ map-append now c.loop-log.high.items (c.split_at.result.1 ∷ []))
