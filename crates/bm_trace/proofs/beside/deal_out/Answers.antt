use Rattle.std.proofs.Common.{◌∷◌, ◌++◌, ◌≡◌, ◌<◌, [], min, ◌^◌, ◌-◌, arith, subst, sym, take, ◌∙◌, ◌+◌, ap, All}
use Rattle.std.proofs.Common.{length, length-set, length-take-le, set}
use Rattle.std.proofs.lemmas.List.Elements.{All-push}
use Rattle.bm_trace.specs.Inside.Pieces.{AreInRow, CanWrite, place_of}
use Rattle.bm_trace.proofs.Pieces.{begun_take, place_next, row_more, step_within, take_over}
use Rattle.bm_trace.proofs.beside.deal_out.Goals as goal

pub loop-number-preserved : goal.loop-number-preserved
loop-number-preserved c =
    let h = c.args.h.now
    in let pieces = c.loop-number.pieces
    in let number = c.loop-number.number
    in let step = c.min.ensures ∙ ap (λ es. min (2 ^ 14) (length es - c.loop-number.at)) c.items-end.ensures
    in let next = place_next (length h.events) c.args.from number c.loop-number.at c.min.result
    c.loop-number.invariant.place step
    in let piece = c.begin.new.self
    in let made = c.in_ok-begin.ensures
    in let below : number < length pieces = omega (arith, c.loop-number.invariant.count)
    in let first : take (number + 1) (set pieces number piece) ≡ take number pieces ++ piece ∷ [] =
    begun_take pieces number piece below
    in record {
      within = step_within (length h.events) c.loop-number.at c.min.result c.loop-number.invariant.within step;
      place = next;
      swept = made.swept;
      count = length-set pieces number piece ∙ c.loop-number.invariant.count;
      can = subst (All (CanWrite h)) (sym first)
          (All-push (CanWrite h) (take number pieces) piece c.loop-number.invariant.can made.can);
      row = row_more h c.args.from number (take number pieces) (take (number + 1) (set pieces number piece)) piece first
          (length-take-le number pieces (omega (arith, below))) (made.place.0 ∙ c.loop-number.invariant.place)
          (made.place.1 ∙ next) c.loop-number.invariant.row;
    }

pub returns-clause-dealt : goal.returns-clause-dealt
returns-clause-dealt c =
    let h = c.args.h.now
    in let pieces = c.loop-number.pieces
    in let number = c.loop-number.number
    in let kept = c.loop-number.invariant.count
    in let all = take_over pieces number (omega (arith, kept, c.loop-number-test.false))
    in let same : number ≡ length pieces = omega (arith, kept, c.loop-number-test.false, c.loop-number.auto.number-end)
    in record {
      place = c.loop-number.invariant.place ∙ ap (λ k. place_of h c.args.from k) same;
      can = subst (All (CanWrite h)) all c.loop-number.invariant.can;
      row = subst (AreInRow h c.args.from) all c.loop-number.invariant.row;
      swept = c.loop-number.invariant.swept;
    }
