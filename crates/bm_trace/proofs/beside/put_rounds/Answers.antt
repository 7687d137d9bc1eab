use Rattle.std.proofs.Common.{◌≡◌, ◌≤◌, arith, length, rules, subst, sym, ◌∙◌}
use Rattle.bm_trace.specs.Inside.Pieces.{PutsLines}
use Rattle.bm_trace.proofs.Parted.{on_err}
use Rattle.bm_trace.proofs.Pieces.{puts_after, puts_both, round_over, strays_all}
use Rattle.bm_trace.proofs.beside.put_rounds.Goals as goal

pub loop-round-preserved : goal.loop-round-preserved
loop-round-preserved g c =
    let h = c.args.h.now
    in let from = c.loop-round.round.from
    in let to = c.loop-round.round.to
    in record {
      round = c.in_ok-put.ensures.round;
      written = subst
          (λ n. PutsLines h 0 n (g.K.Sink.written c.args.out.now) (g.K.Sink.written c.put.new.out))
          (sym c.in_ok-put.ensures.from)
          (puts_both h 0 from to _ _ _ c.loop-round.invariant.written c.in_ok-put.ensures.lines);
      later = c.in_ok-put.ensures.cause.kept ∙ c.loop-round.invariant.later;
    }

pub returns-in_err-put-clause-err : goal.returns-in_err-put-clause-err
returns-in_err-put-clause-err g c =
    on_err _ _
    (puts_after c.args.h.now 0 c.loop-round.round.from _ _ _ c.loop-round.invariant.written
    c.in_err-put.ensures.err)

pub returns-clause-ok : goal.returns-clause-ok
returns-clause-ok g c =
    let h = c.args.h.now
    in let within = c.loop-round.invariant.round.from
    in let over : length h.events ≤ c.loop-round.round.from = search rules
    in let all : c.loop-round.round.from ≡ length h.events = omega (arith, within, over)
    in subst
    (λ n. PutsLines h 0 n (g.K.Sink.written c.args.out.now) (g.K.Sink.written c.loop-round.out)) all
    c.loop-round.invariant.written

pub returns-clause-strays : goal.returns-clause-strays
returns-clause-strays g c = λ run.
    let h = c.args.h.now
    in let swept = round_over h c.loop-round.round c.loop-round.invariant.round (search rules)
    in c.strays.ensures h (length h.events) swept run ∙ strays_all h
