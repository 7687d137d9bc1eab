use Rattle.std.proofs.Common.{ap, ◌∙◌, arith}
use Rattle.bm_state.specs.declared.tallies.Tally.{Tally}
use Rattle.bm_state.proofs.Tallying.{came_more, one_came}
use Rattle.bm_state.proofs.tallies.Tallies.observe_arrival.Goals as goal

pub returns : goal.returns
returns c sent came e server verdict few is keeps =
    let tally = c.of-tally.ensures.kept
    in came_more sent came e c.args.self.now c.put.new.self c.args.packet c.args.hop server verdict
    c.with_arrival.result few is
    (λ small. c.with_arrival.ensures (let same = ap (λ (t : Tally). t.arrivals) tally in omega (arith, small, same))
    ∙ ap one_came tally)
    c.in_ok-put.ensures keeps
