use Rattle.std.proofs.Common.{ap, ◌∙◌, arith}
use Rattle.bm_state.specs.declared.tallies.Tally.{Tally}
use Rattle.bm_state.proofs.Tallying.{one_sent, sent_more}
use Rattle.bm_state.proofs.tallies.Tallies.observe_sending.Goals as goal

pub returns : goal.returns
returns c sent came e few sends_it keeps =
    let tally = c.of-tally.ensures.kept
    in sent_more sent came e c.args.self.now c.put.new.self c.args.sending.packet c.args.sending.hop
    c.with_sending.result few sends_it
    (λ small. c.with_sending.ensures (let same = ap (λ (t : Tally). t.sendings) tally in omega (arith, small, same))
    ∙ ap one_sent tally)
    c.in_ok-put.ensures keeps
