use Rattle.std.proofs.Common.{ap, ◌∙◌}
use Rattle.std.specs.Prelude.{nat_lt}
use Rattle.bm_state.specs.declared.tallies.Tally.{Tally}
use Rattle.bm_state.proofs.Counting.{sent_some}
use Rattle.bm_state.proofs.tallies.Tallies.is_sent.Goals as goal

pub returns : goal.returns
returns c past keeps =
    ap (λ (t : Tally). nat_lt 0 t.sendings) (c.of.ensures.tally past keeps) ∙ sent_some past c.args.packet c.args.hop
