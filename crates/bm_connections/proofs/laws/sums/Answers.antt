use Rattle.bm_core.specs.Causes.{is_process}
use Rattle.bm_core.specs.Past.{is_accept, is_forward}
use Rattle.bm_trace.specs.Totals.{is_drop, is_reset}
use Rattle.std.proofs.Common.{refl}
use Rattle.bm_connections.proofs.Sums.{sum_of_arrivals, sum_of_strays}
use Rattle.bm_connections.proofs.laws.sums.Goals as goal

pub returns : goal.returns
returns c = record {
  accepted = sum_of_arrivals c.args.h.now is_accept _ c.requires (λ f. refl);
  processed = sum_of_arrivals c.args.h.now is_process _ c.requires (λ f. refl);
  forwarded = sum_of_arrivals c.args.h.now is_forward _ c.requires (λ f. refl);
  reset = sum_of_arrivals c.args.h.now is_reset _ c.requires (λ f. refl);
  dropped = sum_of_arrivals c.args.h.now is_drop _ c.requires (λ f. refl);
  stray = sum_of_strays c.args.h.now c.requires;
}
