use Rattle.std.proofs.Common.{◌≡◌, ℕ, suc, length, slice_get, Option, Some}
use Rattle.bm_base.specs.declared.ids.MuxId.{MuxId}
use Rattle.bm_route.specs.Routes.{Answers}
use Rattle.bm_world.specs.Inside.Routed.{IsGivenTo}
use Rattle.bm_world.proofs.routing.route_all.Given as goal

abbrev pub invariant-loop-place : goal.invariant-loop-place
invariant-loop-place g l = record {
  count : length l.routes.items ≡ l.place;
  each : (i : ℕ) (o : Option MuxId) → slice_get l.routes.items i ≡ Some o
      → IsGivenTo (Answers g.R.Fn l.route.rule) l.stage l.route.muxes (suc i) o;
}
