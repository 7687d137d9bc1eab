use Rattle.std.proofs.Common.{◌≡◌, ℕ, suc, ◌+◌, List, ◌∷◌, [], length, Option}
use Rattle.std.proofs.Common.{ap, ◌∙◌, subst, arith, length-append}
use Rattle.bm_base.specs.declared.ids.MuxId.{MuxId}
use Rattle.bm_route.specs.Routes.{Answers}
use Rattle.bm_rows.proofs.Places.{each_more}
use Rattle.bm_world.specs.Inside.Routed.{IsGivenTo}
use Rattle.bm_world.proofs.routing.route_all.Goals as goal

pub loop-place-preserved : goal.loop-place-preserved
loop-place-preserved g c =
    let i = c.loop-place.invariant
    in let items = c.in_ok-push.ensures.items
    in let count = i.count
    in let P : ℕ → Option MuxId → Type 0 =
    λ j o. IsGivenTo (Answers g.R.Fn c.args.route.now.rule) c.args.stage.now c.args.route.now.muxes (suc j) o
    in let next : c.loop-place.place + 1 ≡ suc (length c.loop-place.routes.items) = omega (arith, count)
    in record {
      count = ap (λ (l : List (Option MuxId)). length l) items
          ∙ omega (arith, length-append c.loop-place.routes.items (c.mux_of_packet.result ∷ []), count);
      each = each_more P c.loop-place.routes.items c.push.new.self.items c.mux_of_packet.result items i.each
          (subst (λ (k : ℕ). IsGivenTo (Answers g.R.Fn c.args.route.now.rule) c.args.stage.now c.args.route.now.muxes k
          c.mux_of_packet.result)
          next c.mux_of_packet.ensures);
    }
