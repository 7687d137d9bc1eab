use Rattle.std.proofs.Common.{◌≡◌, ◌+◌, ◌∙◌, ap, arith, length}
use Rattle.std.specs.Prelude.{slice_index_or}
use Rattle.std.proofs.lemmas.List.{length_push}
use Rattle.bm_state.proofs.Reaching.{default_push}
use Rattle.bm_state.proofs.slots.reach.Goals as goal

pub loop-place-preserved : goal.loop-place-preserved
loop-place-preserved g c = record {
  same = λ q. ap (λ xs. slice_index_or xs q c.args.default) c.in_ok-push.ensures.items
      ∙ default_push c.loop-place.values.items c.args.default q ∙ c.loop-place.invariant.same q;
  count =
      let e : length c.push.new.self.items ≡ length c.loop-place.values.items + 1 =
      ap length c.in_ok-push.ensures.items ∙ length_push c.loop-place.values.items c.args.default
      in omega (arith, e, c.loop-place.invariant.count);
}
