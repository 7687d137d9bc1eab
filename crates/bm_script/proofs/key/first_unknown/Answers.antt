use Rattle.bm_script.proofs.Fronts.{unknown-end, unknown-more}
use Rattle.std.proofs.Common.{◌∙◌, sym}
use Rattle.std.proofs.lemmas.Map.Iter.{iter_end, iter_turn}
use Rattle.bm_script.proofs.key.first_unknown.Goals as goal

pub loop-name-preserved : goal.loop-name-preserved
loop-name-preserved c = record {
  can = tt;
  ends = tt;
  rest = unknown-more c.args.version c.args.keys.now c.args.table.now.entries (λ e. (e.0.now, e.1.now)) c.loop-name.yielded
      (c.in-Some.name, c.in-Some.field-0-1)
      (iter_turn (λ e. (e.0.now, e.1.now)) c.args.table.now.entries c.loop-name.yielded _ _ _ _
      c.into_iter-name-iterator.ensures.into_iter_gives.0 c.loop-name.yielded_by _ c.in-Some.is c.next.ensures.steps)
      (rw (← c.as_str.ensures.value) (sym c.is_key.ensures ∙ c.if-not-is_key.false))
      ∙ c.loop-name.invariant.rest;
}

pub returns : goal.returns
returns c =
    unknown-end c.args.version c.args.keys.now c.args.table.now.entries _
    (iter_end (λ e. (e.0.now, e.1.now)) c.args.table.now.entries c.loop-name.yielded _ _ _ _
    c.into_iter-name-iterator.ensures.into_iter_gives.0 c.loop-name.yielded_by c.in-None.is c.next.ensures.steps).1
    ∙ c.loop-name.invariant.rest
