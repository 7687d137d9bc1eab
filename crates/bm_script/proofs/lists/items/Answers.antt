use Rattle.std.proofs.Common.{◌∙◌, ap, sym, true, false, refl, List, Some}
use Rattle.bm_script.proofs.Fronts.{items_from-fits}
use Rattle.toml.specs.View.{items_view, view}
use Rattle.toml.specs.declared.value.Value.{Value}
use Rattle.bm_script.proofs.lists.items.Goals as goal

pub returns-then-not-is_within-clause-items : goal.returns-then-not-is_within-clause-items
returns-then-not-is_within-clause-items c = (
  items_from-fits c.args.low c.args.high (view c.args.value.now) c.as_slice-found.result.now false
      (ap (λ (vs : List Value). Some (items_view vs)) c.as_slice-found.ensures.value ∙ c.in-Some.ensures)
      (sym c.if-not-is_within.true ∙ c.is_within.ensures),
  refl,
)

pub returns-clause-items : goal.returns-clause-items
returns-clause-items c =
    items_from-fits c.args.low c.args.high (view c.args.value.now) c.as_slice-found.result.now true
    (ap (λ (vs : List Value). Some (items_view vs)) c.as_slice-found.ensures.value ∙ c.in-Some.ensures)
    (sym c.if-not-is_within.false ∙ c.is_within.ensures)
