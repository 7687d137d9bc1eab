use Rattle.std.proofs.Common.{rules, sym, ◌∙◌}
use Rattle.std.proofs.lemmas.List.Sorted.{answers_always}
use Rattle.bm_server.specs.Servings.{Serving}
use Rattle.bm_worker.proofs.Numbered.{finds, finds_none}
use Rattle.bm_worker.proofs.place.place_of.Goals as goal

pub returns-clause-some : goal.returns-clause-some
returns-clause-some c place is =
    let facts = c.binary_search_by_key.ensures in
    finds c.args.servers.now c.args.id c.binary_search_by_key.result facts.bound
    (facts.position (λ (y : Serving). y.id.0) (answers_always _ _ _ (λ f a r g called. search rules))) place
    (sym c.ok.ensures.value ∙ is)

pub returns-clause-none : goal.returns-clause-none
returns-clause-none c is =
    let facts = c.binary_search_by_key.ensures in
    finds_none c.args.servers.now c.args.id c.binary_search_by_key.result c.requires
    (facts.position (λ (y : Serving). y.id.0) (answers_always _ _ _ (λ f a r g called. search rules)))
    (sym c.ok.ensures.value ∙ is)
