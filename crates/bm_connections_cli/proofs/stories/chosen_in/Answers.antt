use Rattle.std.proofs.Common.{◌∙◌, ap, arith, filter}
use Rattle.std.proofs.lemmas.List.{take_all}
use Rattle.bm_connections.specs.declared.compared.Compared.{Compared}
use Rattle.bm_connections.specs.Base.{compared_with}
use Rattle.bm_connections.proofs.Comparing.{length_compared}
use Rattle.bm_connections_words.specs.Options.{chosen}
use Rattle.bm_connections_cli.specs.Stories.{is_chosen}
use Rattle.bm_connections_cli.proofs.Choosing.{chosen_more}
use Rattle.bm_connections_cli.proofs.stories.chosen_in.Goals as goal

pub loop-place-preserved : goal.loop-place-preserved
loop-place-preserved c = record {
  found = chosen_more (λ (x : Compared). is_chosen (chosen c.args.picked.now) x.connection) c.args.table.now
      c.args.wholes.now c.loop-place.place _ _ _ _ c.loop-place-test.true c.compare_one-compared.ensures
      c.in_ok-push_chosen.ensures c.loop-place.invariant.found;
}

pub returns : goal.returns
returns c =
    let table = c.args.table.now in
    let wholes = c.args.wholes.now in
    c.loop-place.invariant.found
    ∙ ap (filter (λ (x : Compared). is_chosen (chosen c.args.picked.now) x.connection))
    (take_all c.loop-place.place (compared_with table wholes)
    (omega (arith, c.loop-place-test.false, length_compared table wholes)))
