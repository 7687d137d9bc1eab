use Rattle.std.proofs.Common.{◌≡◌, filter, take}
use Rattle.bm_connections.specs.declared.compared.Compared.{Compared}
use Rattle.bm_connections.specs.Base.{compared_with}
use Rattle.bm_connections_words.specs.Options.{chosen}
use Rattle.bm_connections_cli.specs.Stories.{is_chosen}
use Rattle.bm_connections_cli.proofs.stories.chosen_in.Given as goal

abbrev pub invariant-loop-place : goal.invariant-loop-place
invariant-loop-place l = record {
  found : l.list.items ≡ filter (λ (c : Compared). is_chosen (chosen l.picked) c.connection)
      (take l.place (compared_with l.table l.wholes));
}
