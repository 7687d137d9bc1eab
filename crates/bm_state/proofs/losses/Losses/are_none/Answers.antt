use Rattle.std.proofs.Common.{sym, ◌∙◌}
use Rattle.std.proofs.lemmas.Bool.{eqb-true}
use Rattle.bm_state.proofs.Losing.{none_lost}
use Rattle.bm_state.proofs.losses.Losses.are_none.Goals as goal

pub returns-clause-none : goal.returns-clause-none
returns-clause-none c past keeps t = none_lost past (sym keeps.count_of_all ∙ eqb-true _ 0 t)
