-- The word for a limit of a plan.
use Rattle.std.specs.Prelude.{ℕ, List, codes}
use Rattle.bm_table.specs.declared.plan.Limit.{Limit}
use Rattle.bm_table.specs.declared.plan.Limit.TheVariants.{Changes, Moves}

abbrev pub limit_word : Limit → List ℕ
limit_word Changes = codes "changes"
limit_word Moves = codes "moves"
