-- A plan as contracts see it.
use Rattle.std.specs.Prelude.{ℕ, List}
use Rattle.bm_base.specs.declared.ids.ServerId.{ServerId}
use Rattle.bm_table.specs.declared.plan.Change.{Change}

pub record Planned : Type 0 where
  -- how many buckets there are
  pub buckets : ℕ
  -- the servers on which the buckets open
  pub servers : List ServerId
  pub changes : List Change
