-- The servers of buckets as contracts see them.
use Rattle.std.specs.Prelude.{ℕ, List}
use Rattle.bm_base.specs.declared.ids.ServerId.{ServerId}

pub record Owning : Type 0 where
  -- the server of each bucket
  pub owners : List ServerId
  -- the servers with a number below this one are counted
  pub servers : ℕ
