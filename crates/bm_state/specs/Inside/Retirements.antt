-- Retirements by their keys, and the holders that came after them.
use Rattle.std.specs.Prelude.{ℕ, Bool, false, ◌&&◌, ◌||◌, not, ◌==◌, List, [], ◌∷◌, Option}
use Rattle.bm_base.specs.declared.ids.ServerId.{ServerId}
use Rattle.bm_table.specs.Tables.{same_server}
use Rattle.bm_state.specs.declared.holder_lists.Holder.{Holder}
use Rattle.bm_state.specs.declared.shard_key.ShardKey.{ShardKey}
use Rattle.bm_state.specs.Holders.{is_alive}

abbrev pub same_key : ShardKey → ShardKey → Bool
same_key a b = a.server == b.server && a.shard == b.shard

-- another server is among the holders, and hasn't retired since
abbrev pub other_alive : (ServerId → Option ℕ) → List Holder → ServerId → Bool
other_alive retired [] s = false
other_alive retired (h ∷ hs) s =
    not (same_server h.server s) && is_alive (retired h.server) h.place || other_alive retired hs s
