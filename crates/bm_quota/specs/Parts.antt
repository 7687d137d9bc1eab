-- Rebalancing by n parts: bucket b is of part `b mod n`, and has the number `b / n` in it. Each part
-- is rebalanced by itself.
use Rattle.std.specs.Prelude.{ℕ, zero, suc, ◌+◌, ◌-◌, ◌*◌, ◌/◌, ◌%◌}
use Rattle.std.specs.Prelude.{List, [], ◌∷◌, map, Option, Some, None}
use Rattle.std.specs.List.{range_with_len}
use Rattle.bm_base.specs.declared.ids.ServerId.{ServerId}
use Rattle.bm_quota.specs.Rebalancing.{rebalancing}
use Rattle.bm_table.specs.declared.plan.Move.{Move}
use Rattle.bm_table.specs.Tables.{target}

-- a part before it is rebalanced
pub record Part : Type 0 where
  -- the owner of each of its buckets
  pub owners : List ServerId
  pub active : List ServerId
  pub quotas : List ℕ

-- how many of the buckets are of this part: those below `buckets` with the remainder `part`
abbrev pub part_size : ℕ → ℕ → ℕ → ℕ
part_size buckets n part = (buckets + (n - 1) - part) / n

-- the owners of the `count` buckets of a part
abbrev pub owners_of_part : (ℕ → ServerId) → ℕ → ℕ → ℕ → List ServerId
owners_of_part owner n part count = map (λ j. owner (j * n + part)) (range_with_len 0 count)

-- the moves, before which bucket b is brought somewhere or not
abbrev pub listed_at : ℕ → Option ServerId → List Move → List Move
listed_at b None moves = moves
listed_at b (Some s) moves = record { bucket = b; to = s } ∷ moves

-- the moves of the `count` buckets from b on, by where each is brought
abbrev pub listed : (ℕ → Option ServerId) → ℕ → ℕ → List Move
listed to b zero = []
listed to b (suc count) = listed_at b (to b) (listed to (b + 1) count)

-- the moves of a part, by the numbers of its buckets in it
abbrev pub rebalancing_of : Part → List Move
rebalancing_of part = rebalancing part.owners part.active part.quotas

-- each bucket goes where the rebalancing of its part brings it
abbrev pub rebalancing_by_parts : ℕ → ℕ → (ℕ → Part) → List Move
rebalancing_by_parts buckets n parts =
    listed (λ b. target (rebalancing_of (parts (b % n))) (b / n)) 0 buckets
