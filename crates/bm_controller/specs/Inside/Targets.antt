-- Where moves bring each bucket, in a list by the buckets' numbers.
use Rattle.std.specs.Prelude.{ℕ, ◌+◌, ◌*◌, ◌==◌, if◌then◌else◌, List, [], ◌∷◌, Option, Some, None}
use Rattle.std.specs.Prelude.{slice_index_or}
use Rattle.bm_base.specs.declared.ids.ServerId.{ServerId}
use Rattle.bm_table.specs.declared.plan.Move.{Move}

abbrev pub target_in : List (Option ServerId) → ℕ → Option ServerId
target_in targets b = slice_index_or targets b None

-- the targets after those of a part's moves were set, one after another
abbrev pub with_targets : ℕ → ℕ → List Move → (ℕ → Option ServerId) → ℕ → Option ServerId
with_targets n part [] to b = to b
with_targets n part (m ∷ moves) to b =
    with_targets n part moves (λ x. if m.bucket * n + part == x then Some m.to else to x) b
