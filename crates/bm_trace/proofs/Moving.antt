-- Where moves bring a bucket.
use Rattle.std.proofs.Common.{◌≡◌, ℕ, ◌==◌, List, [], ◌∷◌, option_map, refl, inl, inr}
use Rattle.std.specs.Prelude.{find}
use Rattle.std.proofs.lemmas.Bool.{cases_Bool}
use Rattle.bm_table.specs.declared.plan.Move.{Move}
use Rattle.bm_table.specs.Tables.{target}

-- the first move of the bucket decides
pub target_find : (moves : List Move) (b : ℕ)
    → target moves b ≡ option_map (λ m. m.to) (find (λ m. m.bucket == b) moves)
target_find [] b = refl
target_find (m ∷ moves) b =
    elim (cases_Bool (m.bucket == b)) [
      | inl here ↦ rw here refl
      | inr elsewhere ↦ rw elsewhere (target_find moves b)
    ]
