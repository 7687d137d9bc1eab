-- The connections that are chosen, one by one.
use Rattle.std.proofs.Common.{◌≡◌, ℕ, ◌+◌, ◌<◌, Bool, false, List, [], ◌∷◌, ◌++◌, length, take, get_or, filter}
use Rattle.std.proofs.Common.{ap, sym, subst, ◌∙◌}
use Rattle.std.specs.Prelude.{slice_index_or}
use Rattle.bm_connections.specs.declared.compared.Compared.{Compared}
use Rattle.bm_connections.specs.declared.connection.Connection.{Connection}
use Rattle.bm_connections.specs.Base.{compared_one, compared_with}
use Rattle.bm_connections.proofs.Comparing.{compared_at, length_compared}
use Rattle.bm_connections.proofs.Lists.{kept_more}

-- one connection more of a table that is compared
pub chosen_more : (p : Compared → Bool) (cs : List Connection) (wholes : List Bool) (i : ℕ) (d : Connection)
    (one : Compared) (old new : List Compared) → i < length cs →
    one ≡ compared_one (slice_index_or wholes i false) (get_or cs i d) → new ≡ old ++ filter p (one ∷ []) →
    old ≡ filter p (take i (compared_with cs wholes)) → new ≡ filter p (take (i + 1) (compared_with cs wholes))
chosen_more p cs wholes i d one old new below is n o =
    kept_more p (compared_with cs wholes) i one old new
    (subst (λ m. i < m) (sym (length_compared cs wholes)) below)
    (n ∙ ap (λ x. old ++ filter p (x ∷ [])) (is ∙ compared_at cs wholes i d one below)) o
