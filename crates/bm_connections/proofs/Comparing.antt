-- The connections of a table that are compared, one by one.
use Rattle.std.proofs.Common.{◌≡◌, ℕ, zero, suc, ◌+◌, ◌<◌, Bool, false, List, [], ◌∷◌, ◌++◌, length, take, get_or}
use Rattle.std.proofs.Common.{true, refl, ap, sym, subst, ◌∙◌, count_by, flat_map, arith}
use Rattle.std.specs.Prelude.{slice_index_or}
use Rattle.std.proofs.lemmas.List.Sums.{count_by_more_no, count_by_more_yes}
use Rattle.bm_connections.specs.declared.compared.Compared.{Compared}
use Rattle.bm_connections.specs.declared.connection.Connection.{Connection}
use Rattle.bm_connections.specs.Base.{compared_one, compared_with}
use Rattle.bm_connections.proofs.Lines.{lines_more}

-- the one at a place
pub compared_at : (cs : List Connection) (wholes : List Bool) (i : ℕ) (d : Connection) (none : Compared) →
    i < length cs →
    compared_one (slice_index_or wholes i false) (get_or cs i d) ≡ get_or (compared_with cs wholes) i none
compared_at [] wholes i d none below = absurd (omega (arith, below))
compared_at (c ∷ cs) [] zero d none below = refl
compared_at (c ∷ cs) [] (suc i) d none below = compared_at cs [] i d none (omega (arith, below))
compared_at (c ∷ cs) (whole ∷ wholes) zero d none below = refl
compared_at (c ∷ cs) (whole ∷ wholes) (suc i) d none below = compared_at cs wholes i d none (omega (arith, below))

pub length_compared : (cs : List Connection) (wholes : List Bool) → length (compared_with cs wholes) ≡ length cs
length_compared [] wholes = refl
length_compared (c ∷ cs) [] = ap suc (length_compared cs [])
length_compared (c ∷ cs) (whole ∷ wholes) = ap suc (length_compared cs wholes)

-- a line more of the text of a table
pub compared_lines_more : (line : Compared → List ℕ) (cs : List Connection) (wholes : List Bool) (i : ℕ)
    (d : Connection) (one : Compared) (first old new : List ℕ) → i < length cs →
    one ≡ compared_one (slice_index_or wholes i false) (get_or cs i d) → new ≡ old ++ line one →
    old ≡ first ++ flat_map line (take i (compared_with cs wholes)) →
    new ≡ first ++ flat_map line (take (i + 1) (compared_with cs wholes))
compared_lines_more line cs wholes i d one first old new below is n o =
    lines_more line (compared_with cs wholes) i one first old new
    (subst (λ m. i < m) (sym (length_compared cs wholes)) below)
    (n ∙ ap (λ x. old ++ line x) (is ∙ compared_at cs wholes i d one below)) o

-- one more that passes a test, or doesn't
pub compared_count_yes : (p : Compared → Bool) (cs : List Connection) (wholes : List Bool) (i : ℕ) (d : Connection)
    (one : Compared) → i < length cs → one ≡ compared_one (slice_index_or wholes i false) (get_or cs i d) →
    p one ≡ true →
    count_by p (take (i + 1) (compared_with cs wholes)) ≡ count_by p (take i (compared_with cs wholes)) + 1
compared_count_yes p cs wholes i d one below is passes =
    count_by_more_yes p (compared_with cs wholes) i one (subst (λ m. i < m) (sym (length_compared cs wholes)) below)
    (sym (ap p (is ∙ compared_at cs wholes i d one below)) ∙ passes)

pub compared_count_no : (p : Compared → Bool) (cs : List Connection) (wholes : List Bool) (i : ℕ) (d : Connection)
    (one : Compared) → i < length cs → one ≡ compared_one (slice_index_or wholes i false) (get_or cs i d) →
    p one ≡ false →
    count_by p (take (i + 1) (compared_with cs wholes)) ≡ count_by p (take i (compared_with cs wholes))
compared_count_no p cs wholes i d one below is fails =
    count_by_more_no p (compared_with cs wholes) i one (subst (λ m. i < m) (sym (length_compared cs wholes)) below)
    (sym (ap p (is ∙ compared_at cs wholes i d one below)) ∙ fails)
