-- One element more of a list that is gone through.
use Rattle.std.proofs.Common.{◌≡◌, ℕ, zero, suc, ◌+◌, List, [], ◌∷◌, ◌++◌, take, flat_map, refl, sym, ap, ◌∙◌, arith}
use Rattle.std.proofs.Common.{append_assoc}
use Rattle.std.specs.Prelude.{slice_get}
use Rattle.std.proofs.lemmas.List.{append-nil}
use Rattle.bm_base.specs.declared.ids.ServerId.{ServerId}
use Rattle.bm_table.specs.declared.plan.Change.{Change}
use Rattle.bm_connections_cli.specs.Servers.{added}
use Rattle.bm_connections_cli.specs.Inside.Servers.{added_by}

-- the servers that these changes add
abbrev pub all_added : List Change → List ServerId
all_added changes = flat_map (λ (c : Change). added c.kind) changes

added_next : (changes : List Change) (v : ℕ) →
    all_added (take (suc v) changes) ≡ all_added (take v changes) ++ added_by (slice_get changes v)
added_next [] zero = refl
added_next [] (suc v) = refl
added_next (c ∷ changes) zero = append-nil (added c.kind)
added_next (c ∷ changes) (suc v) =
    ap (λ l. added c.kind ++ l) (added_next changes v)
    ∙ sym (append_assoc (added c.kind) (all_added (take v changes)) (added_by (slice_get changes v)))

pub added_more : (changes : List Change) (v : ℕ) (first old new : List ServerId) →
    new ≡ old ++ added_by (slice_get changes v) → old ≡ first ++ all_added (take v changes) →
    new ≡ first ++ all_added (take (v + 1) changes)
added_more changes v first old new n o =
    let e : v + 1 ≡ suc v = omega arith in
    n ∙ ap (λ l. l ++ added_by (slice_get changes v)) o
    ∙ append_assoc first (all_added (take v changes)) (added_by (slice_get changes v))
    ∙ ap (λ l. first ++ l) (sym (ap (λ k. all_added (take k changes)) e ∙ added_next changes v))
