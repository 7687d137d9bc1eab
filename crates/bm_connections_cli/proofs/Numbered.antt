-- The lines of changes, which are numbered.
use Rattle.std.proofs.Common.{◌≡◌, ℕ, zero, suc, ◌+◌, List, [], ◌∷◌, ◌++◌, take, Option, Some, refl, sym, ap, ◌∙◌}
use Rattle.std.proofs.Common.{arith, append_assoc, add-one, subst}
use Rattle.std.specs.Prelude.{slice_get}
use Rattle.std.proofs.lemmas.List.{append-nil}
use Rattle.bm_base.specs.declared.ids.ServerId.{ServerId}
use Rattle.bm_connections.specs.declared.owned.OwnedCount.{OwnedCount}
use Rattle.bm_connections.specs.Owned.{homeward, owned_below, owners_at}
use Rattle.bm_script.specs.declared.verbs.ChangeVerb.{ChangeVerb}
use Rattle.bm_table.specs.declared.plan.Change.{Change}
use Rattle.bm_table.specs.declared.plan.Move.{Move}
use Rattle.bm_table.specs.Planned.{Planned}
use Rattle.bm_connections_cli.specs.Changes.{change_line, change_text, home_text, lines_from, owns_text}
use Rattle.bm_connections_cli.specs.Inside.Changes.{some_line}

joined : (t a b d : List ℕ) → ((t ++ a) ++ b) ++ d ≡ t ++ (a ++ b ++ d)
joined t a b d = simp append_assoc

module _ (clock : Option ℕ) (racks servers : ℕ) (plan : Planned) (verbs : List ChangeVerb) where
  abbrev lines : ℕ → List Change → List ℕ
  lines v changes = lines_from clock racks servers plan verbs v changes

  abbrev one : ℕ → Option Change → List ℕ
  one v c = some_line clock racks servers plan verbs v c

  -- one change more
  line_next : (first : ℕ) (changes : List Change) (v : ℕ) →
      lines first (take (suc v) changes) ≡ lines first (take v changes) ++ one (first + v) (slice_get changes v)
  line_next first [] zero = refl
  line_next first [] (suc v) = refl
  line_next first (c ∷ changes) zero =
      let e : first ≡ first + 0 = omega arith in
      append-nil (change_line clock racks servers plan verbs first c)
      ∙ ap (λ n. change_line clock racks servers plan verbs n c) e
  line_next first (c ∷ changes) (suc v) =
      let here = change_line clock racks servers plan verbs first c in
      let e : suc first + v ≡ first + suc v = omega arith in
      ap (λ l. here ++ l) (line_next (suc first) changes v)
      ∙ sym (append_assoc here (lines (suc first) (take v changes)) (one (suc first + v) (slice_get changes v)))
      ∙ ap (λ n. (here ++ lines (suc first) (take v changes)) ++ one n (slice_get changes v)) e

  -- the line of one change more was written
  pub line_more : (changes : List Change) (v : ℕ) (first old new : List ℕ) →
      new ≡ old ++ one v (slice_get changes v) → old ≡ first ++ lines 0 (take v changes) →
      new ≡ first ++ lines 0 (take (v + 1) changes)
  line_more changes v first old new n o =
      let a : v + 1 ≡ suc v = omega arith in
      let b : v ≡ 0 + v = omega arith in
      n ∙ ap (λ l. l ++ one v (slice_get changes v)) o
      ∙ append_assoc first (lines 0 (take v changes)) (one v (slice_get changes v))
      ∙ ap (λ l. first ++ l)
      (ap (λ k. lines 0 (take v changes) ++ one k (slice_get changes v)) b
      ∙ sym (ap (λ k. lines 0 (take k changes)) a ∙ line_next 0 changes v))

  -- The parts of a line were written one after the other. What they tell is that of the change that comes
  -- next, and of the servers before and after it.
  module _ (v : ℕ) (c : Change) (next : Option Change) (is : Some c ≡ next) where
    pub told : (t0 t1 t2 t3 : List ℕ) (buckets : ℕ) (verb : Option ChangeVerb) (home n : ℕ) (moves : List Move)
        (before after : List ServerId) (items counts : List OwnedCount) →
        t1 ≡ t0 ++ change_text clock buckets (v + 1) verb c → t2 ≡ t1 ++ home_text racks home →
        t3 ≡ t2 ++ owns_text counts → buckets ≡ plan.buckets → verb ≡ slice_get verbs v →
        home ≡ homeward racks before moves → before ≡ owners_at plan v → moves ≡ c.moves →
        counts ≡ items → items ≡ owned_below n after → n ≡ servers → after ≡ owners_at plan (v + 1) →
        t3 ≡ t0 ++ one v next
    told t0 t1 t2 t3 buckets verb home n moves before after items counts e1 e2 e3 eb ev eh eo em ec ei en ea =
        let a = change_text clock plan.buckets (suc v) (slice_get verbs v) c in
        let b = home_text racks (homeward racks (owners_at plan v) c.moves) in
        let d = owns_text (owned_below servers (owners_at plan (suc v))) in
        let first : t1 ≡ t0 ++ a = e1 ∙ rw (eb, ev, add-one v) refl in
        let second : t2 ≡ t1 ++ b = e2 ∙ rw (eh, eo, em) refl in
        let whole : counts ≡ owned_below servers (owners_at plan (suc v)) =
        ec ∙ ei ∙ ap (λ (k : ℕ). owned_below k after) en
        ∙ ap (λ (os : List ServerId). owned_below servers os) (ea ∙ ap (λ (k : ℕ). owners_at plan k) (add-one v)) in
        let third : t3 ≡ t2 ++ d = e3 ∙ ap (λ (cs : List OwnedCount). t2 ++ owns_text cs) whole in
        let all : t3 ≡ t0 ++ (a ++ b ++ d) =
        third ∙ ap (λ l. l ++ d) (second ∙ ap (λ l. l ++ b) first) ∙ joined t0 a b d in
        subst (λ (o : Option Change). t3 ≡ t0 ++ one v o) is all
