-- What comes first of each kind from a place on.
use Rattle.std.proofs.Common.{◌≡◌, ℕ, zero, suc, ◌+◌, ◌-◌, ◌<◌, ◌≤◌, inl, inr, List, [], ◌∷◌, ◌++◌, Some, length}
use Rattle.std.proofs.Common.{slice_get, get_or, refl, sym, ap, subst, ◌∙◌, arith}
use Rattle.std.proofs.lemmas.Option.{same_Some, slice_get-get_or}
use Rattle.std.proofs.lemmas.List.{length-append}
use Rattle.std.proofs.lemmas.Bool.{cases_lt}
use Rattle.bm_base.specs.declared.ids.Moment.{Moment}
use Rattle.bm_base.specs.declared.ids.ServerId.{ServerId}
use Rattle.bm_table.specs.declared.script.Command.{Command}
use Rattle.bm_table.specs.declared.script.Command.TheVariants.{Retire as RetireCommand}
use Rattle.bm_table.proofs.Gets.{slice_get-append_left, slice_get-push}
use Rattle.bm_core.specs.declared.schedule.Call.{Call}
use Rattle.bm_core.specs.declared.schedule.Call.TheVariants.{Retires}
use Rattle.bm_core.specs.declared.schedule.Due.{Due}
use Rattle.bm_replay.specs.Inside.Queues.{later_shards, retire_at, retires_from}
use Rattle.bm_core.specs.Schedule.{dropped, retire_commands, retire_dues}

pub dropped_at : {X : Type 0} (xs : List X) (i : ℕ) (x : X) → slice_get xs i ≡ Some x
    → dropped i xs ≡ x ∷ dropped (suc i) xs
dropped_at {X = X} [] i x e = absurd (cc)
dropped_at {X = X} (y ∷ xs) zero x e = ap (λ (z : X). z ∷ xs) (same_Some _ _ e)
dropped_at {X = X} (y ∷ xs) (suc i) x e = dropped_at xs i x e

-- the same, as code reads the element and counts on
pub dropped_here : {X : Type 0} (xs : List X) (i : ℕ) (d : X) → i < length xs
    → dropped i xs ≡ get_or xs i d ∷ dropped (i + 1) xs
dropped_here {X = X} xs i d inside =
    let one : suc i ≡ i + 1 = omega arith
    in subst (λ (n : ℕ). dropped i xs ≡ get_or xs i d ∷ dropped n xs) one
    (dropped_at xs i (get_or xs i d) (slice_get-get_or xs i d inside))

pub dropped_all : {X : Type 0} (xs : List X) (i : ℕ) → length xs ≤ i → dropped i xs ≡ []
dropped_all [] zero e = refl
dropped_all [] (suc i) e = refl
dropped_all (y ∷ xs) zero e = absurd (omega arith)
dropped_all (y ∷ xs) (suc i) e = dropped_all xs i (omega arith)

-- THE SHARDS OF A RETIRE

retire_count : (s : ServerId) (at n : ℕ) → length (retire_dues s at n) ≡ n
retire_count s at zero = refl
retire_count s at (suc n) =
    length-append (retire_dues s at n) (retire_at s at n ∷ []) ∙ (let h = retire_count s at n in omega arith)

retire_get : (s : ServerId) (at n h : ℕ) → h < n → slice_get (retire_dues s at n) h ≡ Some (retire_at s at h)
retire_get s at zero h below = absurd (omega arith)
retire_get s at (suc n) h below = elim (cases_lt h n) [
  | inl inside ↦ slice_get-append_left (retire_dues s at n) (retire_at s at n ∷ []) h (let c =
      retire_count s at n in omega arith) ∙ retire_get s at n h inside
  | inr last ↦
      let same : h ≡ n = omega arith
      in let place : length (retire_dues s at n) ≡ h = retire_count s at n ∙ sym same
      in subst (λ (k : ℕ). slice_get (retire_dues s at n ++ retire_at s at n ∷ []) k ≡ Some (retire_at s at h)) place
      (slice_get-push (retire_dues s at n) (retire_at s at n) ∙ ap (λ (k : ℕ). Some (retire_at s at k)) (sym same))
]

-- the retire of a shard, and of those after it
pub retire_here : (s : ServerId) (at n h : ℕ) → h < n
    → dropped h (retire_dues s at n) ≡ retire_at s at h ∷ dropped (suc h) (retire_dues s at n)
retire_here s at n h below = dropped_at (retire_dues s at n) h (retire_at s at h) (retire_get s at n h below)

pub retire_none : (s : ServerId) (at n h : ℕ) → n ≤ h → dropped h (retire_dues s at n) ≡ []
retire_none s at n h above = dropped_all (retire_dues s at n) h (let c = retire_count s at n in omega arith)

-- a retire of shard 0 comes first of its command's
pub retires_head : (shards : ℕ) (s : ServerId) (at : Moment) (commands : List Command) (i : ℕ) (d : Command)
    → 0 < shards → i < length commands → get_or commands i d ≡ RetireCommand at s
    → retires_from shards commands i
    ≡ retire_at s at.0 0 ∷ (dropped 1 (retire_dues s at.0 shards) ++ retires_from shards commands (i + 1))
retires_head shards s at commands i d some inside is =
    ap (λ (l : List Command). retire_commands shards l) (dropped_here commands i d inside)
    ∙ (ap (λ (x : Command). retire_commands shards (x ∷ dropped (i + 1) commands)) is
    ∙ ap (λ (l : List Due). l ++ retires_from shards commands (i + 1)) (retire_here s at.0 shards 0 some))

-- the retire of the next shard comes after this one
pub later_here : (shards : ℕ) (s : ServerId) (at h : ℕ) (c : Call) (e : Due) → h < shards - 1 → c ≡ Retires s h at
    → e ≡ retire_at s at (h + 1) → later_shards shards c ≡ e ∷ later_shards shards e.call
later_here shards s at h c e below is here =
    let one : suc h ≡ h + 1 = omega arith
    in let at_next : dropped (suc h) (retire_dues s at shards) ≡ retire_at s at (suc h) ∷ dropped (suc (suc h))
    (retire_dues s at shards) = retire_here s at shards (suc h) (omega arith)
    in let next : dropped (suc h) (retire_dues s at shards) ≡ retire_at s at (h + 1) ∷ dropped (suc (h + 1))
    (retire_dues s at shards) =
    subst (λ (n : ℕ). dropped (suc h) (retire_dues s at shards)
    ≡ retire_at s at n ∷ dropped (suc n) (retire_dues s at shards)) one at_next
    in rw (is, here) next

pub later_none : (shards : ℕ) (s : ServerId) (at h : ℕ) (c : Call) → shards - 1 ≤ h → c ≡ Retires s h at
    → later_shards shards c ≡ []
later_none shards s at h c above is = rw is (retire_none s at shards (suc h) (omega arith))
