-- Targets that moves set by the buckets' numbers, and listed again in rising bucket.
use Rattle.std.proofs.Common.{◌≡◌, ◌≢◌, ℕ, suc, ◌+◌, ◌-◌, ◌*◌, ◌/◌, ◌%◌, ◌<◌, ◌≤◌, true, false, cond, eqb, List, []}
use Rattle.std.proofs.Common.{◌∷◌, ◌++◌, Option, Some, None, length, inl, inr, refl, ap, sym, ◌∙◌, arith, drop, get_or}
use Rattle.std.proofs.Math.ListN.{set}
use Rattle.std.proofs.Math.Nat.{mod-lt}
use Rattle.std.proofs.lemmas.Bool.{cases_eq, eq-eqb, ne_eqb}
use Rattle.std.proofs.lemmas.List.{at_drop_more, at_drop_all, append_assoc, get_or-set_same, get_or-set_other}
use Rattle.std.proofs.lemmas.Nat.{div-add-mod', same_from_place}
use Rattle.bm_base.specs.declared.ids.ServerId.{ServerId}
use Rattle.bm_controller.specs.Inside.Targets.{with_targets, target_in}
use Rattle.bm_quota.proofs.ListedLemmas.{none-below, Ascend}
use Rattle.bm_quota.specs.Parts.{listed, listed_at}
use Rattle.bm_table.specs.Tables.{target}
use Rattle.bm_table.specs.declared.plan.Move.{Move}

-- a target that is set in the list
pub target_in-set : (targets : List (Option ServerId)) (place : ℕ) (to : Option ServerId) → place < length targets
    → (b : ℕ) → target_in (set targets place to) b ≡ cond (eqb place b) to (target_in targets b)
target_in-set targets place to h b =
    elim (cases_eq place b) [
      | inl same ↦
          ap (target_in (set targets place to)) (sym same) ∙ get_or-set_same targets place to None h
          ∙ sym (ap (λ t. cond t to (target_in targets b)) (eq-eqb place b same))
      | inr other ↦
          get_or-set_other targets place b to None (λ e. other (sym e))
          ∙ sym (ap (λ t. cond t to (target_in targets b)) (ne_eqb place b other))
    ]

-- what is set depends on what was there at each bucket
pub with_targets-same : (n part : ℕ) (moves : List Move) (to to' : ℕ → Option ServerId) → ((b : ℕ) → to b ≡ to' b) → (b : ℕ)
    → with_targets n part moves to b ≡ with_targets n part moves to' b
with_targets-same n part moves to to' same b = ap (λ f. with_targets n part moves f b) (λ i x. same x i)

pub with_targets-more : (n part : ℕ) (moves : List Move) (i : ℕ) (d : Move) (targets : List (Option ServerId)) → i < length moves
    → (get_or moves i d).bucket * n + part < length targets → (b : ℕ)
    → with_targets n part (drop (i + 1) moves) (target_in (set targets ((get_or moves i d).bucket * n + part) (Some (get_or moves i d).to))) b
    ≡ with_targets n part (drop i moves) (target_in targets) b
with_targets-more n part moves i d targets h l b =
    with_targets-same n part (drop (i + 1) moves)
    (target_in (set targets ((get_or moves i d).bucket * n + part) (Some (get_or moves i d).to)))
    (λ x. cond (eqb ((get_or moves i d).bucket * n + part) x) (Some (get_or moves i d).to) (target_in targets x))
    (target_in-set targets ((get_or moves i d).bucket * n + part) (Some (get_or moves i d).to) l) b
    ∙ sym (at_drop_more (λ (ms : List Move). with_targets n part ms (target_in targets) b) moves i d h)

pub with_targets-end : (n part : ℕ) (moves : List Move) (i : ℕ) (targets : List (Option ServerId)) → length moves ≤ i → (b : ℕ)
    → with_targets n part (drop i moves) (target_in targets) b ≡ target_in targets b
with_targets-end n part moves i targets h b = at_drop_all (λ (ms : List Move). with_targets n part ms (target_in targets) b) moves i h

-- if the moves rise, for each bucket of the part it is set where they bring it
abbrev or_else : Option ServerId → Option ServerId → Option ServerId
or_else None before = before
or_else (Some s) before = Some s

with_targets-other : (n part : ℕ) → part < n → (moves : List Move) (to : ℕ → Option ServerId) (b : ℕ) → b % n ≢ part
    → with_targets n part moves to b ≡ to b
with_targets-other n part below [] to b other = refl
with_targets-other n part below (m ∷ moves) to b other =
    with_targets-other n part below moves (λ x. cond (eqb (m.bucket * n + part) x) (Some m.to) (to x)) b other
    ∙ ap (λ t. cond t (Some m.to) (to b)) (ne_eqb (m.bucket * n + part) b apart)
  where
    apart : m.bucket * n + part ≢ b
    apart e =
        let e' : b / n * n + b % n ≡ m.bucket * n + part = div-add-mod' b n ∙ sym e
        in other (same_from_place (b / n) (b % n) m.bucket part n (mod-lt b (omega arith)) below e').1

with_targets-part : (n part : ℕ) → part < n → (low : ℕ) (moves : List Move) → Ascend low moves → (to : ℕ → Option ServerId)
    (j : ℕ) → with_targets n part moves to (j * n + part) ≡ or_else (target moves j) (to (j * n + part))
with_targets-part n part below low [] up to j = refl
with_targets-part n part below low (m ∷ moves) up to j =
    with_targets-part n part below (m.bucket + 1) moves up.1
    (λ x. cond (eqb (m.bucket * n + part) x) (Some m.to) (to x)) j
    ∙ elim (cases_eq m.bucket j) [
      | inl here ↦
          let t : eqb (m.bucket * n + part) (j * n + part) ≡ true =
          eq-eqb (m.bucket * n + part) (j * n + part) (ap (λ x. x * n + part) here)
          in let none : target moves j ≡ None = none-below (m.bucket + 1) moves up.1 j (omega arith)
          in let now : or_else (target moves j)
          (cond (eqb (m.bucket * n + part) (j * n + part)) (Some m.to) (to (j * n + part))) ≡ Some m.to
          = rw (none, t) refl
          in let before : or_else (target (m ∷ moves) j) (to (j * n + part)) ≡ Some m.to =
          rw (eq-eqb m.bucket j here) refl
          in now ∙ sym before
      | inr other ↦
          let f : eqb (m.bucket * n + part) (j * n + part) ≡ false =
          ne_eqb (m.bucket * n + part) (j * n + part)
          (λ e. other (same_from_place m.bucket part j part n below below e).0)
          in let now : or_else (target moves j)
          (cond (eqb (m.bucket * n + part) (j * n + part)) (Some m.to) (to (j * n + part)))
          ≡ or_else (target moves j) (to (j * n + part))
          = rw f refl
          in let before : or_else (target (m ∷ moves) j) (to (j * n + part))
          ≡ or_else (target moves j) (to (j * n + part))
          = rw (ne_eqb m.bucket j other) refl
          in now ∙ sym before
    ]

or_else-none : (o before : Option ServerId) → before ≡ None → or_else o before ≡ o
or_else-none None before e = e
or_else-none (Some s) before e = refl

pub with_targets-is : (n part : ℕ) → part < n → (moves : List Move) → Ascend 0 moves → (to : ℕ → Option ServerId)
    → ((b : ℕ) → b % n ≡ part → to b ≡ None) → (b : ℕ)
    → with_targets n part moves to b ≡ cond (eqb (b % n) part) (target moves (b / n)) (to b)
with_targets-is n part below moves up to none b =
    elim (cases_eq (b % n) part) [
      | inl mine ↦
          let place : b / n * n + part ≡ b = omega (arith, div-add-mod' b n, mine)
          in ap (with_targets n part moves to) (sym place) ∙ with_targets-part n part below 0 moves up to (b / n)
          ∙ or_else-none (target moves (b / n)) (to (b / n * n + part)) (ap to place ∙ none b mine)
          ∙ sym (ap (λ t. cond t (target moves (b / n)) (to b)) (eq-eqb (b % n) part mine))
      | inr other ↦
          with_targets-other n part below moves to b other
          ∙ sym (ap (λ t. cond t (target moves (b / n)) (to b)) (ne_eqb (b % n) part other))
    ]

-- LISTED AGAIN

-- the moves of the buckets before one, and those from it on
pub listed-none : (to : ℕ → Option ServerId) (b count : ℕ) → to b ≡ None
    → listed to b (suc count) ≡ listed to (b + 1) count
listed-none to b count none = ap (λ o. listed_at b o (listed to (b + 1) count)) none

pub listed-some : (to : ℕ → Option ServerId) (b count : ℕ) (s : ServerId) → to b ≡ Some s
    → listed to b (suc count) ≡ record { bucket = b; to = s } ∷ listed to (b + 1) count
listed-some to b count s some = ap (λ o. listed_at b o (listed to (b + 1) count)) some

left : (n b : ℕ) → b < n → n - b ≡ suc (n - (b + 1))
left n b h = omega arith

pub listed-passed : (to : ℕ → Option ServerId) (n b : ℕ) (so_far all : List Move) → b < n → to b ≡ None
    → so_far ++ listed to b (n - b) ≡ all → so_far ++ listed to (b + 1) (n - (b + 1)) ≡ all
listed-passed to n b so_far all h none e =
    ap (λ (ms : List Move). so_far ++ ms)
    (sym (ap (listed to b) (left n b h) ∙ listed-none to b (n - (b + 1)) none))
    ∙ e

pub listed-took : (to : ℕ → Option ServerId) (n b : ℕ) (s : ServerId) (so_far all : List Move) → b < n → to b ≡ Some s
    → so_far ++ listed to b (n - b) ≡ all
    → (so_far ++ record { bucket = b; to = s } ∷ []) ++ listed to (b + 1) (n - (b + 1)) ≡ all
listed-took to n b s so_far all h some e =
    append_assoc so_far (record { bucket = b; to = s } ∷ []) (listed to (b + 1) (n - (b + 1)))
    ∙ ap (λ (ms : List Move). so_far ++ ms)
    (sym (ap (listed to b) (left n b h) ∙ listed-some to b (n - (b + 1)) s some))
    ∙ e

pub listed-all : (to : ℕ → Option ServerId) (n b : ℕ) (so_far all : List Move) → n ≤ b
    → so_far ++ listed to b (n - b) ≡ all → so_far ≡ all
listed-all to n b so_far all h e =
    let none : n - b ≡ 0 = omega arith
    in sym (append_nil so_far) ∙ ap (λ k. so_far ++ listed to b k) (sym none) ∙ e
  where
    append_nil : (ms : List Move) → ms ++ [] ≡ ms
    append_nil [] = refl
    append_nil (m ∷ ms) = ap (λ (xs : List Move). m ∷ xs) (append_nil ms)
