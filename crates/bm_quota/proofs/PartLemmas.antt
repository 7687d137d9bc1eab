-- A rebalancing by parts reaches the quotas of each part, and no shorter list does.
use Rattle.std.proofs.Common.{◌≡◌, ◌≢◌, ℕ, zero, suc, ◌+◌, ◌*◌, ◌/◌, ◌%◌, ◌<◌, ◌≤◌, true, false, cond, eqb, ltb, List, []}
use Rattle.std.proofs.Common.{◌∷◌, length, inl, inr, refl, ap, sym, ◌∙◌, subst, arith}
use Rattle.std.proofs.Math.Nat.{mod-lt}
use Rattle.std.proofs.lemmas.Bool.{cases_eq, cases_lt, cases_Bool, eq-eqb, le-ltb, lt-ltb, ne_eqb}
use Rattle.std.proofs.lemmas.Nat.{div-add-mod', same_from_place}
use Rattle.bm_quota.proofs.Rebalanced.{rebalancing-least, rebalancing-reaches, AreQuotas}
use Rattle.bm_quota.specs.Parts.{Part}
use Rattle.bm_quota.specs.Rebalancing.{rebalancing, ReachQuotas}
use Rattle.bm_table.specs.Plans.{MovesRise}
use Rattle.bm_table.specs.Tables.{target}
use Rattle.bm_table.specs.declared.plan.Move.{Move}

-- the moves of a part's buckets, by their numbers in it
abbrev pub moves_of_part : ℕ → ℕ → List Move → List Move
moves_of_part n part [] = []
moves_of_part n part (m ∷ moves) =
    cond (eqb (m.bucket % n) part) (record { bucket = m.bucket / n; to = m.to } ∷ moves_of_part n part moves)
    (moves_of_part n part moves)

-- after the moves each part's active servers own their quotas of its buckets, and no other does
abbrev pub ReachParts : ℕ → (ℕ → Part) → List Move → Type 0
ReachParts n parts moves =
    (part : ℕ) → part < n
    → ReachQuotas (parts part).owners (parts part).active (parts part).quotas (moves_of_part n part moves)

-- each part's moves are those of its rebalancing, and all are listed in rising bucket
pub record RebalanceParts (buckets n : ℕ) (parts : ℕ → Part) (moves : List Move) : Type 0 where
  pub each : (part : ℕ) → part < n
      → moves_of_part n part moves
      ≡ rebalancing (parts part).owners (parts part).active (parts part).quotas
  pub rise : MovesRise buckets 0 moves

-- the sum over the parts below a number
abbrev sum_parts : (ℕ → ℕ) → ℕ → ℕ
sum_parts f zero = 0
sum_parts f (suc n) = f n + sum_parts f n

sum_parts-le : (f g : ℕ → ℕ) (n : ℕ) → ((part : ℕ) → part < n → f part ≤ g part) → sum_parts f n ≤ sum_parts g n
sum_parts-le f g zero h = omega arith
sum_parts-le f g (suc n) h = omega (arith, h n (omega arith), sum_parts-le f g n (λ p l. h p (omega arith)))

sum_parts-same : (f g : ℕ → ℕ) (n : ℕ) → ((part : ℕ) → part < n → f part ≡ g part) → sum_parts f n ≡ sum_parts g n
sum_parts-same f g zero h = refl
sum_parts-same f g (suc n) h = omega (arith, h n (omega arith), sum_parts-same f g n (λ p l. h p (omega arith)))

-- a number below n is one of those below n
one_part : (x : ℕ) (f : ℕ → ℕ) (n : ℕ)
    → sum_parts (λ p. cond (eqb x p) (suc (f p)) (f p)) n ≡ cond (ltb x n) 1 0 + sum_parts f n
one_part x f zero = let t = le-ltb x 0 (omega arith) in rw t (omega arith)
one_part x f (suc n) =
    elim (cases_eq x n) [
      | inl same ↦
          let t = eq-eqb x n same
          in let below : ltb x (suc n) ≡ true = lt-ltb x (suc n) (omega arith)
          in let above : ltb x n ≡ false = le-ltb x n (omega arith)
          in let old : sum_parts (λ p. cond (eqb x p) (suc (f p)) (f p)) n ≡ 0 + sum_parts f n =
          one_part x f n ∙ ap (λ b. cond b 1 0 + sum_parts f n) above
          in rw (t, below) (omega (arith, old))
      | inr other ↦
          let t = ne_eqb x n other
          in let old : sum_parts (λ p. cond (eqb x p) (suc (f p)) (f p)) n ≡ cond (ltb x (suc n)) 1 0 + sum_parts f n =
          one_part x f n ∙ ap (λ b. cond b 1 0 + sum_parts f n) (same_test x n other)
          in rw t (omega (arith, old))
    ]
  where
    same_test : (a b : ℕ) → a ≢ b → ltb a b ≡ ltb a (suc b)
    same_test a b h =
        elim (cases_lt a b) [
          | inl less ↦ lt-ltb a b less ∙ sym (lt-ltb a (suc b) (omega arith))
          | inr more ↦ elim (cases_eq a b) [
            | inl same ↦ absurd (h same)
            | inr other ↦ le-ltb a b more ∙ sym (le-ltb a (suc b) (omega arith))
          ]
        ]

-- each move is of one part
pub length-parts : (n : ℕ) → 0 < n → (moves : List Move)
    → sum_parts (λ part. length (moves_of_part n part moves)) n ≡ length moves
length-parts n some [] = none n
  where
    none : (k : ℕ) → sum_parts (λ part. 0) k ≡ 0
    none zero = refl
    none (suc k) = omega (arith, none k)
length-parts n some (m ∷ moves) =
    sum_parts-same (λ part. length (moves_of_part n part (m ∷ moves)))
    (λ part. cond (eqb (m.bucket % n) part) (suc (length (moves_of_part n part moves)))
    (length (moves_of_part n part moves))) n (λ part l. one part)
    ∙ one_part (m.bucket % n) (λ part. length (moves_of_part n part moves)) n
    ∙ ap (λ b. cond b 1 0 + sum_parts (λ part. length (moves_of_part n part moves)) n)
    (lt-ltb (m.bucket % n) n (mod-lt m.bucket some))
    ∙ omega (arith, length-parts n some moves)
  where
    one : (part : ℕ) → length (moves_of_part n part (m ∷ moves))
        ≡ cond (eqb (m.bucket % n) part) (suc (length (moves_of_part n part moves)))
        (length (moves_of_part n part moves))
    one part =
        elim (cases_Bool (eqb (m.bucket % n) part)) [
          | inl t ↦ rw t refl
          | inr f ↦ rw f refl
        ]

-- where a move of a part brings its bucket is where the list brings it
pub target-part : (n part : ℕ) → part < n → (moves : List Move) (j : ℕ)
    → target (moves_of_part n part moves) j ≡ target moves (j * n + part)
target-part n part below [] j = refl
target-part n part below (m ∷ moves) j =
    elim (cases_eq (m.bucket % n) part) [
      | inl mine ↦ elim (cases_eq (m.bucket / n) j) [
        | inl here ↦
            let e : m.bucket ≡ j * n + part = omega (arith, whole, ap (λ x. x * n) here, mine)
            in rw (eq-eqb (m.bucket % n) part mine, eq-eqb (m.bucket / n) j here, eq-eqb m.bucket (j * n + part) e) refl
        | inr elsewhere ↦
            let apart = λ (e : m.bucket ≡ j * n + part). elsewhere (parts_of e).0
            in rw (
              eq-eqb (m.bucket % n) part mine,
              ne_eqb (m.bucket / n) j elsewhere,
              ne_eqb m.bucket (j * n + part) apart,
            ) (target-part n part below moves j)
      ]
      | inr other ↦
          let apart = λ (e : m.bucket ≡ j * n + part). other (parts_of e).1
          in rw (ne_eqb (m.bucket % n) part other, ne_eqb m.bucket (j * n + part) apart)
          (target-part n part below moves j)
    ]
  where
    whole : m.bucket / n * n + m.bucket % n ≡ m.bucket
    whole = div-add-mod' m.bucket n

    parts_of : m.bucket ≡ j * n + part → (m.bucket / n ≡ j) × (m.bucket % n ≡ part)
    parts_of e = same_from_place (m.bucket / n) (m.bucket % n) j part n (mod-lt m.bucket (omega arith)) below (whole ∙ e)

-- the condition of a rebalancing by parts
abbrev pub ArePartsQuotas : ℕ → (ℕ → Part) → Type 0
ArePartsQuotas n parts =
    (part : ℕ) → part < n → AreQuotas (parts part).owners (parts part).active (parts part).quotas

pub parts-reach : (buckets n : ℕ) (parts : ℕ → Part) (moves : List Move) → ArePartsQuotas n parts
    → RebalanceParts buckets n parts moves → ReachParts n parts moves
parts-reach buckets n parts moves are made part below =
    subst (ReachQuotas (parts part).owners (parts part).active (parts part).quotas) (sym (made.each part below))
    (rebalancing-reaches (parts part).owners (parts part).active (parts part).quotas (are part below))

-- no shorter list does: the proof for one part, used for each and summed
pub parts-least : (buckets n : ℕ) → 0 < n → (parts : ℕ → Part) (moves : List Move) → ArePartsQuotas n parts
    → RebalanceParts buckets n parts moves
    → (others : List Move) → ReachParts n parts others → length moves ≤ length others
parts-least buckets n some parts moves are made others reach =
    omega (
      arith,
      length-parts n some moves,
      length-parts n some others,
      sum_parts-le (λ part. length (moves_of_part n part moves)) (λ part. length (moves_of_part n part others)) n
          (λ part below. subst (λ (ms : List Move). length ms ≤ length (moves_of_part n part others))
          (sym (made.each part below))
          (rebalancing-least (parts part).owners (parts part).active (parts part).quotas (are part below)
          (moves_of_part n part others) (reach part below))),
    )

-- one part is the rebalancing of all buckets
one-alone : (moves : List Move) → moves_of_part 1 0 moves ≡ moves
one-alone [] = refl
one-alone (m ∷ moves) =
    let t : eqb (m.bucket % 1) 0 ≡ true = eq-eqb (m.bucket % 1) 0 (omega arith)
    in let same : m.bucket / 1 ≡ m.bucket = omega arith
    in rw t (ap (λ b. record { bucket = b; to = m.to } ∷ moves_of_part 1 0 moves) same
    ∙ ap (λ (ms : List Move). m ∷ ms) (one-alone moves))

pub parts-one : (buckets : ℕ) (parts : ℕ → Part) (moves : List Move) → RebalanceParts buckets 1 parts moves
    → moves ≡ rebalancing (parts 0).owners (parts 0).active (parts 0).quotas
parts-one buckets parts moves made = sym (one-alone moves) ∙ made.each 0 (omega arith)
