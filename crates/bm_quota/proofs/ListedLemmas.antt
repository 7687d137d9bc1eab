-- The moves of all parts, listed in rising bucket.
use Rattle.std.proofs.Common.{◌≡◌, ◌≢◌, ℕ, zero, suc, ◌+◌, ◌*◌, ◌/◌, ◌%◌, ◌<◌, ◌≤◌, true, false, eqb, List, []}
use Rattle.std.proofs.Common.{◌∷◌, Option, Some, None, length, inl, inr, refl, ap, sym, ◌∙◌, subst, arith}
use Rattle.std.proofs.Math.Nat.{mod-lt, mul-le-mul_right}
use Rattle.std.proofs.lemmas.Bool.{cases_eq, cases_lt, eq-eqb, ne_eqb}
use Rattle.std.proofs.lemmas.Nat.{div-add-mod', same_from_place}
use Rattle.bm_base.specs.declared.ids.ServerId.{ServerId}
use Rattle.bm_quota.proofs.PartLemmas.{moves_of_part, target-part, RebalanceParts}
use Rattle.bm_quota.proofs.Rebalanced.{MovesRise-lower, MovesRise-rebalancing}
use Rattle.bm_quota.specs.Parts.{listed, listed_at, rebalancing_by_parts, rebalancing_of, Part}
use Rattle.bm_table.specs.Plans.{MovesRise}
use Rattle.bm_table.specs.Tables.{target}
use Rattle.bm_table.specs.declared.plan.Move.{Move}

-- the buckets rise, from low on
abbrev pub Ascend : ℕ → List Move → Type 0
Ascend low [] = Unit {0}
Ascend low (m ∷ moves) = (low ≤ m.bucket) × Ascend (m.bucket + 1) moves

pub ascend : (buckets low : ℕ) (moves : List Move) → MovesRise buckets low moves → Ascend low moves
ascend buckets low [] rise = tt
ascend buckets low (m ∷ moves) rise = (rise.0, ascend buckets (m.bucket + 1) moves rise.2)

pub none-below : (low : ℕ) (moves : List Move) → Ascend low moves → (j : ℕ) → j < low → target moves j ≡ None
none-below low [] up j h = refl
none-below low (m ∷ moves) up j h =
    rw (ne_eqb m.bucket j (λ e. omega (arith, up.0)))
    (none-below (m.bucket + 1) moves up.1 j (omega (arith, up.0)))

pub none-above : (buckets low : ℕ) (moves : List Move) → MovesRise buckets low moves → (j : ℕ) → buckets ≤ j
    → target moves j ≡ None
none-above buckets low [] rise j h = refl
none-above buckets low (m ∷ moves) rise j h =
    rw (ne_eqb m.bucket j (λ e. omega (arith, rise.1))) (none-above buckets (m.bucket + 1) moves rise.2 j h)

-- two rising lists that bring each bucket to the same place are one
unlike : (s : ServerId) (o : Option ServerId) → o ≡ None → o ≡ Some s → ⊥
unlike s o none some = absurd (cc (sym none ∙ some))

same_some : (s t : ServerId) → Some s ≡ Some t → s ≡ t
same_some s t e = cc e

unique : (low : ℕ) (xs ys : List Move) → Ascend low xs → Ascend low ys → ((j : ℕ) → target xs j ≡ target ys j)
    → xs ≡ ys
unique low [] [] up up' same = refl
unique low [] (y ∷ ys) up up' same =
    let t : eqb y.bucket y.bucket ≡ true = eq-eqb y.bucket y.bucket refl
    in let mine : target (y ∷ ys) y.bucket ≡ Some y.to = rw t refl
    in absurd (unlike y.to (target (y ∷ ys) y.bucket) (sym (same y.bucket)) mine)
unique low (x ∷ xs) [] up up' same =
    let t : eqb x.bucket x.bucket ≡ true = eq-eqb x.bucket x.bucket refl
    in let mine : target (x ∷ xs) x.bucket ≡ Some x.to = rw t refl
    in absurd (unlike x.to (target (x ∷ xs) x.bucket) (same x.bucket) mine)
unique low (x ∷ xs) (y ∷ ys) up up' same =
    elim (cases_lt x.bucket y.bucket) [
      | inl less ↦
          let t : eqb x.bucket x.bucket ≡ true = eq-eqb x.bucket x.bucket refl
          in let f : eqb y.bucket x.bucket ≡ false = ne_eqb y.bucket x.bucket (λ e. omega arith)
          in let mine : target (x ∷ xs) x.bucket ≡ Some x.to = rw t refl
          in let yours : target (y ∷ ys) x.bucket ≡ None =
          rw f (none-below (y.bucket + 1) ys up'.1 x.bucket (omega arith))
          in absurd (unlike x.to (target (x ∷ xs) x.bucket) (same x.bucket ∙ yours) mine)
      | inr more ↦ elim (cases_lt y.bucket x.bucket) [
        | inl less ↦
            let t : eqb y.bucket y.bucket ≡ true = eq-eqb y.bucket y.bucket refl
            in let f : eqb x.bucket y.bucket ≡ false = ne_eqb x.bucket y.bucket (λ e. omega arith)
            in let mine : target (y ∷ ys) y.bucket ≡ Some y.to = rw t refl
            in let yours : target (x ∷ xs) y.bucket ≡ None =
            rw f (none-below (x.bucket + 1) xs up.1 y.bucket (omega arith))
            in absurd (unlike y.to (target (y ∷ ys) y.bucket) (sym (same y.bucket) ∙ yours) mine)
        | inr more' ↦
            let e : x.bucket ≡ y.bucket = omega arith
            in let t : eqb x.bucket x.bucket ≡ true = eq-eqb x.bucket x.bucket refl
            in let u : eqb y.bucket x.bucket ≡ true = eq-eqb y.bucket x.bucket (sym e)
            in let mine : target (x ∷ xs) x.bucket ≡ Some x.to = rw t refl
            in let yours : target (y ∷ ys) x.bucket ≡ Some y.to = rw u refl
            in let to : x.to ≡ y.to = same_some x.to y.to (sym mine ∙ same x.bucket ∙ yours)
            in let head : x ≡ y = λ i. record { bucket = e i; to = to i }
            in let upper : Ascend (x.bucket + 1) ys = subst (λ b. Ascend (b + 1) ys) (sym e) up'.1
            in ap (λ (m : Move). m ∷ xs) head
            ∙ ap (λ (ms : List Move). y ∷ ms) (unique (x.bucket + 1) xs ys up.1 upper (λ j. rest e upper j))
      ]
    ]
  where
    rest : x.bucket ≡ y.bucket → Ascend (x.bucket + 1) ys → (j : ℕ) → target xs j ≡ target ys j
    rest e upper j =
        elim (cases_lt x.bucket j) [
          | inr low' ↦ none-below (x.bucket + 1) xs up.1 j (omega arith)
              ∙ sym (none-below (x.bucket + 1) ys upper j (omega arith))
          | inl high ↦
              let f : eqb x.bucket j ≡ false = ne_eqb x.bucket j (λ e. omega arith)
              in let g : eqb y.bucket j ≡ false = ne_eqb y.bucket j (λ e'. omega arith)
              in let mine : target (x ∷ xs) j ≡ target xs j = rw f refl
              in let yours : target (y ∷ ys) j ≡ target ys j = rw g refl
              in sym mine ∙ same j ∙ yours
        ]

-- the moves of a part rise
part-ascends : (n part : ℕ) (low low' : ℕ) → ((b : ℕ) → low ≤ b → b % n ≡ part → low' ≤ b / n) → (moves : List Move)
    → Ascend low moves → Ascend low' (moves_of_part n part moves)
part-ascends n part low low' h [] up = tt
part-ascends n part low low' h (m ∷ moves) up =
    elim (cases_eq (m.bucket % n) part) [
      | inl mine ↦
          rw (eq-eqb (m.bucket % n) part mine) (
            h m.bucket up.0 mine,
            part-ascends n part (m.bucket + 1) (m.bucket / n + 1) (λ b l r. after mine b l r) moves
                up.1,
          )
      | inr other ↦
          rw (ne_eqb (m.bucket % n) part other)
          (part-ascends n part (m.bucket + 1) low' (λ b l r. h b (omega (arith, up.0)) r) moves up.1)
    ]
  where
    after : m.bucket % n ≡ part → (b : ℕ) → m.bucket + 1 ≤ b → b % n ≡ part → m.bucket / n + 1 ≤ b / n
    after mine b l r =
        elim (cases_lt (m.bucket / n) (b / n)) [
          | inl less ↦ omega arith
          | inr more ↦ absurd (omega (
            arith,
            l,
            mine,
            r,
            div-add-mod' m.bucket n,
            div-add-mod' b n,
            mul-le-mul_right {m = b / n} {n = m.bucket / n} n more,
          ))
        ]

-- the list
pub listed-rises : (to : ℕ → Option ServerId) (buckets b count : ℕ) → b + count ≤ buckets
    → MovesRise buckets b (listed to b count)
listed-rises to buckets b zero h = tt
listed-rises to buckets b (suc count) h = at (to b) (listed-rises to buckets (b + 1) count (omega arith))
  where
    at : (o : Option ServerId) → MovesRise buckets (b + 1) (listed to (b + 1) count)
        → MovesRise buckets b (listed_at b o (listed to (b + 1) count))
    at None rise = MovesRise-lower buckets b (listed to (b + 1) count) rise
    at (Some s) rise = (omega arith, omega arith, rise)

target-listed : (to : ℕ → Option ServerId) (b count x : ℕ) → b ≤ x → x < b + count
    → target (listed to b count) x ≡ to x
target-listed to b zero x l h = absurd (omega arith)
target-listed to b (suc count) x l h =
    elim (cases_eq b x) [
      | inl here ↦ at_here here (to b) refl
      | inr later ↦ at_later later (to b) ∙ target-listed to (b + 1) count x (omega arith) (omega arith)
    ]
  where
    at_here : b ≡ x → (o : Option ServerId) → to b ≡ o → target (listed_at b o (listed to (b + 1) count)) x ≡ to x
    at_here e None is =
        none-below (b + 1) (listed to (b + 1) count)
        (ascend (b + 1 + count) (b + 1) (listed to (b + 1) count) (listed-rises to (b + 1 + count) (b + 1) count (omega arith)))
        x (omega arith) ∙ sym is ∙ ap to e
    at_here e (Some s) is = let t = eq-eqb b x e in rw t (sym is ∙ ap to e)

    at_later : b ≢ x → (o : Option ServerId)
        → target (listed_at b o (listed to (b + 1) count)) x ≡ target (listed to (b + 1) count) x
    at_later e None = refl
    at_later e (Some s) = let f = ne_eqb b x e in rw f refl

-- bucket j of a part is one of all buckets exactly where the part has more than j buckets
pub record AreSizes (buckets n : ℕ) (parts : ℕ → Part) : Type 0 where
  pub some : 0 < n
  pub within : (part : ℕ) → part < n → (j : ℕ) → j < length (parts part).owners → j * n + part < buckets
  pub beyond : (part : ℕ) → part < n → (j : ℕ) → length (parts part).owners ≤ j → buckets ≤ j * n + part

pub by_parts : (buckets n : ℕ) (parts : ℕ → Part) → AreSizes buckets n parts
    → RebalanceParts buckets n parts (rebalancing_by_parts buckets n parts)
by_parts buckets n parts sizes = record {
  each = λ part below. unique 0 (moves_of_part n part (rebalancing_by_parts buckets n parts)) (rebalancing_of (parts part))
      (part-ascends n part 0 0 (λ b l r. omega arith) (rebalancing_by_parts buckets n parts) (ascend buckets 0 (rebalancing_by_parts buckets n parts) rises))
      (ascend (length (parts part).owners) 0 (rebalancing_of (parts part)) (own part))
      (λ j. target-part n part below (rebalancing_by_parts buckets n parts) j ∙ same part below j);
  rise = rises;
}
  where
    rises : MovesRise buckets 0 (rebalancing_by_parts buckets n parts)
    rises = listed-rises (λ b. target (rebalancing_of (parts (b % n))) (b / n)) buckets 0 buckets (omega arith)

    own : (part : ℕ) → MovesRise (length (parts part).owners) 0 (rebalancing_of (parts part))
    own part = MovesRise-rebalancing (parts part).owners (parts part).active (parts part).quotas

    same : (part : ℕ) → part < n → (j : ℕ)
        → target (rebalancing_by_parts buckets n parts) (j * n + part) ≡ target (rebalancing_of (parts part)) j
    same part below j =
        elim (cases_lt j (length (parts part).owners)) [
          | inl inside ↦
              let parts_are = same_from_place ((j * n + part) / n) ((j * n + part) % n) j part n
              (mod-lt (j * n + part) sizes.some) below (div-add-mod' (j * n + part) n)
              in target-listed (λ b. target (rebalancing_of (parts (b % n))) (b / n)) 0 buckets (j * n + part)
              (omega arith) (omega (arith, sizes.within part below j inside))
              ∙ ap (λ r. target (rebalancing_of (parts r)) ((j * n + part) / n)) parts_are.1
              ∙ ap (target (rebalancing_of (parts part))) parts_are.0
          | inr outside ↦
              none-above buckets 0 (rebalancing_by_parts buckets n parts) rises (j * n + part)
              (sizes.beyond part below j outside)
              ∙ sym (none-above (length (parts part).owners) 0 (rebalancing_of (parts part)) (own part) j outside)
        ]
