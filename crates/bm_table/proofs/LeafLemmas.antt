-- The least bucket that left a server.
use Rattle.std.proofs.Common.{◌≡◌, ℕ, ◌+◌, ◌<◌, min, Bool, true, false, ◌&&◌, ◌||◌, eqb, List, [], ◌∷◌, ◌++◌, Option}
use Rattle.std.proofs.Common.{Some, None, is_some, length, inl, inr, refl, sym, ap, ◌∙◌, arith, get_or, take}
use Rattle.std.proofs.lemmas.List.{take_more}
use Rattle.std.proofs.lemmas.Bool.{cases_Bool, cases_eq, cases_lt, eq-eqb, ne_eqb, or_from, or_left, or_right}
use Rattle.std.proofs.lemmas.Bool.{and_right}
use Rattle.bm_base.specs.declared.ids.ServerId.{ServerId}
use Rattle.std.specs.Option.{option_or}
use Rattle.bm_table.specs.Inside.Leaves.{first_left, least_since, lesser_of, step_left, IsLeast}
use Rattle.bm_table.specs.Plans.{MovesRise}
use Rattle.bm_table.specs.Tables.{same_server, target}
use Rattle.bm_table.specs.declared.plan.Move.{Move}
use Rattle.bm_table.specs.declared.plan.Step.{Step}

pub IsLeast-same : (p q : ℕ → Bool) → ((b : ℕ) → q b ≡ p b) → (least : Option ℕ) → IsLeast p least → IsLeast q least
IsLeast-same p q e None h = λ b. e b ∙ h b
IsLeast-same p q e (Some b) h = (e b ∙ h.0, λ other l. e other ∙ h.1 other l)

-- the least of two is the least that passes one of two tests
pub IsLeast-or : (p q : ℕ → Bool) (x y : Option ℕ) → IsLeast p x → IsLeast q y
    → IsLeast (λ b. p b || q b) (lesser_of x y)
IsLeast-or p q None None h k = λ b. or_from _ _ (h b) (k b)
IsLeast-or p q None (Some y) h k = (or_right _ _ k.0, λ other l. or_from _ _ (h other) (k.1 other l))
IsLeast-or p q (Some x) None h k = (or_left _ _ h.0, λ other l. or_from _ _ (h.1 other l) (k other))
IsLeast-or p q (Some x) (Some y) h k =
    elim (cases_lt x y) [
      | inl below ↦
          let m : min x y ≡ x = omega arith
          in rw m (or_left _ _ h.0, λ other l. or_from _ _ (h.1 other l) (k.1 other (omega arith)))
      | inr above ↦
          let m : min x y ≡ y = omega arith
          in rw m (or_right _ _ k.0, λ other l. or_from _ _ (h.1 other (omega arith)) (k.1 other l))
    ]

-- moves of buckets that rise bring none below the first
target-below : (buckets low b : ℕ) (moves : List Move) → MovesRise buckets low moves → b < low
    → is_some (target moves b) ≡ false
target-below buckets low b [] h l = refl
target-below buckets low b (m ∷ moves) h l =
    let t : eqb m.bucket b ≡ false = ne_eqb m.bucket b (λ e. omega (arith, h.0))
    in rw t (target-below buckets (m.bucket + 1) b moves h.2 (omega (arith, h.0)))

-- whether a bucket that is at a server leaves it
abbrev pub leaves : (ℕ → ServerId) → List Move → ServerId → ℕ → Bool
leaves server moves s b = is_some (target moves b) && same_server (server b) s

-- of buckets that rise the first one that leaves is the least
pub IsLeast-first_left : (server : ℕ → ServerId) (s : ServerId) (buckets low : ℕ) (moves : List Move)
    → MovesRise buckets low moves
    → IsLeast (leaves server moves s) (first_left server moves s.0)
IsLeast-first_left server s buckets low [] h = λ b. refl
IsLeast-first_left server s buckets low (m ∷ moves) h =
    elim (cases_Bool (same_server (server m.bucket) s)) [
      | inl here ↦
          let t : eqb m.bucket m.bucket ≡ true = eq-eqb _ _ refl
          in rw here (
            rw t here,
            λ other l.
                let u : eqb m.bucket other ≡ false = ne_eqb _ _ (λ e. omega (arith, l))
                in let none : is_some (target moves other) ≡ false =
                target-below buckets (m.bucket + 1) other moves h.2 (omega (arith, l))
                in rw (u, none) refl,
          )
      | inr elsewhere ↦
          rw elsewhere
          (IsLeast-same (leaves server moves s) (leaves server (m ∷ moves) s) (passed elsewhere) _
          (IsLeast-first_left server s buckets (m.bucket + 1) moves h.2))
    ]
  where
    passed : same_server (server m.bucket) s ≡ false → (b : ℕ) → leaves server (m ∷ moves) s b ≡ leaves server moves s b
    passed elsewhere b =
        elim (cases_eq m.bucket b) [
          | inl same ↦
              let t : eqb m.bucket b ≡ true = eq-eqb _ _ same
              in let u : same_server (server b) s ≡ false = ap (λ x. same_server (server x) s) (sym same) ∙ elsewhere
              in rw (t, u) (sym (and_right (is_some (target moves b)) false refl))
          | inr other ↦
              let t : eqb m.bucket b ≡ false = ne_eqb _ _ other
              in rw t refl
        ]

-- where each bucket is at the same server, the same leaves
pub first_left-same : (f g : ℕ → ServerId) → ((b : ℕ) → f b ≡ g b) → (moves : List Move) (s : ℕ)
    → first_left f moves s ≡ first_left g moves s
first_left-same f g e [] s = refl
first_left-same f g e (m ∷ moves) s = rw (e m.bucket, first_left-same f g e moves s) refl

pub first_left-agree : (buckets low : ℕ) (f g : ℕ → ServerId) → ((b : ℕ) → b < buckets → f b ≡ g b)
    → (moves : List Move) → MovesRise buckets low moves
    → (s : ℕ) → first_left f moves s ≡ first_left g moves s
first_left-agree buckets low f g e [] h s = refl
first_left-agree buckets low f g e (m ∷ moves) h s =
    rw (e m.bucket h.1, first_left-agree buckets (m.bucket + 1) f g e moves h.2 s) refl

-- THE LEAST BY SEVERAL STEPS

lesser_of-none : (x : Option ℕ) → lesser_of x None ≡ x
lesser_of-none None = refl
lesser_of-none (Some x) = refl

lesser_of-assoc : (x y z : Option ℕ) → lesser_of (lesser_of x y) z ≡ lesser_of x (lesser_of y z)
lesser_of-assoc None y z = refl
lesser_of-assoc (Some x) None z = refl
lesser_of-assoc (Some x) (Some y) None = refl
lesser_of-assoc (Some x) (Some y) (Some z) = ap Some (omega arith)

-- one more step
pub least_since-push : (steps : List Step) (step : Step) (s : ServerId) (since : ℕ)
    → least_since (steps ++ step ∷ []) s since ≡ lesser_of (least_since steps s since) (step_left step s since)
least_since-push [] step s since = lesser_of-none (step_left step s since)
least_since-push (x ∷ steps) step s since =
    ap (lesser_of (step_left x s since)) (least_since-push steps step s since)
    ∙ sym (lesser_of-assoc (step_left x s since) (least_since steps s since) (step_left step s since))

-- the same where a loop takes it
pub least_since-more : (steps : List Step) (i : ℕ) (d : Step) (s : ServerId) (since : ℕ) → i < length steps
    → least_since (take (i + 1) steps) s since ≡ lesser_of (least_since (take i steps) s since)
    (step_left (get_or steps i d) s since)
least_since-more steps i d s since h =
    ap (λ (xs : List Step). least_since xs s since) (take_more steps i d h)
    ∙ least_since-push (take i steps) (get_or steps i d) s since

-- A LOOP OVER THE MOVES

-- what was found, and what the moves that are left say, is what all moves say
abbrev pub SayLeft : (ℕ → Option ℕ) → (ℕ → ServerId) → List Move → List Move → Type 0
SayLeft found server rest moves = (s : ℕ) → option_or (found s) (first_left server rest s) ≡ first_left server moves s
