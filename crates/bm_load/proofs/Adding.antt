-- Server 5 is added to the load's plan, unless memory is refused.
use Rattle.std.proofs.Common.{◌≡◌, ◌≢◌, ℕ, ◌*◌, Bool, [], ◌∷◌, ◌++◌, length, Option, Some, None, refl, ap, ap₂, ◌∙◌}
use Rattle.std.proofs.Common.{arith}
use Rattle.std.proofs.lemmas.Bool.{le-ltb}
use Rattle.std.proofs.lemmas.List.Elements.{All-from_recursion}
use Rattle.std.specs.List.{All}
use Rattle.bm_controller.proofs.OneRack.{change-one}
use Rattle.bm_controller.specs.Commands.{after, first_refusal, limits, members_after, refusal, unfit, when}
use Rattle.bm_controller.specs.Controlled.{Controlled}
use Rattle.bm_controller.specs.declared.refusal.RackRefusal.{RackRefusal}
use Rattle.bm_controller.specs.declared.refusal.RackRefusal.TheVariants.{Base}
use Rattle.bm_controller.specs.Inside.Kinds.{HasRack}
use Rattle.bm_load.specs.Load.{addition, load_plan, opened}
use Rattle.bm_quota.specs.declared.refusal.Refusal.{Refusal}
use Rattle.bm_table.specs.declared.plan.Change.{Change}
use Rattle.bm_table.specs.declared.plan.Kind.TheVariants.{Add}
use Rattle.bm_quota.specs.declared.refusal.Refusal.TheVariants.{KnownServer, UnknownServer, NotActive, LastServer}
use Rattle.bm_quota.specs.declared.refusal.Refusal.TheVariants.{BadBucket, SameServer, StampFell, TooMany, Memory}

not_some : (r : Refusal) → ◌≡◌ {A = Option RackRefusal} None (Some (Base r)) → r ≡ Memory
not_some r is = absurd (cc)

in_rack_0 : All (HasRack 1) (members_after addition opened.members)
in_rack_0 =
    All-from_recursion (HasRack 1) (members_after addition opened.members)
    (omega arith, (omega arith, (omega arith, (omega arith, (omega arith, tt)))))

never_refused : (n : ℕ) → refusal opened (record { 0 = n * 2000 }) addition ≡ None
never_refused n =
    ap (λ (c : Change). first_refusal (unfit opened addition
    ++ limits opened.plan (record { 0 = n * 2000 }) (length c.moves)))
    (change-one opened.plan 1 (record { 0 = n * 2000 }) (Add (record { 0 = 5 })) (members_after addition opened.members)
    refl in_rack_0)
    ∙ ap (λ (late : Bool). first_refusal (None ∷ when late (Base StampFell) ∷ None ∷ None ∷ []))
    (le-ltb (n * 2000) 0 (omega arith))

-- by cases, since only equality of numbers is decided by computation
only_memory : (r : Refusal) → (r ≢ Memory → ◌≡◌ {A = Option RackRefusal} None (Some (Base r))) → r ≡ Memory
only_memory KnownServer is = not_some _ (is (λ e. absurd (cc)))
only_memory UnknownServer is = not_some _ (is (λ e. absurd (cc)))
only_memory NotActive is = not_some _ (is (λ e. absurd (cc)))
only_memory LastServer is = not_some _ (is (λ e. absurd (cc)))
only_memory BadBucket is = not_some _ (is (λ e. absurd (cc)))
only_memory SameServer is = not_some _ (is (λ e. absurd (cc)))
only_memory StampFell is = not_some _ (is (λ e. absurd (cc)))
only_memory (TooMany limit) is = not_some _ (is (λ e. absurd (cc)))
only_memory Memory is = refl

pub wants_memory : (n at : ℕ) (c : Controlled) (r : Refusal) → c ≡ opened → at ≡ n
    → (r ≢ Memory → refusal c (record { 0 = at * 2000 }) addition ≡ Some (Base r)) → r ≡ Memory
wants_memory n at c r opens same refused =
    only_memory r (λ other. rw (opens, same, never_refused n) at refused other)

pub added : (n at : ℕ) (c : Controlled) → c ≡ opened → at ≡ n
    → (after c (record { 0 = at * 2000 }) addition).plan ≡ load_plan n
unfolding load_plan
added n at c opens same = ap₂ (λ (d : Controlled) k. (after d (record { 0 = k * 2000 }) addition).plan) opens same
