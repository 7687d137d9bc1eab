-- Causes compare as the same where their numbers are the same.
use Rattle.std.proofs.Common.{◌≡◌, ◌==◌, Bool, true, false, refl, sym, subst}
use Rattle.bm_core.specs.contracts.events.CausePartialEq.TheImpl as cause_eq
use Rattle.bm_core.specs.declared.events.Cause.{Cause}
use Rattle.bm_core.specs.declared.events.Cause.TheVariants.{NeverAccepted, NotHeld, StaleMux}
use Rattle.bm_core.specs.declared.events.Cause.TheVariants.{MovedThrice, ChainLate, SynElsewhere, Full, OldTable}
use Rattle.bm_connections.specs.Counts.{number}

-- two constructors compare as different
never : {P : Type 0} → false ≡ true → P
never h = absurd (cc)

equal_same : (a b : Cause) → (cause_eq.ghosts).eq a b ≡ true → a ≡ b
equal_same NeverAccepted NeverAccepted h = refl
equal_same NotHeld NotHeld h = refl
equal_same StaleMux StaleMux h = refl
equal_same MovedThrice MovedThrice h = refl
equal_same ChainLate ChainLate h = refl
equal_same SynElsewhere SynElsewhere h = refl
equal_same Full Full h = refl
equal_same OldTable OldTable h = refl
equal_same _ _ h = never h

number_same : (a b : Cause) → (number a == number b) ≡ true → a ≡ b
number_same NeverAccepted NeverAccepted h = refl
number_same NotHeld NotHeld h = refl
number_same StaleMux StaleMux h = refl
number_same MovedThrice MovedThrice h = refl
number_same ChainLate ChainLate h = refl
number_same SynElsewhere SynElsewhere h = refl
number_same Full Full h = refl
number_same OldTable OldTable h = refl
number_same _ _ h = never h

record IsBoth (c : Cause) : Type 0 where
  equal : (cause_eq.ghosts).eq c c ≡ true
  number : (number c == number c) ≡ true

both : (c : Cause) → IsBoth c
both NeverAccepted = record { equal = refl; number = refl }
both NotHeld = record { equal = refl; number = refl }
both StaleMux = record { equal = refl; number = refl }
both MovedThrice = record { equal = refl; number = refl }
both ChainLate = record { equal = refl; number = refl }
both SynElsewhere = record { equal = refl; number = refl }
both Full = record { equal = refl; number = refl }
both OldTable = record { equal = refl; number = refl }

each_way : (x y : Bool) → (x ≡ true → y ≡ true) → (y ≡ true → x ≡ true) → x ≡ y
each_way true y to from = sym (to refl)
each_way false true to from = from refl
each_way false false to from = refl

pub equal_number : (a b : Cause) → (cause_eq.ghosts).eq a b ≡ (number a == number b)
equal_number a b =
    each_way ((cause_eq.ghosts).eq a b) (number a == number b)
    (λ h. subst (λ (c : Cause). (number a == number c) ≡ true) (equal_same a b h) (both a).number)
    (λ h. subst (λ (c : Cause). (cause_eq.ghosts).eq a c ≡ true) (number_same a b h) (both a).equal)
