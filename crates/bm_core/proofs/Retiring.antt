-- The answer to a wish to retire, as a function.
use Rattle.std.proofs.Common.{◌≡◌, ℕ, zero, suc, ◌<◌, max, Bool, true, false, eqb, inl, inr, List, [], ◌∷◌, Option}
use Rattle.std.proofs.Common.{Some, None, is_some, arith}
use Rattle.std.specs.Prelude.{slice_get, if◌then◌else◌}
use Rattle.std.proofs.lemmas.Bool.{cases_Bool, cases_lt, and_parts, or_cases, eqb-true, both_ways}
use Rattle.bm_base.specs.declared.ids.ServerId.{ServerId}
use Rattle.bm_table.specs.declared.plan.Change.{Change}
use Rattle.bm_table.specs.declared.plan.Move.{Move}
use Rattle.bm_table.specs.declared.plan.Retirement.{Retirement}
use Rattle.bm_table.specs.declared.plan.Retirement.TheVariants.{Done, NotDrained, TooEarly}
use Rattle.bm_table.specs.Planned.{Planned}
use Rattle.bm_table.specs.Tables.{target, brings, is_drained, leaves_late, IsRetirement}

-- a number above each bucket of these moves
abbrev pub moves_bound : List Move → ℕ
moves_bound [] = 0
moves_bound (m ∷ moves) = max (suc m.bucket) (moves_bound moves)

-- a number above each bucket that these changes move
abbrev pub changes_bound : List Change → ℕ
changes_bound [] = 0
changes_bound (c ∷ changes) = max (moves_bound c.moves) (changes_bound changes)

target_bound : (moves : List Move) (b : ℕ) → is_some (target moves b) ≡ true → b < moves_bound moves
target_bound [] b is = absurd (cc)
target_bound (m ∷ moves) b is = elim (cases_Bool (eqb m.bucket b)) [
  | inl same ↦ let e : m.bucket ≡ b = eqb-true _ _ same in omega arith
  | inr other ↦ let old = target_bound moves b (rw other at is) in omega arith
]

brings_bound : (changes : List Change) (v b : ℕ) → is_some (brings (slice_get changes v) b) ≡ true
    → b < changes_bound changes
brings_bound [] v b is = absurd (cc)
brings_bound (c ∷ changes) zero b is = let h = target_bound c.moves b is in omega arith
brings_bound (c ∷ changes) (suc v) b is = let h = brings_bound changes v b is in omega arith

late_bound : (plan : Planned) (timeout n : ℕ) (s : ServerId) (at b : ℕ) → leaves_late plan timeout n s at b ≡ true
    → b < changes_bound plan.changes
late_bound plan timeout zero s at b is = absurd (cc)
late_bound plan timeout (suc n) s at b is = elim (or_cases _ (leaves_late plan timeout n s at b) is) [
  | inl now ↦ brings_bound plan.changes n b (and_parts _ _ (and_parts _ _ now).0).0
  | inr old ↦ late_bound plan timeout n s at b old
]

-- the earlier answer, or else this number where the test holds
abbrev pub or_this : Option ℕ → Bool → ℕ → Option ℕ
or_this (Some x) test b = Some x
or_this None test b = if test then Some b else None

-- the least bucket below the number that left too late
abbrev pub least_late : Planned → ℕ → ℕ → ServerId → ℕ → ℕ → Option ℕ
least_late plan timeout n s at zero = None
least_late plan timeout n s at (suc b) =
    or_this (least_late plan timeout n s at b) (leaves_late plan timeout n s at b) b

-- what the least such bucket is, if there is one
abbrev pub IsLeastLate : Planned → ℕ → ℕ → ServerId → ℕ → ℕ → Option ℕ → Type 0
IsLeastLate plan timeout n s at top None = (b : ℕ) → b < top → leaves_late plan timeout n s at b ≡ false
IsLeastLate plan timeout n s at top (Some b) =
    (leaves_late plan timeout n s at b ≡ true)
    × ((other : ℕ) → other < b → leaves_late plan timeout n s at other ≡ false)

next_least : (plan : Planned) (timeout n : ℕ) (s : ServerId) (at b : ℕ) (o : Option ℕ)
    → IsLeastLate plan timeout n s at b o
    → IsLeastLate plan timeout n s at (suc b) (or_this o (leaves_late plan timeout n s at b) b)
next_least plan timeout n s at b (Some x) is = is
next_least plan timeout n s at b None is = elim (cases_Bool (leaves_late plan timeout n s at b)) [
  | inl late ↦ rw late (late, is)
  | inr early ↦ rw early (λ x below. elim (cases_lt x b) [
    | inl under ↦ is x under
    | inr over ↦ let same : x ≡ b = omega arith in rw same early
  ])
]

least_is_late : (plan : Planned) (timeout n : ℕ) (s : ServerId) (at top : ℕ)
    → IsLeastLate plan timeout n s at top (least_late plan timeout n s at top)
least_is_late plan timeout n s at zero = λ b below. absurd (omega arith)
least_is_late plan timeout n s at (suc b) = next_least plan timeout n s at b _ (least_is_late plan timeout n s at b)

abbrev pub by_least : Option ℕ → Retirement
by_least None = Done
by_least (Some b) = TooEarly b

-- the answer to the wish to retire the server at this moment, when n changes are published
abbrev pub retirement_of : Planned → ℕ → ℕ → ServerId → ℕ → Retirement
retirement_of plan timeout n s at =
    if is_drained plan n s then by_least (least_late plan timeout n s at (changes_bound plan.changes)) else NotDrained

drained_answer : (plan : Planned) (timeout n : ℕ) (s : ServerId) (at : ℕ) (o : Option ℕ) → is_drained plan n s ≡ true
    → IsLeastLate plan timeout n s at (changes_bound plan.changes) o → IsRetirement plan timeout n s at (by_least o)
drained_answer plan timeout n s at (Some b) drained is = (drained, is.0, is.1)
drained_answer plan timeout n s at None drained is = (
  drained,
  λ b. elim (cases_Bool (leaves_late plan timeout n s at b)) [
    | inl late ↦ absurd (both_ways _ (is b (late_bound plan timeout n s at b late)) late)
    | inr early ↦ early
  ],
)

pub retirement_is : (plan : Planned) (timeout n : ℕ) (s : ServerId) (at : ℕ)
    → IsRetirement plan timeout n s at (retirement_of plan timeout n s at)
retirement_is plan timeout n s at = elim (cases_Bool (is_drained plan n s)) [
  | inl drained ↦ rw drained
      (drained_answer plan timeout n s at (least_late plan timeout n s at (changes_bound plan.changes)) drained
      (least_is_late plan timeout n s at (changes_bound plan.changes)))
  | inr stays ↦ rw stays stays
]
