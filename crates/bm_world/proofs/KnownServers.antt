-- The servers that a script knows.
use Rattle.std.proofs.Common.{◌≡◌, ℕ, zero, suc, ◌+◌, ◌<◌, ◌≤◌, true, false, List, [], ◌∷◌, ◌++◌}
use Rattle.std.proofs.Common.{◌⊎◌, slice_get, refl, sym, ap, ◌∙◌, subst, arith, inl, inr}
use Rattle.std.specs.Prelude.{All}
use Rattle.std.specs.List.{AllByRecursion}
use Rattle.std.proofs.lemmas.Bool.{or_cases, or_left, or_right, cases_lt, eq-eqb}
use Rattle.bm_base.specs.declared.ids.ServerId.{ServerId}
use Rattle.bm_base.specs.Tags.{IsServer}
use Rattle.bm_table.specs.declared.plan.Change.{Change}
use Rattle.bm_table.specs.declared.plan.Kind.{Kind}
use Rattle.bm_table.specs.declared.plan.Kind.TheVariants.{Add, Drain, Shift}
use Rattle.bm_table.specs.declared.script.Script.{Script}
use Rattle.bm_table.specs.Planned.{Planned}
use Rattle.bm_table.specs.Scripts.{IsSoundScript, NamesServer}
use Rattle.bm_table.specs.Settings.{RiseFrom}
use Rattle.bm_table.specs.Tables.{adds, is_add, is_among, is_known, next_change, same_server}
use Rattle.bm_table.proofs.Tables.{same_server-true}

are_servers : (low : ℕ) (servers : List ServerId) → 1 ≤ low → RiseFrom low servers
    → All (λ (s : ServerId). s.0 ≤ 1024) servers → AllByRecursion IsServer servers
are_servers low [] some rise all = tt
are_servers low (s ∷ servers) some rise all = (
  (let h = rise.0 in omega arith, all zero s (omega arith)),
  are_servers (s.0 + 1) servers (omega arith) rise.1 (λ i d below. all (suc i) d (omega arith)),
)

server_among : (servers : List ServerId) → AllByRecursion IsServer servers → (s : ServerId) → is_among servers s ≡ true
    → IsServer s
server_among [] all s is = absurd (cc)
server_among (t ∷ servers) all s is = elim (or_cases (same_server t s) (is_among servers s) is) [
  | inl here ↦ subst IsServer (same_server-true t s here) all.0
  | inr there ↦ server_among servers all.1 s there
]

server_of_kind : (k : Kind) (s : ServerId) → NamesServer k → is_add k s ≡ true → IsServer s
server_of_kind (Add t) s names is = subst IsServer (same_server-true t s is) names
server_of_kind (Drain t) s names is = absurd (cc)
server_of_kind Shift s names is = absurd (cc)

server_of_change : (changes : List Change) → AllByRecursion (λ c. NamesServer c.kind) changes → (v : ℕ) (s : ServerId)
    → adds (slice_get changes v) s ≡ true → IsServer s
server_of_change [] all v s is = absurd (cc)
server_of_change (c ∷ changes) all zero s is = server_of_kind c.kind s all.0 is
server_of_change (c ∷ changes) all (suc v) s is = server_of_change changes all.1 v s is

-- a server that a sound script knows has the number of a server
pub known_server : (script : Script) → IsSoundScript script → (n : ℕ) (s : ServerId) → is_known script.plan n s ≡ true
    → IsServer s
known_server script sound zero s is =
    server_among script.setting.servers
    (are_servers 1 script.setting.servers (omega arith) sound.setting.rising sound.setting.numbers) s
    (rw sound.servers at is)
known_server script sound (suc n) s is =
    elim (or_cases (adds (next_change script.plan n) s) (is_known script.plan n s) is) [
      | inl now ↦ server_of_change script.plan.changes sound.adds n s now
      | inr old ↦ known_server script sound n s old
    ]

-- where nothing adds it
pub known_first : (plan : Planned) (s : ServerId) (n : ℕ) → ((v : ℕ) → v < n → adds (next_change plan v) s ≡ false)
    → is_known plan n s ≡ is_among plan.servers s
known_first plan s zero none = refl
known_first plan s (suc n) none =
    let here = none n (omega arith) in let old = known_first plan s n (λ v low. none v (omega arith)) in rw here old

pub known_by : (plan : Planned) (s : ServerId) (n v : ℕ) → v < n → adds (next_change plan v) s ≡ true
    → is_known plan n s ≡ true
known_by plan s zero v low is = absurd (omega arith)
known_by plan s (suc n) v low is = elim (cases_lt v n) [
  | inl under ↦ or_right _ _ (known_by plan s n v under is)
  | inr over ↦
      let same : v ≡ n = omega arith in or_left _ _ (ap (λ (k : ℕ). adds (next_change plan k) s) (sym same) ∙ is)
]

-- LISTS THAT RISE

pub rise_more : (low : ℕ) (ids : List ServerId) (id : ServerId) → RiseFrom low ids
    → AllByRecursion (λ (s : ServerId). s.0 < id.0) ids → low ≤ id.0 → RiseFrom low (ids ++ id ∷ [])
rise_more low [] id rise below first = (first, tt)
rise_more low (s ∷ ids) id rise below first =
    (rise.0, rise_more (s.0 + 1) ids id rise.1 below.1 (omega (arith, below.0)))

pub among_old : (ids : List ServerId) (id s : ServerId) → is_among ids s ≡ true → is_among (ids ++ id ∷ []) s ≡ true
among_old [] id s is = absurd (cc)
among_old (t ∷ ids) id s is = elim (or_cases (same_server t s) (is_among ids s) is) [
  | inl here ↦ or_left _ _ here
  | inr there ↦ or_right _ _ (among_old ids id s there)
]

pub among_new : (ids : List ServerId) (id s : ServerId) → id.0 ≡ s.0 → is_among (ids ++ id ∷ []) s ≡ true
among_new [] id s same = or_left _ _ (eq-eqb _ _ same)
among_new (t ∷ ids) id s same = or_right _ _ (among_new ids id s same)

among_one : (ids : List ServerId) (id s : ServerId) → is_among (ids ++ id ∷ []) s ≡ true
    → (is_among ids s ≡ true) ⊎ (id ≡ s)
among_one [] id s is = elim (or_cases (same_server id s) false is) [
  | inl here ↦ inr (same_server-true id s here)
  | inr none ↦ absurd (cc)
]
among_one (t ∷ ids) id s is = elim (or_cases (same_server t s) (is_among (ids ++ id ∷ []) s) is) [
  | inl here ↦ inl (or_left _ _ here)
  | inr there ↦ elim (among_one ids id s there) [
    | inl old ↦ inl (or_right _ _ old)
    | inr new ↦ inr new
  ]
]

pub known_among : (plan : Planned) (s : ServerId) (n : ℕ) → is_among plan.servers s ≡ true → is_known plan n s ≡ true
known_among plan s zero is = is
known_among plan s (suc n) is = or_right _ _ (known_among plan s n is)

-- the servers with lower numbers that are known once this many changes are published
pub record AreKnownBelow (plan : Planned) (changes number : ℕ) (ids : List ServerId) : Type 0 where
  pub rise : RiseFrom 1 ids
  pub below : AllByRecursion (λ (s : ServerId). s.0 < number) ids
  pub known : (id : ServerId) → 1 ≤ id.0 → id.0 < number → is_known plan changes id ≡ true → is_among ids id ≡ true
  pub only : (id : ServerId) → is_among ids id ≡ true → is_known plan changes id ≡ true

lift_below : (n : ℕ) (ids : List ServerId) → AllByRecursion (λ (s : ServerId). s.0 < n) ids
    → AllByRecursion (λ (s : ServerId). s.0 < n + 1) ids
lift_below n [] all = tt
lift_below n (s ∷ ids) all = (omega (arith, all.0), lift_below n ids all.1)

below_snoc : (n : ℕ) (ids : List ServerId) (id : ServerId) → AllByRecursion (λ (s : ServerId). s.0 < n) ids → id.0 < n
    → AllByRecursion (λ (s : ServerId). s.0 < n) (ids ++ id ∷ [])
below_snoc n [] id all low = (low, tt)
below_snoc n (s ∷ ids) id all low = (all.0, below_snoc n ids id all.1 low)

pub known_more : (plan : Planned) (changes number : ℕ) (ids ids' : List ServerId) → 1 ≤ number
    → is_known plan changes (record { 0 = number }) ≡ true → ids' ≡ ids ++ record { 0 = number } ∷ []
    → AreKnownBelow plan changes number ids → AreKnownBelow plan changes (number + 1) ids'
known_more plan changes number ids ids' some is_one same old =
    let id : ServerId = record { 0 = number }
    in subst (λ (l : List ServerId). AreKnownBelow plan changes (number + 1) l) (sym same) (record {
      rise = rise_more 1 ids id old.rise old.below some;
      below = below_snoc (number + 1) ids id (lift_below number ids old.below) (omega arith);
      known = λ s first low is. elim (cases_lt s.0 number) [
        | inl under ↦ among_old ids id s (old.known s first under is)
        | inr over ↦ among_new ids id s (omega arith)
      ];
      only = λ s is. elim (among_one ids id s is) [
        | inl before ↦ old.only s before
        | inr here ↦ subst (λ (x : ServerId). is_known plan changes x ≡ true) here is_one
      ];
    })

pub known_less : (plan : Planned) (changes number : ℕ) (ids ids' : List ServerId)
    → is_known plan changes (record { 0 = number }) ≡ false → ids' ≡ ids → AreKnownBelow plan changes number ids
    → AreKnownBelow plan changes (number + 1) ids'
known_less plan changes number ids ids' not same old =
    subst (λ (l : List ServerId). AreKnownBelow plan changes (number + 1) l) (sym same) (record {
      rise = old.rise;
      below = lift_below number ids old.below;
      known = λ s first low is. elim (cases_lt s.0 number) [
        | inl under ↦ old.known s first under is
        | inr over ↦
            let here : s.0 ≡ number = omega arith
            in let at : s ≡ record { 0 = number } = λ i. record { 0 = here i }
            in let bad : true ≡ false = sym is ∙ ap (λ (x : ServerId). is_known plan changes x) at ∙ not
            in absurd (cc)
      ];
      only = old.only;
    })

pub nothing_below : (plan : Planned) (changes : ℕ) (ids : List ServerId) → ids ≡ [] → AreKnownBelow plan changes 1 ids
nothing_below plan changes ids none =
    subst (λ (l : List ServerId). AreKnownBelow plan changes 1 l) (sym none)
    (record {
      rise = tt;
      below = tt;
      known = λ s first low is. absurd (omega arith);
      only = λ s is. absurd (cc);
    })
