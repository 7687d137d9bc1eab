-- The members of a controller: their servers and their weights.
use Rattle.std.proofs.Common.{◌≡◌, ℕ, ◌+◌, ◌<◌, ◌≤◌, Bool, true, ◌||◌, not, ltb, List, [], ◌∷◌, ◌++◌, filter, length}
use Rattle.std.proofs.Common.{inl, inr, refl, ap, sym, ◌∙◌, subst, arith}
use Rattle.std.proofs.lemmas.Bool.{cases_Bool, le-ltb, lt-ltb, or_cases, or_left, or_right}
use Rattle.std.proofs.lemmas.List.{length-map, map-append}
use Rattle.std.proofs.lemmas.List.Elements.{All-append, All-cons, All-filter, All-head, All-map, All-nil, All-tail}
use Rattle.std.specs.List.{All}
use Rattle.bm_base.specs.declared.ids.ServerId.{ServerId}
use Rattle.bm_controller.proofs.MemberLists.{filter-no, filter-yes, none_below, RiseFrom-lower}
use Rattle.bm_controller.specs.Controlled.{is_member, members_of, servers_of, weight_of, weights_of, with_member, without_member}
use Rattle.bm_controller.specs.Inside.Kinds.{HasRack, HasWeight}
use Rattle.bm_controller.specs.declared.members.Member.{Member}
use Rattle.bm_controller.specs.Membership.{with_server, without_server}
use Rattle.bm_quota.proofs.RoomLemmas.{cases_server}
use Rattle.bm_quota.specs.Rebalancing.{quota_of}
use Rattle.bm_table.specs.Settings.{IsWithin, RiseFrom}
use Rattle.bm_table.specs.Tables.{is_among, same_server}

-- THEIR SERVERS

servers-filter : (p : ServerId → Bool) (members : List Member)
    → servers_of (filter (λ m. p m.server) members) ≡ filter p (servers_of members)
servers-filter p [] = refl
servers-filter p (m ∷ members) =
    elim (cases_Bool (p m.server)) [
      | inl passes ↦ rw passes (ap (λ (xs : List ServerId). m.server ∷ xs) (servers-filter p members))
      | inr fails ↦ rw fails (servers-filter p members)
    ]

pub servers-with : (m : Member) (members : List Member)
    → servers_of (with_member m members) ≡ with_server m.server (servers_of members)
servers-with m members =
    map-append (λ (t : Member). t.server) (filter (λ t. ltb t.server.0 m.server.0) members)
    (m ∷ filter (λ t. ltb m.server.0 t.server.0) members)
    ∙ ap (λ (xs : List ServerId). xs ++ m.server ∷ servers_of (filter (λ t. ltb m.server.0 t.server.0) members))
    (servers-filter (λ s. ltb s.0 m.server.0) members)
    ∙ ap (λ (ys : List ServerId). filter (λ s. ltb s.0 m.server.0) (servers_of members) ++ m.server ∷ ys)
    (servers-filter (λ s. ltb m.server.0 s.0) members)

pub servers-without : (s : ServerId) (members : List Member)
    → servers_of (without_member s members) ≡ without_server s (servers_of members)
servers-without s members = servers-filter (λ t. not (same_server t s)) members

pub servers-opening : (servers : List ServerId) (weights racks : List ℕ) → length weights ≡ length servers
    → length racks ≡ length servers → servers_of (members_of servers weights racks) ≡ servers
servers-opening [] weights racks e f = refl
servers-opening (s ∷ servers) [] racks e f = absurd (omega arith)
servers-opening (s ∷ servers) (w ∷ weights) [] e f = absurd (omega arith)
servers-opening (s ∷ servers) (w ∷ weights) (r ∷ racks) e f =
    ap (λ (xs : List ServerId). s ∷ xs) (servers-opening servers weights racks (omega arith) (omega arith))

among-from : (s : ServerId) (low : ℕ) (servers : List ServerId) → RiseFrom low servers → is_among servers s ≡ true
    → low ≤ s.0
among-from s low [] rise a = absurd (cc)
among-from s low (x ∷ servers) rise a =
    elim (cases_server x s) [
      | inl same ↦
          let e : x.0 ≡ s.0 = ap (λ (y : ServerId). y.0) same.1
          in omega (arith, rise.0)
      | inr other ↦
          let later : is_among servers s ≡ true = rw other.0 at a
          in let above : x.0 + 1 ≤ s.0 = among-from s (x.0 + 1) servers rise.1 later
          in omega (arith, rise.0)
    ]

all_above : (s : ServerId) (servers : List ServerId) → RiseFrom (s.0 + 1) servers
    → filter (λ t. ltb s.0 t.0) servers ≡ servers
all_above s [] rise = refl
all_above s (x ∷ servers) rise =
    filter-yes (λ t. ltb s.0 t.0) x servers (lt-ltb _ _ (omega (arith, rise.0)))
    ∙ ap (λ (xs : List ServerId). x ∷ xs)
    (all_above s servers (RiseFrom-lower (s.0 + 1) (x.0 + 1) servers (omega (arith, rise.0)) rise.1))

-- one of them once more
pub with-same : (s : ServerId) (low : ℕ) (servers : List ServerId) → RiseFrom low servers
    → is_among servers s ≡ true → with_server s servers ≡ servers
with-same s low [] rise a = absurd (cc)
with-same s low (x ∷ servers) rise a =
    elim (cases_server x s) [
      | inl same ↦
          let e : x.0 ≡ s.0 = ap (λ (y : ServerId). y.0) same.1
          in let below = filter-no (λ t. ltb t.0 s.0) x servers (le-ltb _ _ (omega arith))
          ∙ none_below s (x.0 + 1) servers rise.1 (omega arith)
          in let from : RiseFrom (s.0 + 1) servers = subst (λ n. RiseFrom (n + 1) servers) e rise.1
          in let above = filter-no (λ t. ltb s.0 t.0) x servers (le-ltb _ _ (omega arith)) ∙ all_above s servers from
          in ap (λ (xs : List ServerId). xs ++ s ∷ filter (λ t. ltb s.0 t.0) (x ∷ servers)) below
          ∙ ap (λ (ys : List ServerId). s ∷ ys) above
          ∙ ap (λ (y : ServerId). y ∷ servers) (sym same.1)
      | inr other ↦
          let later : is_among servers s ≡ true = rw other.0 at a
          in let high : x.0 + 1 ≤ s.0 = among-from s (x.0 + 1) servers rise.1 later
          in let below = filter-yes (λ t. ltb t.0 s.0) x servers (lt-ltb _ _ (omega arith))
          in let above = filter-no (λ t. ltb s.0 t.0) x servers (le-ltb _ _ (omega arith))
          in ap (λ (xs : List ServerId). xs ++ s ∷ filter (λ t. ltb s.0 t.0) (x ∷ servers)) below
          ∙ ap (λ (ys : List ServerId). x ∷ (filter (λ t. ltb t.0 s.0) servers ++ s ∷ ys)) above
          ∙ ap (λ (xs : List ServerId). x ∷ xs) (with-same s (x.0 + 1) servers rise.1 later)
    ]

pub member-is : (s : ServerId) (members : List Member)
    → is_member members s ≡ is_among (servers_of members) s
member-is s [] = refl
member-is s (m ∷ members) = ap (λ x. same_server m.server s || x) (member-is s members)

-- THEIR WEIGHTS

pub weights-with : (m : Member) (members : List Member) → HasWeight m → All HasWeight members
    → All HasWeight (with_member m members)
weights-with m members weight all =
    All-append HasWeight (filter (λ t. ltb t.server.0 m.server.0) members)
    (m ∷ filter (λ t. ltb m.server.0 t.server.0) members)
    (All-filter (λ t. ltb t.server.0 m.server.0) HasWeight members all)
    (All-cons HasWeight m (filter (λ t. ltb m.server.0 t.server.0) members) weight
    (All-filter (λ t. ltb m.server.0 t.server.0) HasWeight members all))

pub weights-without : (s : ServerId) (members : List Member) → All HasWeight members
    → All HasWeight (without_member s members)
weights-without s members all = All-filter (λ t. not (same_server t.server s)) HasWeight members all

pub weights-opening : (servers : List ServerId) (weights racks : List ℕ) → All (IsWithin 1 1000) weights
    → All HasWeight (members_of servers weights racks)
weights-opening [] weights racks all = All-nil HasWeight
weights-opening (s ∷ servers) [] racks all = All-nil HasWeight
weights-opening (s ∷ servers) (w ∷ weights) [] all = All-nil HasWeight
weights-opening (s ∷ servers) (w ∷ weights) (r ∷ racks) all =
    All-cons HasWeight (record { server = s; weight = w; rack = r }) (members_of servers weights racks)
    (All-head (IsWithin 1 1000) w weights all)
    (weights-opening servers weights racks (All-tail (IsWithin 1 1000) w weights all))

-- THEIR RACKS

pub racks-opening : (n : ℕ) (servers : List ServerId) (weights racks : List ℕ) → All (λ rack. rack < n) racks
    → All (HasRack n) (members_of servers weights racks)
racks-opening n [] weights racks all = All-nil (HasRack n)
racks-opening n (s ∷ servers) [] racks all = All-nil (HasRack n)
racks-opening n (s ∷ servers) (w ∷ weights) [] all = All-nil (HasRack n)
racks-opening n (s ∷ servers) (w ∷ weights) (r ∷ racks) all =
    All-cons (HasRack n) (record { server = s; weight = w; rack = r }) (members_of servers weights racks)
    (All-head (λ rack. rack < n) r racks all)
    (racks-opening n servers weights racks (All-tail (λ rack. rack < n) r racks all))

-- members that are chosen by a test
pub RiseFrom-members : (p : Member → Bool) (low : ℕ) (members : List Member) → RiseFrom low (servers_of members)
    → RiseFrom low (servers_of (filter p members))
RiseFrom-members p low [] rise = tt
RiseFrom-members p low (m ∷ members) rise =
    let old : RiseFrom (m.server.0 + 1) (servers_of (filter p members)) =
    RiseFrom-members p (m.server.0 + 1) members rise.1
    in elim (cases_Bool (p m)) [
      | inl passes ↦ rw passes (rise.0, old)
      | inr fails ↦ rw fails
          (RiseFrom-lower low (m.server.0 + 1) (servers_of (filter p members)) (omega (arith, rise.0)) old)
    ]

pub among-members : (p : Member → Bool) (members : List Member) (s : ServerId)
    → is_among (servers_of (filter p members)) s ≡ true → is_among (servers_of members) s ≡ true
among-members p [] s a = a
among-members p (m ∷ members) s a =
    elim (cases_Bool (p m)) [
      | inl passes ↦
          let here : (same_server m.server s || is_among (servers_of (filter p members)) s) ≡ true = rw passes at a
          in elim (or_cases (same_server m.server s) (is_among (servers_of (filter p members)) s) here) [
            | inl same ↦ or_left (same_server m.server s) (is_among (servers_of members) s) same
            | inr later ↦ or_right (same_server m.server s) (is_among (servers_of members) s)
                (among-members p members s later)
          ]
      | inr fails ↦
          let later : is_among (servers_of (filter p members)) s ≡ true = rw fails at a
          in or_right (same_server m.server s) (is_among (servers_of members) s) (among-members p members s later)
    ]

pub length-weights_of : (members : List Member) → length (weights_of members) ≡ length (servers_of members)
length-weights_of members =
    length-map members (λ (m : Member). m.weight) ∙ sym (length-map members (λ (m : Member). m.server))

-- each of these servers weighs something
abbrev pub Weigh : (ServerId → ℕ) → List ServerId → Type 0
Weigh weights servers = (s : ServerId) → is_among servers s ≡ true → IsWithin 1 1000 (weights s)

quota_of-within : (active : List ServerId) (weights : List ℕ) → length weights ≡ length active
    → All (IsWithin 1 1000) weights → (t : ServerId) → is_among active t ≡ true
    → IsWithin 1 1000 (quota_of active weights t)
quota_of-within [] weights count range t a = absurd (cc a)
quota_of-within (x ∷ active) [] count range t a = absurd (omega arith)
quota_of-within (x ∷ active) (w ∷ weights) count range t a =
    elim (cases_server x t) [
      | inl same ↦ rw same.0 (All-head (IsWithin 1 1000) w weights range)
      | inr other ↦
          let later : is_among active t ≡ true = rw other.0 at a
          in rw other.0
          (quota_of-within active weights (omega arith) (All-tail (IsWithin 1 1000) w weights range) t later)
    ]

pub all_weights : (members : List Member) → All HasWeight members → All (IsWithin 1 1000) (weights_of members)
all_weights members all = All-map (IsWithin 1 1000) (λ (m : Member). m.weight) members all

pub members_weigh : (members : List Member) → All HasWeight members → Weigh (weight_of members) (servers_of members)
members_weigh members all t a =
    quota_of-within (servers_of members) (weights_of members) (length-weights_of members) (all_weights members all) t a
