-- The members of each rack after one more member, without one, and with another weight of one.
use Rattle.std.proofs.Common.{◌≡◌, ℕ, ◌+◌, ◌<◌, ◌≤◌, Bool, true, false, cond, not, eqb, leb, ltb, List, []}
use Rattle.std.proofs.Common.{◌∷◌, ◌++◌, drop, filter, get_or, length, map, inl, inr, refl, ap, sym, ◌∙◌, subst, arith}
use Rattle.std.proofs.lemmas.Bool.{cases_Bool, cases_eq, cases_order, eq-eqb, leb-false, le-ltb, lt-ltb, ne_eqb, or_parts}
use Rattle.std.proofs.lemmas.List.{append_assoc, at_drop_more, length-append}
use Rattle.std.proofs.lemmas.List.Elements.{filter-append, All-append, All-cons, All-filter, All-head, All-nil, All-tail}
use Rattle.std.specs.List.{All}
use Rattle.bm_base.specs.declared.ids.ServerId.{ServerId}
use Rattle.bm_controller.specs.Controlled.{in_rack, members_of, rack_of, reweighed, servers_of, with_member, with_weight, without_member}
use Rattle.bm_controller.specs.declared.members.Member.{Member}
use Rattle.bm_controller.specs.Racks.{EachRackHasMember}
use Rattle.bm_quota.proofs.QuotaLemmas.{first_not_among}
use Rattle.bm_quota.proofs.RoomLemmas.{cases_server}
use Rattle.bm_table.specs.Settings.{RiseFrom}
use Rattle.bm_table.specs.Tables.{is_among, same_server}

-- WHAT HOLDS OF EACH MEMBER

pub all-with : (P : Member → Type 0) (m : Member) (members : List Member) → P m → All P members
    → All P (with_member m members)
all-with P m members here all =
    All-append P (filter (λ t. ltb t.server.0 m.server.0) members)
    (m ∷ filter (λ t. ltb m.server.0 t.server.0) members)
    (All-filter (λ t. ltb t.server.0 m.server.0) P members all)
    (All-cons P m (filter (λ t. ltb m.server.0 t.server.0) members) here
    (All-filter (λ t. ltb m.server.0 t.server.0) P members all))

pub all-without : (P : Member → Type 0) (s : ServerId) (members : List Member) → All P members
    → All P (without_member s members)
all-without P s members all = All-filter (λ t. not (same_server t.server s)) P members all

pub all-reweighed : (P : Member → Type 0) (s : ServerId) (weight : ℕ)
    → ((m : Member) → P m → P (record m { weight = weight })) → (members : List Member) → All P members
    → All P (reweighed s weight members)
all-reweighed P s weight keeps [] all = All-nil P
all-reweighed P s weight keeps (m ∷ members) all =
    All-cons P (with_weight s weight m) (reweighed s weight members) head
    (all-reweighed P s weight keeps members (All-tail P m members all))
  where
    head : P (with_weight s weight m)
    head =
        elim (cases_Bool (same_server m.server s)) [
          | inl same ↦ rw same (keeps m (All-head P m members all))
          | inr other ↦ rw other (All-head P m members all)
        ]

server-kept : (s : ServerId) (weight : ℕ) (m : Member) → (with_weight s weight m).server ≡ m.server
server-kept s weight m =
    elim (cases_Bool (same_server m.server s)) [
      | inl same ↦ rw same refl
      | inr other ↦ rw other refl
    ]

rack-kept : (s : ServerId) (weight : ℕ) (m : Member) → (with_weight s weight m).rack ≡ m.rack
rack-kept s weight m =
    elim (cases_Bool (same_server m.server s)) [
      | inl same ↦ rw same refl
      | inr other ↦ rw other refl
    ]

pub servers-reweighed : (s : ServerId) (weight : ℕ) (members : List Member)
    → servers_of (reweighed s weight members) ≡ servers_of members
servers-reweighed s weight [] = refl
servers-reweighed s weight (m ∷ members) =
    ap (λ (x : ServerId). x ∷ servers_of (reweighed s weight members)) (server-kept s weight m)
    ∙ ap (λ (xs : List ServerId). m.server ∷ xs) (servers-reweighed s weight members)

-- HOW MANY MEMBERS A RACK HAS

rack-cons : (rack : ℕ) (m : Member) (members : List Member)
    → length (in_rack rack (m ∷ members)) ≡ cond (eqb m.rack rack) 1 0 + length (in_rack rack members)
rack-cons rack m members =
    elim (cases_Bool (eqb m.rack rack)) [
      | inl here ↦ rw here (omega arith)
      | inr other ↦ rw other (omega arith)
    ]

count-reweighed : (rack : ℕ) (s : ServerId) (weight : ℕ) (members : List Member)
    → length (in_rack rack (reweighed s weight members)) ≡ length (in_rack rack members)
count-reweighed rack s weight [] = refl
count-reweighed rack s weight (m ∷ members) =
    rack-cons rack (with_weight s weight m) (reweighed s weight members)
    ∙ ap (λ r. cond (eqb r rack) 1 0 + length (in_rack rack (reweighed s weight members))) (rack-kept s weight m)
    ∙ ap (λ n. cond (eqb m.rack rack) 1 0 + n) (count-reweighed rack s weight members)
    ∙ sym (rack-cons rack m members)

pub each-reweighed : (racks : ℕ) (s : ServerId) (weight : ℕ) (members : List Member) → EachRackHasMember racks members
    → EachRackHasMember racks (reweighed s weight members)
each-reweighed racks s weight members each rack below =
    omega (arith, each rack below, count-reweighed rack s weight members)

filtered-yes : (p : Member → Bool) (x : Member) (xs : List Member) → p x ≡ true → filter p (x ∷ xs) ≡ x ∷ filter p xs
filtered-yes p x xs e = rw e refl

filtered-no : (p : Member → Bool) (x : Member) (xs : List Member) → p x ≡ false → filter p (x ∷ xs) ≡ filter p xs
filtered-no p x xs e = rw e refl

-- a member that isn't there yet takes no other's place
count-apart : (rack : ℕ) (s : ServerId) (members : List Member) → is_among (servers_of members) s ≡ false
    → length (in_rack rack (filter (λ t. ltb t.server.0 s.0) members))
    + length (in_rack rack (filter (λ t. ltb s.0 t.server.0) members))
    ≡ length (in_rack rack members)
count-apart rack s [] apart = refl
count-apart rack s (m ∷ members) apart =
    let parts = or_parts (same_server m.server s) (is_among (servers_of members) s) apart
    in let old = count-apart rack s members parts.1
    in elim (cases_order m.server.0 s.0) [
      | inl same ↦
          let t : same_server m.server s ≡ true = eq-eqb m.server.0 s.0 same
          in let e : true ≡ false = sym t ∙ parts.0
          in absurd (cc e)
      | inr order ↦ elim order [
        | inl below ↦
            let low = filtered-yes (λ t. ltb t.server.0 s.0) m members (lt-ltb _ _ below)
            in let high = filtered-no (λ t. ltb s.0 t.server.0) m members (le-ltb _ _ (omega arith))
            in omega (
              arith,
              ap (λ (ms : List Member). length (in_rack rack ms)) low,
              ap (λ (ms : List Member). length (in_rack rack ms)) high,
              rack-cons rack m (filter (λ t. ltb t.server.0 s.0) members),
              rack-cons rack m members,
              old,
            )
        | inr above ↦
            let low = filtered-no (λ t. ltb t.server.0 s.0) m members (le-ltb _ _ (omega arith))
            in let high = filtered-yes (λ t. ltb s.0 t.server.0) m members (lt-ltb _ _ above)
            in omega (
              arith,
              ap (λ (ms : List Member). length (in_rack rack ms)) low,
              ap (λ (ms : List Member). length (in_rack rack ms)) high,
              rack-cons rack m (filter (λ t. ltb s.0 t.server.0) members),
              rack-cons rack m members,
              old,
            )
      ]
    ]

pub each-with : (racks : ℕ) (m : Member) (members : List Member) → is_among (servers_of members) m.server ≡ false
    → EachRackHasMember racks members → EachRackHasMember racks (with_member m members)
each-with racks m members apart each rack below =
    omega (
      arith,
      each rack below,
      count-apart rack m.server members apart,
      rack-cons rack m (filter (λ t. ltb m.server.0 t.server.0) members),
      ap length (filter-append (λ t. eqb t.rack rack) (filter (λ t. ltb t.server.0 m.server.0) members)
          (m ∷ filter (λ t. ltb m.server.0 t.server.0) members)),
      length-append (in_rack rack (filter (λ t. ltb t.server.0 m.server.0) members))
          (in_rack rack (m ∷ filter (λ t. ltb m.server.0 t.server.0) members)),
    )

without-absent : (s : ServerId) (members : List Member) → is_among (servers_of members) s ≡ false
    → without_member s members ≡ members
without-absent s [] apart = refl
without-absent s (m ∷ members) apart =
    let parts = or_parts (same_server m.server s) (is_among (servers_of members) s) apart
    in filtered-yes (λ t. not (same_server t.server s)) m members (ap not parts.0)
    ∙ ap (λ (ms : List Member). m ∷ ms) (without-absent s members parts.1)

-- without one of them the rack of this one has one member fewer, and no other rack has
count-without : (rack : ℕ) (s : ServerId) (low : ℕ) (members : List Member) → RiseFrom low (servers_of members)
    → length (in_rack rack members)
    ≤ length (in_rack rack (without_member s members)) + cond (eqb (rack_of members s) rack) 1 0
count-without rack s low [] rise = omega arith
count-without rack s low (m ∷ members) rise =
    elim (cases_server m.server s) [
      | inl same ↦
          let gone = filtered-no (λ t. not (same_server t.server s)) m members (ap not same.0)
          ∙ without-absent s members (first_not_among low m.server (servers_of members) s rise same.1)
          in let its : rack_of (m ∷ members) s ≡ m.rack = rw same.0 refl
          in omega (
            arith,
            rack-cons rack m members,
            ap (λ (ms : List Member). length (in_rack rack ms)) gone,
            ap {B = ℕ} (λ r. cond (eqb r rack) 1 0) its,
          )
      | inr other ↦
          let stays = filtered-yes (λ t. not (same_server t.server s)) m members (ap not other.0)
          in let its : rack_of (m ∷ members) s ≡ rack_of members s = rw other.0 refl
          in omega (
            arith,
            rack-cons rack m members,
            rack-cons rack m (without_member s members),
            ap (λ (ms : List Member). length (in_rack rack ms)) stays,
            ap {B = ℕ} (λ r. cond (eqb r rack) 1 0) its,
            count-without rack s (m.server.0 + 1) members rise.1,
          )
    ]

pub each-without : (racks : ℕ) (s : ServerId) (members : List Member) → RiseFrom 0 (servers_of members)
    → leb (length (in_rack (rack_of members s) members)) 1 ≡ false → EachRackHasMember racks members
    → EachRackHasMember racks (without_member s members)
each-without racks s members rise many each rack below =
    elim (cases_eq (rack_of members s) rack) [
      | inl its ↦
          let more : 1 < length (in_rack rack members) =
          subst (λ r. 1 < length (in_rack r members)) its (leb-false _ _ many)
          in omega (
            arith,
            more,
            count-without rack s 0 members rise,
            ap {B = ℕ} (λ t. cond t 1 0) (eq-eqb (rack_of members s) rack its),
          )
      | inr other ↦
          omega (
            arith,
            each rack below,
            count-without rack s 0 members rise,
            ap {B = ℕ} (λ t. cond t 1 0) (ne_eqb (rack_of members s) rack other),
          )
    ]

-- THE OPENING

-- each server is in the rack that the policy names
pub rack_more : (rack : ServerId → ℕ) (servers : List ServerId) (i : ℕ) (d : ServerId) (so_far all next : List ℕ)
    (answer : ℕ) → i < length servers → answer ≡ rack (get_or servers i d) → next ≡ so_far ++ answer ∷ []
    → so_far ++ map rack (drop i servers) ≡ all → next ++ map rack (drop (i + 1) servers) ≡ all
rack_more rack servers i d so_far all next answer h is more e =
    ap (λ (xs : List ℕ). xs ++ map rack (drop (i + 1) servers)) more
    ∙ append_assoc so_far (answer ∷ []) (map rack (drop (i + 1) servers))
    ∙ ap (λ r. so_far ++ r ∷ map rack (drop (i + 1) servers)) is
    ∙ ap (λ (xs : List ℕ). so_far ++ xs) (sym (at_drop_more (map rack) servers i d h))
    ∙ e

pub some-servers : (rack : ℕ) (servers : List ServerId) (weights racks : List ℕ)
    → 0 < length (in_rack rack (members_of servers weights racks)) → 0 < length servers
some-servers rack [] weights racks h = absurd (omega arith)
some-servers rack (s ∷ servers) weights racks h = omega arith
