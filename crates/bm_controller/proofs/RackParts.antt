-- The rebalancing of the buckets of all racks: what its moves reach, and where they bring each bucket.
use Rattle.std.proofs.Common.{◌≡◌, ◌≢◌, ℕ, zero, suc, ◌+◌, ◌-◌, ◌*◌, ◌/◌, ◌%◌, ◌<◌, ◌≤◌, true, false, cond, eqb, ltb, List, [], ◌∷◌, map}
use Rattle.std.proofs.Common.{Option, Some, None, unwrap_or, length, inl, inr, refl, ap, sym, ◌∙◌, subst, arith, get_or}
use Rattle.std.proofs.Math.Nat.{mod-lt, mul-le-mul_left, mul-le-mul_right}
use Rattle.std.proofs.lemmas.Bool.{cases_Bool, cases_eq, cases_lt, eq-eqb, le-ltb, lt-ltb, ne_eqb}
use Rattle.std.proofs.lemmas.List.{length-map}
use Rattle.std.proofs.lemmas.List.Elements.{All-cons, All-filter, All-head, All-nil, All-tail, All-map}
use Rattle.std.proofs.lemmas.List.FromFn.{get_or-map-range_with_len, length-map-range_with_len}
use Rattle.std.proofs.lemmas.Nat.{div-add-mod'}
use Rattle.std.specs.List.{range_with_len, All}
use Rattle.std.specs.Option.{IfSome}
use Rattle.bm_base.specs.declared.ids.ServerId.{ServerId}
use Rattle.bm_controller.proofs.MemberFacts.{among-members, members_weigh, RiseFrom-members}
use Rattle.bm_controller.proofs.MemberPlans.{owned-none, owners_after-range, some_to, Serves-range}
use Rattle.bm_controller.proofs.SetTargets.{with_targets-is}
use Rattle.bm_controller.specs.Controlled.{in_rack, servers_of, weight_of}
use Rattle.bm_controller.specs.declared.members.Member.{Member}
use Rattle.bm_controller.specs.Inside.Kinds.{HasRack, HasWeight}
use Rattle.bm_controller.specs.Inside.Targets.{with_targets}
use Rattle.bm_controller.specs.Racks.{rack_part, EachRackHasMember, OwnQuotas}
use Rattle.bm_quota.proofs.Claims.{some_weighs}
use Rattle.bm_quota.proofs.ListedLemmas.{ascend, by_parts, none-below, Ascend, AreSizes}
use Rattle.bm_quota.proofs.PartLemmas.{moves_of_part, parts-least, parts-one, parts-reach, target-part, ArePartsQuotas}
use Rattle.bm_quota.proofs.PartLemmas.{ReachParts, RebalanceParts}
use Rattle.bm_quota.proofs.QuotaLemmas.{quota_of-outside}
use Rattle.bm_quota.proofs.Rebalanced.{rebalancing-changes, rebalancing-targets}
use Rattle.bm_quota.proofs.Rebalanced.{MovesRise-rebalancing}
use Rattle.bm_quota.proofs.WeightLemmas.{sum-quotas_of}
use Rattle.bm_quota.specs.Parts.{listed, owners_of_part, part_size, rebalancing_by_parts, rebalancing_of}
use Rattle.bm_quota.specs.Rebalancing.{owned, owners_after, quota, quota_of, quotas_of, rebalancing}
use Rattle.bm_table.specs.declared.plan.Move.{Move}
use Rattle.bm_table.specs.Plans.{bucket_already_there, MovesRise}
use Rattle.bm_table.specs.Settings.{RiseFrom}
use Rattle.bm_table.specs.Tables.{is_among, same_server, target}

-- THE BUCKETS OF A RACK

whole : (buckets n part : ℕ) → 0 < n
    → ((buckets + (n - 1) - part) / n * n + (buckets + (n - 1) - part) % n ≡ buckets + (n - 1) - part)
    × ((buckets + (n - 1) - part) % n < n)
whole buckets n part some = (div-add-mod' (buckets + (n - 1) - part) n, mod-lt (buckets + (n - 1) - part) some)

pub part-within : (buckets n part j : ℕ) → part < n → j < part_size buckets n part → j * n + part < buckets
part-within buckets n part j below h =
    omega (
      arith,
      whole buckets n part (omega arith),
      mul-le-mul_right {m = j + 1} {n = part_size buckets n part} n (omega arith),
    )

pub part-beyond : (buckets n part j : ℕ) → part < n → part_size buckets n part ≤ j → buckets ≤ j * n + part
part-beyond buckets n part j below h =
    omega (
      arith,
      whole buckets n part (omega arith),
      mul-le-mul_right {m = part_size buckets n part} {n = j} n h,
    )

pub part_size-le : (buckets n part : ℕ) → part < n → part_size buckets n part ≤ buckets
part_size-le buckets n part below =
    elim (cases_lt buckets (part_size buckets n part)) [
      | inl more ↦ absurd (omega (
        arith,
        part-within buckets n part buckets below more,
        mul-le-mul_left {m = 1} {n = n} buckets (omega arith),
      ))
      | inr few ↦ few
    ]

pub length-owners_of_part : (owner : ℕ → ServerId) (n part count : ℕ) → length (owners_of_part owner n part count) ≡ count
length-owners_of_part owner n part count = length-map-range_with_len (λ j. owner (j * n + part)) 0 count

pub AreSizes-racks : (owner : ℕ → ServerId) (buckets n : ℕ) (members : List Member) → 0 < n
    → AreSizes buckets n (rack_part owner buckets n members)
AreSizes-racks owner buckets n members some = record {
  some = some;
  within = λ part below j h. part-within buckets n part j below
      (omega (arith, h, length-owners_of_part owner n part (part_size buckets n part)));
  beyond = λ part below j h. part-beyond buckets n part j below
      (omega (arith, h, length-owners_of_part owner n part (part_size buckets n part)));
}

-- the number of a bucket in its rack is below the rack's size
number-within : (buckets n b : ℕ) → 0 < n → b < buckets → b / n < part_size buckets n (b % n)
number-within buckets n b some h =
    elim (cases_lt (b / n) (part_size buckets n (b % n))) [
      | inl below ↦ below
      | inr above ↦
          let beyond = part-beyond buckets n (b % n) (b / n) (mod-lt b some) above
          in absurd (omega (arith, beyond, h, div-add-mod' b n))
    ]

-- THE SERVERS OF A RACK

pub rising-rack : (rack : ℕ) (members : List Member) → RiseFrom 0 (servers_of members)
    → RiseFrom 0 (servers_of (in_rack rack members))
rising-rack rack members rise = RiseFrom-members (λ m. eqb m.rack rack) 0 members rise

pub weights-rack : (rack : ℕ) (members : List Member) → All HasWeight members → All HasWeight (in_rack rack members)
weights-rack rack members weights = All-filter (λ m. eqb m.rack rack) HasWeight members weights

-- the numbers of a rack's servers are below what those of all are below
pub numbers-rack : (rack : ℕ) (members : List Member) (n : ℕ) → All (λ m. m.server.0 < n) members
    → All (λ s. s.0 < n) (servers_of (in_rack rack members))
numbers-rack rack members n below =
    All-map (λ (s : ServerId). s.0 < n) (λ (m : Member). m.server) (in_rack rack members)
    (All-filter (λ m. eqb m.rack rack) (λ (m : Member). m.server.0 < n) members below)

pub length-servers_of : (members : List Member) → length (servers_of members) ≡ length members
length-servers_of members = length-map members (λ (m : Member). m.server)

-- the moves of a rack, by what its call was given
pub moves-same : {buckets size : ℕ} {owned owners servers servers' : List ServerId} {weights weights' quotas : List ℕ}
    {moves : List Move} {next : List ServerId} → moves ≡ rebalancing owned next quotas → owned ≡ owners → next ≡ servers'
    → quotas ≡ quotas_of buckets (quota_of servers weights) servers → buckets ≡ size → servers ≡ servers'
    → weights ≡ weights' → moves ≡ rebalancing owners servers' (quotas_of size (quota_of servers' weights') servers')
moves-same is owned next quotas size servers weights =
    is ∙ (λ i. rebalancing (owned i) (next i)
    ((quotas ∙ (λ j. quotas_of (size j) (quota_of (servers j) (weights j)) (servers j))) i))

-- the places of a rack's buckets
pub places-rack : (buckets n rack low : ℕ) → rack < n → (moves : List Move)
    → MovesRise (part_size buckets n rack) low moves → All (λ m. m.bucket * n + rack < buckets) moves
places-rack buckets n rack low below [] rise = All-nil (λ (m : Move). m.bucket * n + rack < buckets)
places-rack buckets n rack low below (m ∷ moves) rise =
    All-cons (λ (x : Move). x.bucket * n + rack < buckets) m moves
    (part-within buckets n rack m.bucket below rise.1)
    (places-rack buckets n rack (m.bucket + 1) below moves rise.2)

pub rise-rack : (owner : ℕ → ServerId) (buckets n : ℕ) (members : List Member) (rack : ℕ)
    → MovesRise (part_size buckets n rack) 0 (rebalancing_of (rack_part owner buckets n members rack))
rise-rack owner buckets n members rack =
    subst (λ k. MovesRise k 0 (rebalancing_of (rack_part owner buckets n members rack)))
    (length-owners_of_part owner n rack (part_size buckets n rack))
    (MovesRise-rebalancing (rack_part owner buckets n members rack).owners
    (rack_part owner buckets n members rack).active (rack_part owner buckets n members rack).quotas)

-- where the moves of the racks below one bring each bucket
abbrev pub target_below : (ℕ → ServerId) → ℕ → ℕ → List Member → ℕ → ℕ → Option ServerId
target_below owner buckets n members rack b =
    cond (ltb (b % n) rack) (target (rebalancing_of (rack_part owner buckets n members (b % n))) (b / n)) None

pub target-none : (owner : ℕ → ServerId) (buckets n : ℕ) (members : List Member) (b : ℕ)
    → target_below owner buckets n members 0 b ≡ None
target-none owner buckets n members b =
    ap (λ t. cond t (target (rebalancing_of (rack_part owner buckets n members (b % n))) (b / n)) None)
    (le-ltb (b % n) 0 (omega arith))

pub target-all : (owner : ℕ → ServerId) (buckets n : ℕ) (members : List Member) (rack : ℕ) → 0 < n → n ≤ rack → (b : ℕ)
    → target_below owner buckets n members rack b
    ≡ target (rebalancing_of (rack_part owner buckets n members (b % n))) (b / n)
target-all owner buckets n members rack some all b =
    ap (λ t. cond t (target (rebalancing_of (rack_part owner buckets n members (b % n))) (b / n)) None)
    (lt-ltb (b % n) rack (omega (arith, mod-lt b some)))

pub target-more : (owner : ℕ → ServerId) (buckets n : ℕ) (members : List Member) (rack : ℕ) → rack < n
    → (to : ℕ → Option ServerId) → ((b : ℕ) → to b ≡ target_below owner buckets n members rack b) → (b : ℕ)
    → with_targets n rack (rebalancing_of (rack_part owner buckets n members rack)) to b
    ≡ target_below owner buckets n members (rack + 1) b
target-more owner buckets n members rack below to are b =
    with_targets-is n rack below (rebalancing_of (rack_part owner buckets n members rack))
    (ascend (part_size buckets n rack) 0 (rebalancing_of (rack_part owner buckets n members rack))
    (rise-rack owner buckets n members rack)) to none b
    ∙ elim (cases_eq (b % n) rack) [
      | inl mine ↦
          ap (λ t. cond t (target (rebalancing_of (rack_part owner buckets n members rack)) (b / n)) (to b))
          (eq-eqb (b % n) rack mine)
          ∙ ap (λ r. target (rebalancing_of (rack_part owner buckets n members r)) (b / n)) (sym mine)
          ∙ sym (ap (λ t. cond t (target (rebalancing_of (rack_part owner buckets n members (b % n))) (b / n)) None)
          (lt-ltb (b % n) (rack + 1) (omega arith)))
      | inr other ↦
          ap (λ t. cond t (target (rebalancing_of (rack_part owner buckets n members rack)) (b / n)) (to b))
          (ne_eqb (b % n) rack other)
          ∙ are b
          ∙ ap (λ t. cond t (target (rebalancing_of (rack_part owner buckets n members (b % n))) (b / n)) None)
          (same_test (b % n) other)
    ]
  where
    none : (x : ℕ) → x % n ≡ rack → to x ≡ None
    none x mine =
        are x
        ∙ ap (λ t. cond t (target (rebalancing_of (rack_part owner buckets n members (x % n))) (x / n)) None)
        (le-ltb (x % n) rack (omega arith))

    same_test : (r : ℕ) → r ≢ rack → ltb r rack ≡ ltb r (rack + 1)
    same_test r other =
        elim (cases_lt r rack) [
          | inl less ↦ lt-ltb r rack less ∙ sym (lt-ltb r (rack + 1) (omega arith))
          | inr more ↦ elim (cases_eq r rack) [
            | inl same ↦ absurd (other same)
            | inr apart ↦ le-ltb r rack more ∙ sym (le-ltb r (rack + 1) (omega arith))
          ]
        ]

-- what is asked of the members to be rebalanced
pub record AreRacks (n : ℕ) (members : List Member) : Type 0 where
  pub some : 0 < n
  pub rising : RiseFrom 0 (servers_of members)
  pub weights : All HasWeight members
  pub each : EachRackHasMember n members

pub ArePartsQuotas-racks : (owner : ℕ → ServerId) (buckets n : ℕ) (members : List Member) → AreRacks n members
    → ArePartsQuotas n (rack_part owner buckets n members)
ArePartsQuotas-racks owner buckets n members are rack below =
    let rise = rising-rack rack members are.rising
    in let some : 0 < length (servers_of (in_rack rack members)) =
    omega (arith, are.each rack below, length-servers_of (in_rack rack members))
    in record {
      rising = rise;
      count = length-map (servers_of (in_rack rack members))
          (quota (part_size buckets n rack) (weight_of (in_rack rack members)) (servers_of (in_rack rack members)));
      total = sum-quotas_of (part_size buckets n rack) (weight_of (in_rack rack members))
          (servers_of (in_rack rack members)) rise some
          (some_weighs (weight_of (in_rack rack members)) (servers_of (in_rack rack members)) some
          (members_weigh (in_rack rack members) (weights-rack rack members are.weights)))
          ∙ sym (length-owners_of_part owner n rack (part_size buckets n rack));
    }

-- THE MOVES

abbrev pub moves_of_racks : (ℕ → ServerId) → ℕ → ℕ → List Member → List Move
moves_of_racks owner buckets n members = rebalancing_by_parts buckets n (rack_part owner buckets n members)

pub racks-made : (owner : ℕ → ServerId) (buckets n : ℕ) (members : List Member) → 0 < n
    → RebalanceParts buckets n (rack_part owner buckets n members) (moves_of_racks owner buckets n members)
racks-made owner buckets n members some =
    by_parts buckets n (rack_part owner buckets n members) (AreSizes-racks owner buckets n members some)

-- a bucket goes where the rebalancing of its rack brings it
pub target-racks : (owner : ℕ → ServerId) (buckets n : ℕ) (members : List Member) → 0 < n → (b : ℕ)
    → target (moves_of_racks owner buckets n members) b
    ≡ target (rebalancing_of (rack_part owner buckets n members (b % n))) (b / n)
target-racks owner buckets n members some b =
    ap (target (moves_of_racks owner buckets n members)) (sym (div-add-mod' b n))
    ∙ sym (target-part n (b % n) (mod-lt b some) (moves_of_racks owner buckets n members) (b / n))
    ∙ ap (λ (ms : List Move). target ms (b / n)) ((racks-made owner buckets n members some).each (b % n) (mod-lt b some))

-- no move brings a bucket where it is
apart-at : (server : ℕ → ServerId) (moves : List Move) → bucket_already_there server moves ≡ None → (b : ℕ)
    → IfSome (target moves b) (λ to. same_server (server b) to ≡ false)
apart-at server [] none b = tt
apart-at server (m ∷ moves) none b =
    elim (cases_Bool (same_server (server m.bucket) m.to)) [
      | inl same ↦ let e : ◌≡◌ {A = Option ℕ} (Some m.bucket) None = rw same at none in absurd (cc e)
      | inr apart ↦
          let rest : bucket_already_there server moves ≡ None = rw apart at none
          in elim (cases_eq m.bucket b) [
            | inl here ↦ rw (eq-eqb m.bucket b here)
                (subst (λ x. same_server (server x) m.to ≡ false) here apart)
            | inr other ↦ rw (ne_eqb m.bucket b other) (apart-at server moves rest b)
          ]
    ]

all-apart : (server : ℕ → ServerId) (low : ℕ) (moves : List Move) → Ascend low moves
    → ((b : ℕ) → IfSome (target moves b) (λ to. same_server (server b) to ≡ false))
    → bucket_already_there server moves ≡ None
all-apart server low [] up apart = refl
all-apart server low (m ∷ moves) up apart =
    let here : IfSome (target (m ∷ moves) m.bucket) (λ to. same_server (server m.bucket) to ≡ false) = apart m.bucket
    in let head : same_server (server m.bucket) m.to ≡ false = rw (eq-eqb m.bucket m.bucket refl) at here
    in rw head (all-apart server (m.bucket + 1) moves up.1 rest)
  where
    rest : (b : ℕ) → IfSome (target moves b) (λ to. same_server (server b) to ≡ false)
    rest b =
        elim (cases_eq m.bucket b) [
          | inl same ↦
              let none : target moves b ≡ None = none-below (m.bucket + 1) moves up.1 b (omega arith)
              in rw none tt
          | inr other ↦
              let all : IfSome (target (m ∷ moves) b) (λ to. same_server (server b) to ≡ false) = apart b
              in rw (ne_eqb m.bucket b other) at all
        ]

pub racks-changes : (owner : ℕ → ServerId) (buckets n : ℕ) (members : List Member) → AreRacks n members
    → bucket_already_there owner (moves_of_racks owner buckets n members) ≡ None
racks-changes owner buckets n members are =
    all-apart owner 0 (moves_of_racks owner buckets n members)
    (ascend buckets 0 (moves_of_racks owner buckets n members) (racks-made owner buckets n members are.some).rise)
    (λ b. subst (λ o. IfSome o (λ to. same_server (owner b) to ≡ false))
    (sym (target-racks owner buckets n members are.some b)) (apart b))
  where
    apart : (b : ℕ) → IfSome (target (rebalancing_of (rack_part owner buckets n members (b % n))) (b / n))
        (λ to. same_server (owner b) to ≡ false)
    apart b =
        subst (λ x. IfSome (target (rebalancing_of (rack_part owner buckets n members (b % n))) (b / n))
        (λ to. same_server (owner x) to ≡ false)) (div-add-mod' b n)
        (apart-at (λ j. owner (j * n + b % n)) (rebalancing_of (rack_part owner buckets n members (b % n)))
        (rebalancing-changes (λ j. owner (j * n + b % n)) (rack_part owner buckets n members (b % n)).owners
        (rack_part owner buckets n members (b % n)).active (rack_part owner buckets n members (b % n)).quotas
        (rising-rack (b % n) members are.rising)
        (Serves-range (λ j. owner (j * n + b % n)) 0 (part_size buckets n (b % n)))) (b / n))

-- each move is to a member
pub racks-targets : (owner : ℕ → ServerId) (buckets n : ℕ) (members : List Member) → AreRacks n members → (b : ℕ)
    → IfSome (target (moves_of_racks owner buckets n members) b) (λ to. is_among (servers_of members) to ≡ true)
racks-targets owner buckets n members are b =
    subst (λ o. IfSome o (λ to. is_among (servers_of members) to ≡ true))
    (sym (target-racks owner buckets n members are.some b))
    (some_to (is_among (servers_of (in_rack (b % n) members))) (is_among (servers_of members))
    (λ s. among-members (λ m. eqb m.rack (b % n)) members s)
    (target (rebalancing_of (rack_part owner buckets n members (b % n))) (b / n))
    (rebalancing-targets (rack_part owner buckets n members (b % n)).owners
    (rack_part owner buckets n members (b % n)).active (rack_part owner buckets n members (b % n)).quotas
    (rising-rack (b % n) members are.rising) (b / n)))

-- THE OWNERS AFTER MOVES

-- after any moves the owners of a rack's buckets are those after its own
owners-after_part : (owner : ℕ → ServerId) (n part count : ℕ) → part < n → (moves : List Move)
    → owners_after (moves_of_part n part moves) 0 (owners_of_part owner n part count)
    ≡ owners_of_part (λ b. unwrap_or (target moves b) (owner b)) n part count
owners-after_part owner n part count below moves =
    owners_after-range (moves_of_part n part moves) (λ j. owner (j * n + part)) 0 count
    ∙ ap (λ (f : ℕ → ServerId). map f (range_with_len 0 count))
    (λ i j. unwrap_or (target-part n part below moves j i) (owner (j * n + part)))

pub reach-own : (owner : ℕ → ServerId) (buckets n : ℕ) (members : List Member) (moves : List Move)
    → ReachParts n (rack_part owner buckets n members) moves
    → OwnQuotas (λ b. unwrap_or (target moves b) (owner b)) buckets n members
reach-own owner buckets n members moves reach rack below s =
    ap (λ (os : List ServerId). owned os s)
    (sym (owners-after_part owner n rack (part_size buckets n rack) below moves))
    ∙ reach rack below s

pub own-reach : (owner : ℕ → ServerId) (buckets n : ℕ) (members : List Member) (moves : List Move)
    → OwnQuotas (λ b. unwrap_or (target moves b) (owner b)) buckets n members
    → ReachParts n (rack_part owner buckets n members) moves
own-reach owner buckets n members moves own rack below s =
    ap (λ (os : List ServerId). owned os s) (owners-after_part owner n rack (part_size buckets n rack) below moves)
    ∙ own rack below s

pub racks-own : (owner : ℕ → ServerId) (buckets n : ℕ) (members : List Member) → AreRacks n members
    → OwnQuotas (λ b. unwrap_or (target (moves_of_racks owner buckets n members) b) (owner b)) buckets n members
racks-own owner buckets n members are =
    reach-own owner buckets n members (moves_of_racks owner buckets n members)
    (parts-reach buckets n (rack_part owner buckets n members) (moves_of_racks owner buckets n members)
    (ArePartsQuotas-racks owner buckets n members are) (racks-made owner buckets n members are.some))

pub racks-least : (owner : ℕ → ServerId) (buckets n : ℕ) (members : List Member) → AreRacks n members
    → (others : List Move) → OwnQuotas (λ b. unwrap_or (target others b) (owner b)) buckets n members
    → length (moves_of_racks owner buckets n members) ≤ length others
racks-least owner buckets n members are others own =
    parts-least buckets n are.some (rack_part owner buckets n members) (moves_of_racks owner buckets n members)
    (ArePartsQuotas-racks owner buckets n members are) (racks-made owner buckets n members are.some) others
    (own-reach owner buckets n members others own)

-- where each rack's servers own their quotas, each bucket is at one of its rack
pub own-home : (owner : ℕ → ServerId) (buckets n : ℕ) (members : List Member) → 0 < n
    → OwnQuotas owner buckets n members → (b : ℕ) → b < buckets
    → is_among (servers_of (in_rack (b % n) members)) (owner b) ≡ true
own-home owner buckets n members some own b h =
    elim (cases_Bool (is_among (servers_of (in_rack (b % n) members)) (owner b))) [
      | inl home ↦ home
      | inr away ↦
          let none = own (b % n) (mod-lt b some) (owner b)
          ∙ quota_of-outside (rack_part owner buckets n members (b % n)).active
          (rack_part owner buckets n members (b % n)).quotas (owner b) away
          in absurd (owned-none (λ j. owner (j * n + b % n)) 0 (part_size buckets n (b % n)) (owner b) none (b / n)
          (omega arith) (omega (arith, number-within buckets n b some h)) (ap owner (div-add-mod' b n)))
    ]

pub home-among : (members : List Member) (rack : ℕ) (s : ServerId)
    → is_among (servers_of (in_rack rack members)) s ≡ true → is_among (servers_of members) s ≡ true
home-among members rack s home = among-members (λ m. eqb m.rack rack) members s home

-- OWNERS IN A LIST

same-below : (f g : ℕ → ServerId) (b n : ℕ) → ((x : ℕ) → b ≤ x → x < b + n → f x ≡ g x)
    → map f (range_with_len b n) ≡ map g (range_with_len b n)
same-below f g b zero same = refl
same-below f g b (suc n) same =
    ap (λ (s : ServerId). s ∷ map f (range_with_len (b + 1) n)) (same b (omega arith) (omega arith))
    ∙ ap (λ (xs : List ServerId). g b ∷ xs)
    (same-below f g (b + 1) n (λ x low high. same x (omega arith) (omega arith)))

part-same : (f g : ℕ → ServerId) (buckets n : ℕ) (members : List Member) (rack : ℕ) → rack < n
    → ((b : ℕ) → b < buckets → f b ≡ g b) → rack_part f buckets n members rack ≡ rack_part g buckets n members rack
part-same f g buckets n members rack below same =
    let owners : owners_of_part f n rack (part_size buckets n rack) ≡ owners_of_part g n rack (part_size buckets n rack) =
    same-below (λ j. f (j * n + rack)) (λ j. g (j * n + rack)) 0 (part_size buckets n rack)
    (λ j low high. same (j * n + rack) (part-within buckets n rack j below (omega arith)))
    in λ i. record {
      owners = owners i;
      active = servers_of (in_rack rack members);
      quotas = quotas_of (part_size buckets n rack) (weight_of (in_rack rack members))
          (servers_of (in_rack rack members));
    }

moves-below : (f g : ℕ → ServerId) (buckets n : ℕ) (members : List Member) → 0 < n
    → ((b : ℕ) → b < buckets → f b ≡ g b)
    → moves_of_racks f buckets n members ≡ moves_of_racks g buckets n members
moves-below f g buckets n members some same =
    ap (λ (to : ℕ → Option ServerId). listed to 0 buckets)
    (λ i b. target (rebalancing_of (part-same f g buckets n members (b % n) (mod-lt b some) same i)) (b / n))

pub moves-list : (owner : ℕ → ServerId) (buckets n : ℕ) (members : List Member) → 0 < n → (owners : List ServerId)
    → owners ≡ map owner (range_with_len 0 buckets)
    → moves_of_racks (λ b. get_or owners b (record { 0 = 0 })) (length owners) n members
    ≡ moves_of_racks owner buckets n members
moves-list owner buckets n members some owners are =
    ap (λ k. moves_of_racks (λ b. get_or owners b (record { 0 = 0 })) k n members)
    (ap length are ∙ length-map-range_with_len owner 0 buckets)
    ∙ moves-below (λ b. get_or owners b (record { 0 = 0 })) owner buckets n members some
    (λ b below. ap (λ (xs : List ServerId). get_or xs b (record { 0 = 0 })) are
    ∙ get_or-map-range_with_len owner 0 buckets b b (record { 0 = 0 }) below (omega arith))

-- ONE RACK

pub all-in_one : (members : List Member) → All (HasRack 1) members → in_rack 0 members ≡ members
all-in_one [] all = refl
all-in_one (m ∷ members) all =
    let head : m.rack < 1 = All-head (HasRack 1) m members all
    in rw (eq-eqb m.rack 0 (omega arith))
    (ap (λ (ms : List Member). m ∷ ms) (all-in_one members (All-tail (HasRack 1) m members all)))

pub racks-one : (owner : ℕ → ServerId) (buckets : ℕ) (members : List Member) → All (HasRack 1) members
    → moves_of_racks owner buckets 1 members
    ≡ rebalancing (map owner (range_with_len 0 buckets)) (servers_of members)
    (quotas_of buckets (weight_of members) (servers_of members))
racks-one owner buckets members all =
    parts-one buckets (rack_part owner buckets 1 members) (moves_of_racks owner buckets 1 members)
    (racks-made owner buckets 1 members (omega arith))
    ∙ ap (λ (ms : List Member). rebalancing (rack_part owner buckets 1 members 0).owners (servers_of ms)
    (quotas_of (part_size buckets 1 0) (weight_of ms) (servers_of ms))) (all-in_one members all)
    ∙ ap (λ k. rebalancing (owners_of_part owner 1 0 k) (servers_of members)
    (quotas_of k (weight_of members) (servers_of members))) size
    ∙ ap (λ (f : ℕ → ServerId). rebalancing (map f (range_with_len 0 buckets)) (servers_of members)
    (quotas_of buckets (weight_of members) (servers_of members))) (λ i j. owner (place j i))
  where
    size : part_size buckets 1 0 ≡ buckets
    size = omega arith

    place : (j : ℕ) → j * 1 + 0 ≡ j
    place j = omega arith
