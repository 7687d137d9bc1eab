-- Quotas of servers, and the list of moves that meets them.
use Rattle.std.specs.Prelude.{◌≡◌, ◌<◌, ℕ, zero, suc, ◌+◌, ◌-◌, ◌*◌, ◌/◌, ◌%◌, nat_lt, nat_le, ◌==◌}
use Rattle.std.specs.Prelude.{Bool, ◌&&◌, ◌||◌, if◌then◌else◌, List, [], ◌∷◌, map, sum_by, count_by}
use Rattle.std.specs.Prelude.{replicate, unwrap_or}
use Rattle.std.specs.List.{flat_map, range_with_len}
use Rattle.bm_base.specs.declared.ids.ServerId.{ServerId}
use Rattle.bm_table.specs.declared.plan.Move.{Move}
use Rattle.bm_table.specs.Tables.{same_server, target}

-- THE QUOTAS, by the largest remainder method (Hamilton's)

-- how many whole buckets are due to a server by its weight
abbrev pub share : ℕ → (ServerId → ℕ) → List ServerId → ServerId → ℕ
share buckets weight active s = buckets * weight s / sum_by weight active

-- what is due to it beyond these; a bucket has as many parts as the active weights sum to
abbrev pub remainder : ℕ → (ServerId → ℕ) → List ServerId → ServerId → ℕ
remainder buckets weight active s = buckets * weight s % sum_by weight active

-- how many buckets the shares leave
abbrev pub shortfall : ℕ → (ServerId → ℕ) → List ServerId → ℕ
shortfall buckets weight active = buckets - sum_by (share buckets weight active) active

-- a larger remainder comes first; at equal remainders the lower number does
abbrev pub comes_before : (ServerId → ℕ) → ServerId → ServerId → Bool
comes_before remainder t s =
    nat_lt (remainder s) (remainder t) || remainder t == remainder s && nat_lt t.0 s.0

-- fewer servers come before it than buckets are left
abbrev pub gets_one_more : ℕ → (ServerId → ℕ) → List ServerId → ServerId → Bool
gets_one_more buckets weight active s =
    nat_lt (count_by (λ t. comes_before (remainder buckets weight active) t s) active)
    (shortfall buckets weight active)

-- its share, and one more bucket if it is among the first
abbrev pub quota : ℕ → (ServerId → ℕ) → List ServerId → ServerId → ℕ
quota buckets weight active s =
    share buckets weight active s + (if gets_one_more buckets weight active s then 1 else 0)

abbrev pub quotas_of : ℕ → (ServerId → ℕ) → List ServerId → List ℕ
quotas_of buckets weight active = map (quota buckets weight active) active

-- A server's quota is less than one bucket off what is due to it. Both sides are multiplied by the
-- weights together.
abbrev pub IsNearShare : ℕ → (ServerId → ℕ) → List ServerId → ServerId → Type 0
IsNearShare buckets weight active s =
    (buckets * weight s < sum_by weight active * quota buckets weight active s + sum_by weight active)
    × (sum_by weight active * quota buckets weight active s < buckets * weight s + sum_by weight active)

-- if all weigh the same: the quotient, and one more for the first servers
abbrev pub equal_quota : ℕ → ℕ → ℕ → ℕ
equal_quota buckets servers i = buckets / servers + (if nat_lt i (buckets % servers) then 1 else 0)

abbrev pub equal_quotas : ℕ → ℕ → List ℕ
equal_quotas buckets servers = map (equal_quota buckets servers) (range_with_len 0 servers)

-- THE MOVES

-- how many buckets the server owns, by the owner of each bucket
abbrev pub owned : List ServerId → ServerId → ℕ
owned [] s = 0
owned (owner ∷ owners) s = if same_server owner s then suc (owned owners s) else owned owners s

-- the quota (or the weight) of an active server, and 0 for any other
abbrev pub quota_of : List ServerId → List ℕ → ServerId → ℕ
quota_of [] quotas s = 0
quota_of (t ∷ active) [] s = 0
quota_of (t ∷ active) (quota ∷ quotas) s =
    if same_server t s then quota else quota_of active quotas s

-- the owner of each bucket, from bucket b on, after the moves
abbrev pub owners_after : List Move → ℕ → List ServerId → List ServerId
owners_after moves b [] = []
owners_after moves b (owner ∷ owners) =
    unwrap_or (target moves b) owner ∷ owners_after moves (b + 1) owners

-- after the moves each active server owns its quota, and no other server owns a bucket
abbrev pub ReachQuotas : List ServerId → List ServerId → List ℕ → List Move → Type 0
ReachQuotas owners active quotas moves =
    (s : ServerId) → owned (owners_after moves 0 owners) s ≡ quota_of active quotas s

-- how many buckets a server owns above its quota
abbrev pub surplus : List ServerId → List ServerId → List ℕ → ServerId → ℕ
surplus owners active quotas s = owned owners s - quota_of active quotas s

-- the sum of f over the servers with numbers below n
abbrev pub sum_below : (ServerId → ℕ) → ℕ → ℕ
sum_below f zero = 0
sum_below f (suc n) = f (record { 0 = n }) + sum_below f n

-- of the buckets from b on, the highest of each server, as many as it has to give away
abbrev pub highest : (ServerId → ℕ) → ℕ → List ServerId → List ℕ
highest gives b [] = []
highest gives b (owner ∷ owners) =
    if nat_le (owned (owner ∷ owners) owner) (gives owner) then b ∷ highest gives (b + 1) owners
    else highest gives (b + 1) owners

-- the servers in order, each as often as it takes a bucket
abbrev pub takers : (ServerId → ℕ) → List ServerId → List ServerId
takers takes servers = flat_map (λ s. replicate (takes s) s) servers

-- each bucket goes to the server at its place
abbrev pub moves_to : List ℕ → List ServerId → List Move
moves_to [] servers = []
moves_to (b ∷ buckets) [] = []
moves_to (b ∷ buckets) (s ∷ servers) = record { bucket = b; to = s } ∷ moves_to buckets servers

-- Each server gives away its highest buckets, as many as it is above its quota. These buckets, in
-- rising order, go to the servers below their quota, in rising number, each filled before the next.
abbrev pub rebalancing : List ServerId → List ServerId → List ℕ → List Move
rebalancing owners active quotas =
    moves_to (highest (surplus owners active quotas) 0 owners)
    (takers (λ s. quota_of active quotas s - owned owners s) active)
