-- Placement within racks: the rack of bucket b is `b mod racks`, and the servers of each rack share
-- its buckets by their weights.
use Rattle.std.specs.Prelude.{◌≡◌, ℕ, ◌%◌, ◌<◌, ◌≤◌, true, All, List, length, unwrap_or}
use Rattle.bm_base.specs.declared.ids.ServerId.{ServerId}
use Rattle.bm_controller.specs.declared.members.Member.{Member}
use Rattle.bm_controller.specs.Controlled.{in_rack, is_member, servers_of, weight_of, Controlled}
use Rattle.bm_controller.specs.Membership.{active_now, is_active}
use Rattle.bm_quota.specs.Parts.{owners_of_part, part_size, Part}
use Rattle.bm_quota.specs.Rebalancing.{owned, quota_of, quotas_of}
use Rattle.bm_table.specs.declared.plan.Change.{Change}
use Rattle.bm_table.specs.declared.plan.Move.{Move}
use Rattle.bm_table.specs.Planned.{Planned}
use Rattle.bm_table.specs.Plans.{server_now}
use Rattle.bm_table.specs.Tables.{target, IsOrderly}

-- each rack has a member
abbrev pub EachRackHasMember : ℕ → List Member → Type 0
EachRackHasMember racks members = (rack : ℕ) → rack < racks → 0 < length (in_rack rack members)

-- The owners of a rack's buckets, its active servers, and their quotas of these buckets. The server of
-- each bucket is `owner`.
abbrev pub rack_part : (ℕ → ServerId) → ℕ → ℕ → List Member → ℕ → Part
rack_part owner buckets racks members rack = record {
  owners = owners_of_part owner racks rack (part_size buckets racks rack);
  active = servers_of (in_rack rack members);
  quotas = quotas_of (part_size buckets racks rack) (weight_of (in_rack rack members))
      (servers_of (in_rack rack members));
}

-- each rack's servers own their quotas of its buckets, and no other server owns one of them
abbrev pub OwnQuotas : (ℕ → ServerId) → ℕ → ℕ → List Member → Type 0
OwnQuotas owner buckets racks members =
    (rack : ℕ) → rack < racks → (s : ServerId)
    → owned (rack_part owner buckets racks members rack).owners s
    ≡ quota_of (rack_part owner buckets racks members rack).active
    (rack_part owner buckets racks members rack).quotas s

-- the server of a bucket after the moves
abbrev pub server_after : Planned → List Move → ℕ → ServerId
server_after plan moves b = unwrap_or (target moves b) (server_now plan b)

-- what holds of a controller after a change that rebalances, which the plan before it got
pub record IsRebalanced (plan : Planned) (change : Change) (c : Controlled) : Type 0 where
  pub orderly : IsOrderly c.plan
  -- each bucket is at an active server of its own rack
  pub home : (b : ℕ) → b < c.plan.buckets
      → is_member (in_rack (b % c.racks) c.members) (server_now c.plan b) ≡ true
  pub quotas : OwnQuotas (server_now c.plan) c.plan.buckets c.racks c.members
  -- no list of moves that reaches these quotas is shorter
  pub least : (others : List Move)
      → OwnQuotas (server_after plan others) plan.buckets c.racks c.members
      → length change.moves ≤ length others

-- The members stand in the racks that a rule names, and are the servers that are active by the plan.
-- This holds from the opening on, after each command.
pub record IsRacked (rack : ServerId → ℕ) (c : Controlled) : Type 0 where
  pub racks : All (λ m. m.rack ≡ rack m.server) c.members
  pub members : servers_of c.members ≡ active_now c.plan

-- each bucket is at a server that is active by the plan, and that the rule puts into the bucket's
-- own rack
abbrev pub IsHome : (ServerId → ℕ) → Controlled → Type 0
IsHome rack c =
    (b : ℕ) → b < c.plan.buckets → (is_active c.plan (server_now c.plan b) ≡ true)
    × (rack (server_now c.plan b) ≡ b % c.racks)
