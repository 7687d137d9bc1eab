-- A controller as contracts see it, and its members: the active servers, each with its weight and its
-- rack.
use Rattle.std.specs.Prelude.{ℕ, ◌==◌, not, nat_lt, Bool, if◌then◌else◌, List, [], ◌∷◌, ◌++◌, filter}
use Rattle.std.specs.Prelude.{map}
use Rattle.std.specs.List.{list_any, zip}
use Rattle.bm_base.specs.declared.ids.ServerId.{ServerId}
use Rattle.bm_controller.specs.declared.members.Member.{Member}
use Rattle.bm_quota.specs.Rebalancing.{quota_of}
use Rattle.bm_table.specs.Planned.{Planned}
use Rattle.bm_table.specs.Tables.{same_server}

-- What the commands that it accepted made of it. Which servers are known, its plan says.
pub record Controlled : Type 0 where
  pub plan : Planned
  -- how many racks there are
  pub racks : ℕ
  -- in the order of their numbers
  pub members : List Member

-- each of these servers with the weight and the rack at its place
abbrev pub members_of : List ServerId → List ℕ → List ℕ → List Member
members_of servers weights racks =
    map (λ p. record { server = p.0.0; weight = p.0.1; rack = p.1 }) (zip (zip servers weights) racks)

abbrev pub servers_of : List Member → List ServerId
servers_of members = map (λ m. m.server) members

abbrev pub weights_of : List Member → List ℕ
weights_of members = map (λ m. m.weight) members

-- the weight of a member, and 0 for any other server
abbrev pub weight_of : List Member → ServerId → ℕ
weight_of members = quota_of (servers_of members) (weights_of members)

-- the rack of a member, and 0 for any other server
abbrev pub rack_of : List Member → ServerId → ℕ
rack_of [] s = 0
rack_of (m ∷ members) s = if same_server m.server s then m.rack else rack_of members s

-- the members in this rack
abbrev pub in_rack : ℕ → List Member → List Member
in_rack rack members = filter (λ m. m.rack == rack) members

abbrev pub is_member : List Member → ServerId → Bool
is_member members s = list_any (λ m. same_server m.server s) members

-- the members with this one; it takes the place of a member with its number
abbrev pub with_member : Member → List Member → List Member
with_member m members =
    filter (λ t. nat_lt t.server.0 m.server.0) members
    ++ m ∷ filter (λ t. nat_lt m.server.0 t.server.0) members

-- the members without this server
abbrev pub without_member : ServerId → List Member → List Member
without_member s members = filter (λ t. not (same_server t.server s)) members

-- a member, with another weight if it is this server
abbrev pub with_weight : ServerId → ℕ → Member → Member
with_weight s weight m = if same_server m.server s then record m { weight = weight } else m

-- the members, where this server has another weight
abbrev pub reweighed : ServerId → ℕ → List Member → List Member
reweighed s weight members = map (with_weight s weight) members
