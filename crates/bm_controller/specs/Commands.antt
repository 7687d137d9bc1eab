-- The commands of a controller: what each makes of what the controller knows, the change that it adds
-- to the plan, and why it is refused.
use Rattle.std.specs.Prelude.{ℕ, ◌+◌, ◌%◌, ◌==◌, Bool, not, nat_lt, nat_le, if◌then◌else◌, List, []}
use Rattle.std.specs.Prelude.{◌∷◌, ◌++◌, length, Option, Some, None}
use Rattle.bm_base.specs.declared.ids.Moment.{Moment}
use Rattle.bm_base.specs.declared.ids.ServerId.{ServerId}
use Rattle.bm_controller.specs.declared.members.Member.{Member}
use Rattle.bm_controller.specs.declared.refusal.RackRefusal.{RackRefusal}
use Rattle.bm_controller.specs.declared.refusal.RackRefusal.TheVariants.{Base, LastInRack, WrongRack}
use Rattle.bm_controller.specs.Controlled.{Controlled, in_rack, is_member, rack_of, reweighed}
use Rattle.bm_controller.specs.Controlled.{servers_of, weight_of, with_member, without_member}
use Rattle.bm_controller.specs.Membership.{knows}
use Rattle.bm_controller.specs.Racks.{rack_part, IsRebalanced}
use Rattle.bm_quota.specs.declared.refusal.Refusal.TheVariants.{KnownServer, UnknownServer}
use Rattle.bm_quota.specs.declared.refusal.Refusal.TheVariants.{NotActive, LastServer, BadBucket}
use Rattle.bm_quota.specs.declared.refusal.Refusal.TheVariants.{SameServer, StampFell, TooMany}
use Rattle.bm_quota.specs.Parts.{rebalancing_by_parts}
use Rattle.bm_quota.specs.Rebalancing.{quotas_of, rebalancing}
use Rattle.bm_table.specs.declared.plan.Change.{Change}
use Rattle.bm_table.specs.declared.plan.Kind.{Kind}
use Rattle.bm_table.specs.declared.plan.Kind.TheVariants.{Add, Drain, Shift}
use Rattle.bm_table.specs.declared.plan.Limit.TheVariants.{Changes, Moves}
use Rattle.bm_table.specs.Planned.{Planned}
use Rattle.bm_table.specs.Plans.{last_moment, owners_now, server_now, total_moves, with_change}
use Rattle.bm_table.specs.Tables.{same_server}

pub data Command : Type 0 where
  -- a server with its weight becomes active in a rack
  AddServer : ServerId → ℕ → ℕ → Command
  DrainServer : ServerId → Command
  -- an active server gets another weight
  WeighServer : ServerId → ℕ → Command
  -- a bucket goes to an active server
  MoveBucket : ℕ → ServerId → Command

-- WHAT A COMMAND MAKES

-- the members after a command
abbrev pub members_after : Command → List Member → List Member
members_after (AddServer s weight rack) members =
    with_member (record { server = s; weight = weight; rack = rack }) members
members_after (DrainServer s) members = without_member s members
members_after (WeighServer s weight) members = reweighed s weight members
members_after (MoveBucket bucket s) members = members

-- The change that brings the members of each rack, as they are after it, to their quotas of the
-- rack's buckets. Each rack is rebalanced by itself; the moves of all racks rise by their bucket.
abbrev pub change_to : Planned → ℕ → Moment → Kind → List Member → Change
change_to plan racks at kind members = record {
  moment = at;
  kind = kind;
  moves = rebalancing_by_parts plan.buckets racks
      (rack_part (server_now plan) plan.buckets racks members);
}

-- the change that brings them to their quotas of all buckets: the same, where there is one rack
abbrev pub change_of_all : Planned → Moment → Kind → List Member → Change
change_of_all plan at kind members = record {
  moment = at;
  kind = kind;
  moves = rebalancing (owners_now plan) (servers_of members)
      (quotas_of plan.buckets (weight_of members) (servers_of members));
}

-- the change that a command makes
abbrev pub change_of : Controlled → Moment → Command → Change
change_of c at (AddServer s weight rack) =
    change_to c.plan c.racks at (Add s) (members_after (AddServer s weight rack) c.members)
change_of c at (DrainServer s) =
    change_to c.plan c.racks at (Drain s) (members_after (DrainServer s) c.members)
change_of c at (WeighServer s weight) =
    change_to c.plan c.racks at Shift (members_after (WeighServer s weight) c.members)
change_of c at (MoveBucket bucket s) =
    record { moment = at; kind = Shift; moves = record { bucket = bucket; to = s } ∷ [] }

-- a controller after a command that it accepted
abbrev pub after : Controlled → Moment → Command → Controlled
after c at command = record {
  plan = with_change c.plan (change_of c at command);
  racks = c.racks;
  members = members_after command c.members;
}

-- what a command that it accepted, an add, a drain or a weight, reaches
abbrev pub Rebalances : Controlled → Moment → Command → Type 0
Rebalances c at command = IsRebalanced c.plan (change_of c at command) (after c at command)

-- WHY A COMMAND IS REFUSED

abbrev pub when : Bool → RackRefusal → Option RackRefusal
when test refusal = if test then Some refusal else None

abbrev pub first_refusal : List (Option RackRefusal) → Option RackRefusal
first_refusal [] = None
first_refusal (None ∷ refusals) = first_refusal refusals
first_refusal (Some refusal ∷ refusals) = Some refusal

-- a server that isn't active
abbrev pub unless_active : Controlled → ServerId → List (Option RackRefusal)
unless_active c s =
    when (not (knows c.plan s)) (Base UnknownServer)
    ∷ when (not (is_member c.members s)) (Base NotActive)
    ∷ []

-- the only active server of all, or of its rack
abbrev pub if_last : Controlled → ServerId → List (Option RackRefusal)
if_last c s =
    when (nat_le (length c.members) 1) (Base LastServer)
    ∷ when (nat_le (length (in_rack (rack_of c.members s) c.members)) 1) LastInRack
    ∷ []

-- a server of another rack than the bucket's, or the one at which the bucket is
abbrev pub unless_fits : Controlled → ℕ → ServerId → List (Option RackRefusal)
unless_fits c bucket s =
    when (not (rack_of c.members s == bucket % c.racks)) WrongRack
    ∷ when (same_server (server_now c.plan bucket) s) (Base SameServer)
    ∷ []

-- what its servers and its bucket say against a command
abbrev pub unfit : Controlled → Command → List (Option RackRefusal)
unfit c (AddServer s weight rack) = when (knows c.plan s) (Base KnownServer) ∷ []
unfit c (DrainServer s) = unless_active c s ++ if_last c s
unfit c (WeighServer s weight) = unless_active c s
unfit c (MoveBucket bucket s) =
    when (nat_le c.plan.buckets bucket) (Base BadBucket) ∷ unless_active c s ++ unless_fits c bucket s

-- a moment below the last, and the limits of a plan to which a change with this many moves is added
abbrev pub limits : Planned → Moment → ℕ → List (Option RackRefusal)
limits plan at count =
    when (nat_lt at.0 (last_moment plan)) (Base StampFell)
    ∷ when (nat_le 4096 (length plan.changes)) (Base (TooMany Changes))
    ∷ when (nat_lt 1000000 (total_moves plan.changes + count)) (Base (TooMany Moves))
    ∷ []

-- why a command that makes this many moves is refused, apart from `Memory`
abbrev pub refused : Controlled → Moment → Command → ℕ → Option RackRefusal
refused c at command count = first_refusal (unfit c command ++ limits c.plan at count)

-- why a command is refused, apart from `Memory`
abbrev pub refusal : Controlled → Moment → Command → Option RackRefusal
refusal c at command = refused c at command (length (change_of c at command).moves)
