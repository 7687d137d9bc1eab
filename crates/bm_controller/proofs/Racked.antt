-- Members stay in the racks that a rule names, and are the plan's active servers.
use Rattle.std.proofs.Common.{◌≡◌, ℕ, ◌%◌, true, ◌||◌, ◌==◌, inl, inr, List, [], ◌∷◌, length, map}
use Rattle.std.proofs.Common.{refl, ap, sym, ◌∙◌, subst}
use Rattle.std.proofs.lemmas.Bool.{cases_Bool, eqb-true}
use Rattle.std.proofs.lemmas.List.{length-map}
use Rattle.std.proofs.lemmas.List.Elements.{All-cons, All-head, All-nil, All-tail}
use Rattle.std.specs.List.{All}
use Rattle.std.specs.Prelude.{OnErr, OnOk, Result, Ok, Err}
use Rattle.bm_base.specs.declared.ids.Moment.{Moment}
use Rattle.bm_base.specs.declared.ids.ServerId.{ServerId}
use Rattle.bm_controller.proofs.MemberFacts.{member-is, servers-opening, servers-with, servers-without}
use Rattle.bm_controller.proofs.MemberPlans.{active_now-push}
use Rattle.bm_controller.proofs.RackFacts.{all-reweighed, all-with, all-without, servers-reweighed}
use Rattle.bm_controller.specs.Commands.{after, change_of, members_after, Command, Rebalances}
use Rattle.bm_controller.specs.Commands.Command.{AddServer, DrainServer, MoveBucket, WeighServer}
use Rattle.bm_controller.specs.Controlled.{in_rack, is_member, members_of, servers_of, Controlled}
use Rattle.bm_controller.specs.declared.members.Member.{Member}
use Rattle.bm_controller.specs.Membership.{active_now, with_server, without_server}
use Rattle.bm_controller.specs.Racks.{IsHome, IsRacked}
use Rattle.bm_quota.proofs.RoomLemmas.{cases_server}
use Rattle.bm_table.specs.Plans.{server_now, with_change}
use Rattle.bm_table.specs.Tables.{is_among, same_server}

-- a member's server stands in the rack that the rule names
abbrev pub Stands : (ServerId → ℕ) → Member → Type 0
Stands rack m = m.rack ≡ rack m.server

-- THE OPENING

all_stand : (rack : ServerId → ℕ) (servers : List ServerId) (weights : List ℕ)
    → All (Stands rack) (members_of servers weights (map rack servers))
all_stand rack [] weights = All-nil (Stands rack)
all_stand rack (s ∷ servers) [] = All-nil (Stands rack)
all_stand rack (s ∷ servers) (w ∷ weights) =
    All-cons (Stands rack) (record { server = s; weight = w; rack = rack s })
    (members_of servers weights (map rack servers)) refl (all_stand rack servers weights)

pub racked_opening : (rack : ServerId → ℕ) (buckets racks : ℕ) (servers : List ServerId) (weights : List ℕ)
    → length weights ≡ length servers
    → IsRacked rack (record {
      plan = record { buckets = buckets; servers = servers; changes = [] };
      racks = racks;
      members = members_of servers weights (map rack servers);
    })
racked_opening rack buckets racks servers weights count = record {
  racks = all_stand rack servers weights;
  members = servers-opening servers weights (map rack servers) count (length-map servers rack);
}

-- A COMMAND

-- a server that is added stands in the rack that the rule names
abbrev pub AddsTo : (ServerId → ℕ) → Command → Type 0
AddsTo rack (AddServer s weight r) = r ≡ rack s
AddsTo rack (DrainServer s) = Unit {0}
AddsTo rack (WeighServer s weight) = Unit {0}
AddsTo rack (MoveBucket bucket s) = Unit {0}

members_racked : (rack : ServerId → ℕ) (members : List Member) (command : Command) → AddsTo rack command
    → All (Stands rack) members → All (Stands rack) (members_after command members)
members_racked rack members (AddServer s weight r) adds all =
    all-with (Stands rack) (record { server = s; weight = weight; rack = r }) members adds all
members_racked rack members (DrainServer s) adds all = all-without (Stands rack) s members all
members_racked rack members (WeighServer s weight) adds all =
    all-reweighed (Stands rack) s weight (λ m stands. stands) members all
members_racked rack members (MoveBucket bucket s) adds all = all

members_active : (c : Controlled) (at : Moment) (command : Command) → servers_of c.members ≡ active_now c.plan
    → servers_of (members_after command c.members) ≡ active_now (with_change c.plan (change_of c at command))
members_active c at (AddServer s weight r) are =
    servers-with (record { server = s; weight = weight; rack = r }) c.members
    ∙ ap (with_server s) are
    ∙ sym (active_now-push c.plan (change_of c at (AddServer s weight r)))
members_active c at (DrainServer s) are =
    servers-without s c.members ∙ ap (without_server s) are
    ∙ sym (active_now-push c.plan (change_of c at (DrainServer s)))
members_active c at (WeighServer s weight) are =
    servers-reweighed s weight c.members ∙ are ∙ sym (active_now-push c.plan (change_of c at (WeighServer s weight)))
members_active c at (MoveBucket bucket s) are =
    are ∙ sym (active_now-push c.plan (change_of c at (MoveBucket bucket s)))

pub racked_after : (rack : ServerId → ℕ) (c : Controlled) (at : Moment) (command : Command) → AddsTo rack command
    → IsRacked rack c → IsRacked rack (after c at command)
racked_after rack c at command adds racked = record {
  racks = members_racked rack c.members command adds racked.racks;
  members = members_active c at command racked.members;
}

-- WHERE BUCKETS ARE

-- a server among the members of a rack stands there, and is a member
rack_here : (rack : ServerId → ℕ) (r : ℕ) (members : List Member) (s : ServerId) → All (Stands rack) members
    → is_member (in_rack r members) s ≡ true → (is_member members s ≡ true) × (rack s ≡ r)
rack_here rack r [] s all is = absurd (cc)
rack_here rack r (m ∷ members) s all is = elim (cases_Bool (m.rack == r)) [
  | inl own ↦
      let there : (same_server m.server s || is_member (in_rack r members) s) ≡ true = rw own at is
      in elim (cases_server m.server s) [
        | inl same ↦
            let stands = All-head (Stands rack) m members all
            in (rw same.0 refl, ap rack (sym same.1) ∙ sym stands ∙ eqb-true m.rack r own)
        | inr other ↦
            let later = rack_here rack r members s (All-tail (Stands rack) m members all) (rw other.0 at there)
            in (rw (other.0, later.0) refl, later.1)
      ]
  | inr apart ↦
      let later = rack_here rack r members s (All-tail (Stands rack) m members all) (rw apart at is)
      in (
        elim (cases_Bool (same_server m.server s)) [ inl same ↦ rw same refl | inr other ↦ rw (other, later.0) refl ],
        later.1,
      )
]

pub home_after : (rack : ServerId → ℕ) (c : Controlled) (at : Moment) (command : Command) → AddsTo rack command
    → IsRacked rack c → Rebalances c at command → IsHome rack (after c at command)
home_after rack c at command adds racked rebalanced b below =
    let now = racked_after rack c at command adds racked
    in let new = after c at command
    in let here = rack_here rack (b % c.racks) new.members (server_now new.plan b) now.racks (rebalanced.home b below)
    in (
      ap (λ (servers : List ServerId). is_among servers (server_now new.plan b)) (sym now.members)
          ∙ sym (member-is (server_now new.plan b) new.members)
          ∙ here.0,
      here.1,
    )

-- A RESULT

-- after a command that was accepted or refused
pub racked_result : {A B : Type 0} → (rack : ServerId → ℕ) (old new : Controlled) (at : Moment) (command : Command)
    (result : Result A B) → OnOk result (new ≡ after old at command) → OnErr result (new ≡ old) → AddsTo rack command
    → IsRacked rack old → IsRacked rack new
racked_result rack old new at command (Ok x) is same adds racked =
    subst (λ (c : Controlled). IsRacked rack c) (sym is) (racked_after rack old at command adds racked)
racked_result rack old new at command (Err e) is same adds racked =
    subst (λ (c : Controlled). IsRacked rack c) (sym same) racked

pub home_result : {A B : Type 0} → (rack : ServerId → ℕ) (old new : Controlled) (at : Moment) (command : Command)
    (result : Result A B) → OnOk result (new ≡ after old at command) → OnOk result (Rebalances old at command)
    → AddsTo rack command → IsRacked rack old → OnOk result (IsHome rack new)
home_result rack old new at command (Ok x) is rebalanced adds racked =
    subst (λ (c : Controlled). IsHome rack c) (sym is) (home_after rack old at command adds racked rebalanced)
home_result rack old new at command (Err e) is rebalanced adds racked = tt
