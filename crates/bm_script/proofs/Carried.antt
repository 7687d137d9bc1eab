-- A controller that carries out the commands of a script: what it keeps, and what a command reaches.
use Rattle.std.proofs.Common.{◌≡◌, ℕ, ◌%◌, ◌<◌, ◌==◌, Bool, true, false, ◌&&◌, not, nat_le, List, [], ◌∷◌, ◌++◌, length, map}
use Rattle.std.proofs.Common.{Option, Some, None, refl, ap, sym, ◌∙◌, subst, arith}
use Rattle.std.proofs.lemmas.Bool.{leb-false}
use Rattle.std.proofs.lemmas.List.Elements.{All-nil}
use Rattle.std.specs.List.{All}
use Rattle.std.specs.Option.{option_map}
use Rattle.bm_base.specs.declared.ids.Moment.{Moment}
use Rattle.bm_base.specs.declared.ids.ServerId.{ServerId}
use Rattle.bm_controller.proofs.Answered as by
use Rattle.bm_controller.proofs.MemberFacts.{member-is, servers-with, servers-without, weights-opening}
use Rattle.bm_controller.proofs.MemberPlans.{base_of, shift_of, KeepsMembership-shift}
use Rattle.bm_controller.proofs.RackFacts.{all-reweighed, all-with, all-without, each-reweighed, each-with, each-without}
use Rattle.bm_controller.proofs.RackFacts.{servers-reweighed}
use Rattle.bm_controller.proofs.Racked.{home_after, racked_after, racked_opening, AddsTo}
use Rattle.bm_controller.specs.Commands.{after, change_of, change_to, first_refusal, if_last, limits, members_after}
use Rattle.bm_controller.specs.Commands.{refusal, unfit, unless_active, unless_fits, when, Command, Rebalances}
use Rattle.bm_controller.specs.Commands.Command.{AddServer, DrainServer, MoveBucket, WeighServer}
use Rattle.bm_controller.specs.Controlled.{rack_of, servers_of, Controlled}
use Rattle.bm_controller.specs.declared.members.Member.{Member}
use Rattle.bm_controller.specs.declared.refusal.RackRefusal.{RackRefusal}
use Rattle.bm_controller.specs.declared.refusal.RackRefusal.TheVariants.{Base, WrongRack}
use Rattle.bm_controller.specs.Inside.Kinds.{HasWeight, MayCome}
use Rattle.bm_controller.specs.Membership.{active_after, active_now, knows, with_server, without_server, KeepsMembership}
use Rattle.bm_controller.specs.Racks.{EachRackHasMember, IsRacked}
use Rattle.bm_quota.specs.declared.refusal.Refusal.TheVariants.{BadBucket, KnownServer, SameServer}
use Rattle.bm_script.proofs.Fronts.{RiseFrom-lower}
use Rattle.bm_script.proofs.Racked.{each_rack}
use Rattle.bm_script.specs.declared.top.Opening.{Opening}
use Rattle.bm_script.specs.Inside.Openings.{IsOpening}
use Rattle.bm_script.specs.Placed.{IsPlaced}
use Rattle.bm_script.specs.Scripts.{opened}
use Rattle.bm_table.specs.declared.plan.Change.{Change}
use Rattle.bm_table.specs.declared.plan.Kind.{Kind}
use Rattle.bm_table.specs.declared.plan.Kind.TheVariants.{Add, Drain, Shift}
use Rattle.bm_table.specs.declared.plan.PlanFault.{PlanFault}
use Rattle.bm_table.specs.declared.setting.Setting.{Setting}
use Rattle.bm_table.specs.Planned.{Planned}
use Rattle.bm_table.specs.Plans as plans
use Rattle.bm_table.specs.Plans.{server_now, with_change}
use Rattle.bm_table.specs.Settings as settings
use Rattle.bm_table.specs.Settings.{IsWithin}
use Rattle.bm_table.specs.Tables.{is_among, is_drained, same_server}

-- what holds of the controller of a script with these racks, from the opening on
pub record IsCarried (racks : ℕ) (c : Controlled) : Type 0 where
  pub count : c.racks ≡ racks
  pub membership : KeepsMembership c.plan
  pub few : IsWithin 1 c.plan.buckets c.racks
  pub weights : All HasWeight c.members
  pub each : EachRackHasMember c.racks c.members
  pub racked : IsRacked (settings.rack_of racks) c

-- WHAT WASN'T REFUSED

when-none : (test : Bool) (r : RackRefusal) (rest : List (Option RackRefusal)) → first_refusal (when test r ∷ rest) ≡ None
    → (test ≡ false) × (first_refusal rest ≡ None)
when-none true r rest h = absurd (cc)
when-none false r rest h = (refl, h)

none-parts : (xs ys : List (Option RackRefusal)) → first_refusal (xs ++ ys) ≡ None
    → (first_refusal xs ≡ None) × (first_refusal ys ≡ None)
none-parts [] ys h = (refl, h)
none-parts (None ∷ xs) ys h = none-parts xs ys h
none-parts (Some r ∷ xs) ys h = absurd (cc)

no_fault : (o : Option PlanFault) → option_map base_of o ≡ None → o ≡ None
no_fault None h = refl
no_fault (Some fault) h = absurd (cc)

-- A COMMAND

module _ (setting : Setting) (c : Controlled) (kept : IsCarried setting.racks c) (at : Moment) where
  -- a command that rebalances, where its members are those that a rebalancing may be asked for
  placed : (command : Command) (kind : Kind) → MayCome c.plan kind
      → servers_of (members_after command c.members) ≡ active_after kind (active_now c.plan)
      → All HasWeight (members_after command c.members) → EachRackHasMember c.racks (members_after command c.members)
      → AddsTo (settings.rack_of setting.racks) command
      → change_of c at command ≡ change_to c.plan c.racks at kind (members_after command c.members)
      → refusal c at command ≡ None
      → IsPlaced setting c (after c at command) × IsCarried setting.racks (after c at command)
  placed command kind may servers weights each adds makes none =
      let members = members_after command c.members
      in let are = by.are-racks c.plan c.racks kind members kept.membership kept.few servers weights each
      in let limited = subst (λ (d : Change). first_refusal (limits c.plan at (length d.moves)) ≡ None) makes
      (none-parts (unfit c command) (limits c.plan at (length (change_of c at command).moves)) none).1
      in let accepted = no_fault (plans.refusal c.plan (change_to c.plan c.racks at kind members))
      (sym (by.limits-change c.plan c.racks at kind members are) ∙ limited)
      in let membership =
      by.KeepsMembership-change c.plan c.racks kept.membership at kind members may servers are accepted
      in let rebalances : Rebalances c at command =
      by.reached c (by.rebalanced_to c at kind members) at command kind members refl refl makes
      (by.rebalanced-change c.plan c.racks at kind members are membership)
      in let racked = racked_after (settings.rack_of setting.racks) c at command adds kept.racked
      in (
        record {
          change = change_of c at command;
          added = refl;
          racks = kept.count;
          racked = racked;
          home = home_after (settings.rack_of setting.racks) c at command adds kept.racked rebalances;
          rebalanced = rebalances;
        },
        record {
          count = kept.count;
          membership = subst (λ (d : Change). KeepsMembership (with_change c.plan d)) (sym makes) membership;
          few = kept.few;
          weights = weights;
          each = each;
          racked = racked;
        },
      )

  pub add-placed : (s : ServerId) (weight rack : ℕ) → IsWithin 1 1024 s.0 → IsWithin 1 1000 weight
      → rack ≡ settings.rack_of setting.racks s → refusal c at (AddServer s weight rack) ≡ None
      → IsPlaced setting c (after c at (AddServer s weight rack))
      × IsCarried setting.racks (after c at (AddServer s weight rack))
  add-placed s weight rack number within is none =
      let m : Member = record { server = s; weight = weight; rack = rack }
      in let unknown = (when-none (knows c.plan s) (Base KnownServer)
      (limits c.plan at (length (change_of c at (AddServer s weight rack)).moves)) none).0
      in let apart = by.unknown_apart c.plan kept.membership s (servers_of c.members) kept.racked.members unknown
      in placed (AddServer s weight rack) (Add s) (number, unknown)
      (servers-with m c.members ∙ ap (with_server s) kept.racked.members)
      (all-with HasWeight m c.members within kept.weights) (each-with c.racks m c.members apart kept.each) is refl none

  pub drain-placed : (s : ServerId) → refusal c at (DrainServer s) ≡ None
      → IsPlaced setting c (after c at (DrainServer s)) × IsCarried setting.racks (after c at (DrainServer s))
  drain-placed s none =
      let fit = none-parts (unless_active c s ++ if_last c s)
      (limits c.plan at (length (change_of c at (DrainServer s)).moves)) none
      in let parts = none-parts (unless_active c s) (if_last c s) fit.0
      in let active : is_among (active_now c.plan) s ≡ true =
      ap (λ (xs : List ServerId). is_among xs s) (sym kept.racked.members) ∙ sym (member-is s c.members)
      ∙ by.active-from c s parts.0
      in let others = by.others-from c s parts.1
      in placed (DrainServer s) (Drain s)
      (active, by.many-active (active_now c.plan) c.members kept.racked.members others.0)
      (servers-without s c.members ∙ ap (without_server s) kept.racked.members)
      (all-without HasWeight s c.members kept.weights)
      (each-without c.racks s c.members
      (by.rising-members (active_now c.plan) c.members kept.racked.members kept.membership.rising) others.1 kept.each)
      tt refl none

  pub weigh-placed : (s : ServerId) (weight : ℕ) → IsWithin 1 1000 weight → refusal c at (WeighServer s weight) ≡ None
      → IsPlaced setting c (after c at (WeighServer s weight))
      × IsCarried setting.racks (after c at (WeighServer s weight))
  weigh-placed s weight within none =
      placed (WeighServer s weight) Shift tt (servers-reweighed s weight c.members ∙ kept.racked.members)
      (all-reweighed HasWeight s weight (λ m _. within) c.members kept.weights)
      (each-reweighed c.racks s weight c.members kept.each) tt refl none

  pub move-carried : (bucket : ℕ) (s : ServerId) → refusal c at (MoveBucket bucket s) ≡ None
      → IsCarried setting.racks (after c at (MoveBucket bucket s))
  move-carried bucket s none =
      let parts = none-parts (unfit c (MoveBucket bucket s)) (limits c.plan at 1) none
      in let there = when-none (nat_le c.plan.buckets bucket) (Base BadBucket) (unless_active c s ++ unless_fits c bucket s)
      parts.0
      in let fit = none-parts (unless_active c s) (unless_fits c bucket s) there.1
      in let home = when-none (not (rack_of c.members s == bucket % c.racks)) WrongRack
      (when (same_server (server_now c.plan bucket) s) (Base SameServer) ∷ []) fit.1
      in let apart = when-none (same_server (server_now c.plan bucket) s) (Base SameServer) [] home.1
      in let active : is_among (active_now c.plan) s ≡ true =
      ap (λ (xs : List ServerId). is_among xs s) (sym kept.racked.members) ∙ sym (member-is s c.members)
      ∙ by.active-from c s fit.0
      in let accepted = no_fault (plans.refusal c.plan (shift_of at bucket s))
      (sym (by.limits-shift c.plan at bucket s (leb-false _ _ there.0) apart.0) ∙ parts.1)
      in record {
        count = kept.count;
        membership = KeepsMembership-shift c.plan kept.membership at bucket s active accepted;
        few = kept.few;
        weights = kept.weights;
        each = kept.each;
        racked = racked_after (settings.rack_of setting.racks) c at (MoveBucket bucket s) tt kept.racked;
      }

-- THE OPENING

and_true : (b : Bool) → b ≡ (b && true)
and_true true = refl
and_true false = refl

membership-opening : (buckets : ℕ) (servers : List ServerId) → IsWithin 1 65536 buckets → 0 < length servers
    → settings.RiseFrom 0 servers
    → KeepsMembership (record { buckets = buckets; servers = servers; changes = [] })
membership-opening buckets servers range some rise = record {
  kept = record {
    buckets = range;
    servers = some;
    rising = rise;
    stamps = λ v w le below. absurd (omega arith);
    changes = λ v b. tt;
    places = All-nil _;
    count = omega arith;
    moves = omega arith;
  };
  orderly = record {
    known = λ v b. tt;
    stamps = λ v w le below. absurd (omega arith);
    changes = λ v b. tt;
    drained = λ n v b s drained le most below. absurd (not_drained n s (omega arith) drained);
  };
  adds = tt;
  rising = rise;
  some = some;
  members = λ s. and_true (is_among servers s);
  left = λ s drained. absurd (not_drained 0 s refl drained);
}
  where
    plan : Planned
    plan = record { buckets = buckets; servers = servers; changes = [] }

    not_drained : (n : ℕ) (s : ServerId) → n ≡ 0 → is_drained plan n s ≡ true → ⊥
    not_drained n s none drained =
        let e : false ≡ true = ap (λ k. is_drained plan k s) (sym none) ∙ drained
        in absurd (cc e)

pub opening-carried : (version : ℕ) (opening : Opening) → IsOpening opening
    → IsCarried opening.setting.racks (opened version opening).controller
opening-carried version opening is = record {
  count = refl;
  membership = membership-opening opening.setting.buckets opening.setting.servers is.setting.buckets
      (omega (arith, is.setting.servers)) (RiseFrom-lower opening.setting.servers is.setting.rising);
  few = (is.setting.racks.0, is.few);
  weights = weights-opening opening.setting.servers opening.weights
      (map (settings.rack_of opening.setting.racks) opening.setting.servers) is.weights;
  each = each_rack opening.setting.racks opening.setting.servers opening.weights is.count is.filled;
  racked = racked_opening (settings.rack_of opening.setting.racks) opening.setting.buckets opening.setting.racks
      opening.setting.servers opening.weights is.count;
}
