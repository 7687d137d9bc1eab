-- What the commands answer, and which servers are known after them.
use Rattle.std.proofs.Common.{◌≡◌, ◌≢◌, ℕ, ◌+◌, ◌%◌, ◌<◌, ◌≤◌, Bool, true, false, ◌&&◌, ◌||◌, not, ltb, leb, List, [], ◌∷◌}
use Rattle.std.proofs.Common.{◌++◌, subst}
use Rattle.std.proofs.Common.{Option, Some, None, length, inl, inr, refl, ap, sym, ◌∙◌, arith}
use Rattle.std.proofs.Common.{replicate, get_or, drop}
use Rattle.std.proofs.Math.ListN.{set}
use Rattle.std.proofs.lemmas.Bool.{both_ways, cases_Bool, cases_lt, and_from, eqb-true, le-leb, leb-false, lt-ltb}
use Rattle.std.proofs.lemmas.List.{at_drop_more, at_drop_all, get_or-set_same, get_or-set_other, get_or-replicate}
use Rattle.std.proofs.lemmas.List.{get_or_past, length-map, length-replicate, length-set}
use Rattle.std.specs.List.{All}
use Rattle.std.specs.Option.{option_map}
use Rattle.bm_base.specs.declared.ids.Moment.{Moment}
use Rattle.bm_base.specs.declared.ids.ServerId.{ServerId}
use Rattle.bm_controller.proofs.MemberFacts.{member-is}
use Rattle.bm_controller.proofs.MemberPlans.{bad_bucket-none, base_of, knows-push, limits-refusal, server_now-push}
use Rattle.bm_controller.proofs.MemberPlans.{shift_of, BringsTo, KeepsMembership-after, RiseFrom-after}
use Rattle.bm_controller.proofs.RackParts.{home-among, own-home, racks-changes, racks-least, racks-made, racks-own}
use Rattle.bm_controller.proofs.RackParts.{racks-targets, AreRacks}
use Rattle.bm_controller.specs.Commands.{after, change_of, change_to, first_refusal, if_last, limits, members_after}
use Rattle.bm_controller.specs.Commands.{refusal as refusal_by, unfit, unless_active, when, Command, Rebalances}
use Rattle.bm_controller.specs.Controlled.{in_rack, is_member, rack_of, servers_of, Controlled}
use Rattle.bm_controller.specs.declared.members.Member.{Member}
use Rattle.bm_controller.specs.declared.refusal.RackRefusal.{RackRefusal}
use Rattle.bm_controller.specs.declared.refusal.RackRefusal.TheVariants.{Base, LastInRack}
use Rattle.bm_controller.specs.Inside.Kinds.{known_after, HasWeight, MayCome}
use Rattle.bm_controller.specs.Membership.{active_after, active_now, has_drained, knows, KeepsMembership}
use Rattle.bm_controller.specs.Racks.{server_after, EachRackHasMember, IsRebalanced, OwnQuotas}
use Rattle.bm_quota.proofs.RoomLemmas.{cases_server}
use Rattle.bm_quota.specs.declared.refusal.Refusal.TheVariants.{LastServer, Memory, NotActive, UnknownServer}
use Rattle.bm_table.specs.declared.plan.Change.{Change}
use Rattle.bm_table.specs.declared.plan.Kind.{Kind}
use Rattle.bm_table.specs.declared.plan.Kind.TheVariants.{Add, Drain, Shift}
use Rattle.bm_table.specs.Settings.{IsWithin, RiseFrom}
use Rattle.bm_table.specs.declared.plan.PlanFault.{PlanFault}
use Rattle.bm_table.specs.declared.plan.PlanFault.TheVariants.{StampFell as stamp_fell, BadBucket as bad_bucket'}
use Rattle.bm_table.specs.declared.plan.PlanFault.TheVariants.{SameServer as same_server', TooMany as too_many}
use Rattle.bm_table.specs.declared.plan.PlanFault.TheVariants.{Memory as memory}
use Rattle.bm_table.specs.Planned.{Planned}
use Rattle.bm_table.specs.Plans.{bad_bucket, bucket_already_there, refusal, server_now, with_change}
use Rattle.bm_table.specs.Plans.{IsRefusal}
use Rattle.bm_table.specs.Tables.{is_add, is_among, same_server}

-- a plan's fault is the refusal, where it isn't want of memory
pub refused_by_plan : (plan : Planned) (c : Change) (fault : PlanFault) → IsRefusal plan c fault
    → base_of fault ≢ Base Memory → option_map base_of (refusal plan c) ≡ Some (base_of fault)
refused_by_plan plan c memory h other = absurd (other refl)
refused_by_plan plan c stamp_fell h other = ap (option_map base_of) h
refused_by_plan plan c (bad_bucket' b) h other = ap (option_map base_of) h
refused_by_plan plan c (same_server' b) h other = ap (option_map base_of) h
refused_by_plan plan c (too_many limit) h other = ap (option_map base_of) h

-- FIRST REFUSALS

pub first-none : (xs ys : List (Option RackRefusal)) → first_refusal xs ≡ None → first_refusal (xs ++ ys) ≡ first_refusal ys
first-none [] ys h = refl
first-none (None ∷ xs) ys h = first-none xs ys h
first-none (Some r ∷ xs) ys h = absurd (cc)

pub first-some : (xs ys : List (Option RackRefusal)) (r : RackRefusal) → first_refusal xs ≡ Some r
    → first_refusal (xs ++ ys) ≡ Some r
first-some [] ys r h = absurd (cc)
first-some (None ∷ xs) ys r h = first-some xs ys r h
first-some (Some x ∷ xs) ys r h = h

pub when-false : (test : Bool) (r : RackRefusal) (ys : List (Option RackRefusal)) → test ≡ false
    → first_refusal (when test r ∷ ys) ≡ first_refusal ys
when-false test r ys e = rw e refl

pub when-true : (test : Bool) (r : RackRefusal) (ys : List (Option RackRefusal)) → test ≡ true
    → first_refusal (when test r ∷ ys) ≡ Some r
when-true test r ys e = rw e refl

-- THE CHANGE OF A COMMAND

-- what a controller is after a rebalancing
abbrev pub rebalanced_to : Controlled → Moment → Kind → List Member → Controlled
rebalanced_to c at kind members = record {
  plan = with_change c.plan (change_to c.plan c.racks at kind members);
  racks = c.racks;
  members = members;
}

-- the members that a rebalancing is asked for
pub are-racks : (plan : Planned) (racks : ℕ) (kind : Kind) (members : List Member) → KeepsMembership plan
    → IsWithin 1 plan.buckets racks → servers_of members ≡ active_after kind (active_now plan)
    → All HasWeight members → EachRackHasMember racks members → AreRacks racks members
are-racks plan racks kind members membership few servers weights each = record {
  some = omega (arith, few);
  rising = subst (RiseFrom 0) (sym servers) (RiseFrom-after plan membership kind);
  weights = weights;
  each = each;
}

-- only the limits refuse a rebalancing
pub limits-change : (plan : Planned) (racks : ℕ) (at : Moment) (kind : Kind) (members : List Member)
    → AreRacks racks members
    → first_refusal (limits plan at (length (change_to plan racks at kind members).moves))
    ≡ option_map base_of (refusal plan (change_to plan racks at kind members))
limits-change plan racks at kind members are =
    limits-refusal plan (change_to plan racks at kind members)
    (bad_bucket-none plan.buckets 0 (change_to plan racks at kind members).moves
    (racks-made (server_now plan) plan.buckets racks members are.some).rise)
    (racks-changes (server_now plan) plan.buckets racks members are)

-- a rebalancing brings all buckets to its members
brings-change : (plan : Planned) (racks : ℕ) (at : Moment) (kind : Kind) (members : List Member)
    → AreRacks racks members → BringsTo plan (change_to plan racks at kind members).moves (servers_of members)
brings-change plan racks at kind members are = record {
  targets = racks-targets (server_now plan) plan.buckets racks members are;
  leaves = λ s apart b below is.
      let home : is_among (servers_of members) s ≡ true =
      subst (λ x. is_among (servers_of members) x ≡ true) is
      (home-among members (b % racks)
      (server_after plan (change_to plan racks at kind members).moves b)
      (own-home (server_after plan (change_to plan racks at kind members).moves) plan.buckets racks members are.some
      (racks-own (server_now plan) plan.buckets racks members are) b below))
      in both_ways (is_among (servers_of members) s) apart home;
}

pub KeepsMembership-change : (plan : Planned) (racks : ℕ) → KeepsMembership plan → (at : Moment) (kind : Kind)
    (members : List Member) → MayCome plan kind → servers_of members ≡ active_after kind (active_now plan)
    → AreRacks racks members → refusal plan (change_to plan racks at kind members) ≡ None
    → KeepsMembership (with_change plan (change_to plan racks at kind members))
KeepsMembership-change plan racks membership at kind members may servers are none =
    KeepsMembership-after plan membership at kind (change_to plan racks at kind members).moves may
    (subst (BringsTo plan (change_to plan racks at kind members).moves) servers
    (brings-change plan racks at kind members are)) none

-- what a rebalancing reaches
pub rebalanced-change : (plan : Planned) (racks : ℕ) (at : Moment) (kind : Kind) (members : List Member)
    → AreRacks racks members → KeepsMembership (with_change plan (change_to plan racks at kind members))
    → IsRebalanced plan (change_to plan racks at kind members) (record {
      plan = with_change plan (change_to plan racks at kind members);
      racks = racks;
      members = members;
    })
rebalanced-change plan racks at kind members are membership = record {
  orderly = membership.orderly;
  home = λ b below.
      member-is (server_now (with_change plan (change_to plan racks at kind members)) b) (in_rack (b % racks) members)
      ∙ own-home (server_now (with_change plan (change_to plan racks at kind members))) plan.buckets racks members
      are.some own b below;
  quotas = own;
  least = racks-least (server_now plan) plan.buckets racks members are;
}
  where
    own : OwnQuotas (server_now (with_change plan (change_to plan racks at kind members))) plan.buckets racks members
    own =
        subst (λ (f : ℕ → ServerId). OwnQuotas f plan.buckets racks members)
        (λ i b. sym (server_now-push plan (change_to plan racks at kind members) b) i)
        (racks-own (server_now plan) plan.buckets racks members are)

-- A command that rebalances, where nothing speaks against it, is answered by the limits, and makes its change.
pub answered : (c : Controlled) (at : Moment) (command : Command) (kind : Kind) (members : List Member)
    (answer : Option RackRefusal) → first_refusal (unfit c command) ≡ None → members ≡ members_after command c.members
    → change_of c at command ≡ change_to c.plan c.racks at kind (members_after command c.members)
    → first_refusal (limits c.plan at (length (change_to c.plan c.racks at kind members).moves)) ≡ answer
    → refusal_by c at command ≡ answer
answered c at command kind members answer fit are makes limited =
    first-none (unfit c command) (limits c.plan at (length (change_of c at command).moves)) fit
    ∙ ap (λ (d : Change). first_refusal (limits c.plan at (length d.moves)))
    (makes ∙ ap (change_to c.plan c.racks at kind) (sym are))
    ∙ limited

pub made : (c : Controlled) (at : Moment) (command : Command) (kind : Kind) (members : List Member)
    → members ≡ members_after command c.members
    → change_of c at command ≡ change_to c.plan c.racks at kind (members_after command c.members)
    → rebalanced_to c at kind members ≡ after c at command
made c at command kind members are makes =
    let change = ap (change_to c.plan c.racks at kind) are ∙ sym makes
    in λ i. record { plan = with_change c.plan (change i); racks = c.racks; members = are i }

pub reached : (c new : Controlled) (at : Moment) (command : Command) (kind : Kind) (members : List Member)
    → new ≡ rebalanced_to c at kind members → members ≡ members_after command c.members
    → change_of c at command ≡ change_to c.plan c.racks at kind (members_after command c.members)
    → IsRebalanced c.plan (change_to c.plan c.racks at kind members) new → Rebalances c at command
reached c new at command kind members is are makes rebalanced =
    subst (λ (d : Change). IsRebalanced c.plan d
    (record { plan = with_change c.plan d; racks = c.racks; members = members_after command c.members })) (sym makes)
    (subst (λ (ms : List Member). IsRebalanced c.plan (change_to c.plan c.racks at kind ms)
    (rebalanced_to c at kind ms)) are
    (subst (IsRebalanced c.plan (change_to c.plan c.racks at kind members)) is rebalanced))

-- a server against which nothing speaks is active
pub active-from : (c : Controlled) (s : ServerId) → first_refusal (unless_active c s) ≡ None
    → is_member c.members s ≡ true
active-from c s h =
    elim (cases_Bool (knows c.plan s)) [
      | inl known ↦ elim (cases_Bool (is_member c.members s)) [
        | inl member ↦ member
        | inr idle ↦ let e : Some (Base NotActive) ≡ None = rw (known, idle) at h in absurd (cc e)
      ]
      | inr unknown ↦ let e : Some (Base UnknownServer) ≡ None = rw unknown at h in absurd (cc e)
    ]

-- a server that isn't known is no member
pub unknown_apart : (plan : Planned) → KeepsMembership plan → (s : ServerId) (servers : List ServerId)
    → servers ≡ active_now plan → knows plan s ≡ false → is_among servers s ≡ false
unknown_apart plan membership s servers active unknown =
    ap (λ (xs : List ServerId). is_among xs s) active ∙ membership.members s
    ∙ ap (λ t. t && not (has_drained plan s)) unknown

-- there are other active servers, of all and of its rack
pub others-from : (c : Controlled) (s : ServerId) → first_refusal (if_last c s) ≡ None
    → (leb (length c.members) 1 ≡ false) × (leb (length (in_rack (rack_of c.members s) c.members)) 1 ≡ false)
others-from c s h =
    elim (cases_Bool (leb (length c.members) 1)) [
      | inl last ↦ let e : Some (Base LastServer) ≡ None = rw last at h in absurd (cc e)
      | inr many ↦ elim (cases_Bool (leb (length (in_rack (rack_of c.members s) c.members)) 1)) [
        | inl alone ↦ let e : Some LastInRack ≡ None = rw (many, alone) at h in absurd (cc e)
        | inr others ↦ (many, others)
      ]
    ]

pub many-active : (active : List ServerId) (members : List Member) → servers_of members ≡ active
    → leb (length members) 1 ≡ false → 1 < length active
many-active active members are many =
    omega (arith, ap length are, length-map members (λ (m : Member). m.server), leb-false _ _ many)

pub rising-members : (active : List ServerId) (members : List Member) → servers_of members ≡ active
    → RiseFrom 0 active → RiseFrom 0 (servers_of members)
rising-members active members are rise = subst (RiseFrom 0) (sym are) rise

-- only the limits refuse the move of a bucket to another active server
pub limits-shift : (plan : Planned) (at : Moment) (bucket : ℕ) (s : ServerId) → bucket < plan.buckets
    → same_server (server_now plan bucket) s ≡ false
    → first_refusal (limits plan at 1) ≡ option_map base_of (refusal plan (shift_of at bucket s))
limits-shift plan at bucket s below apart =
    let good : (leb 0 bucket && ltb bucket plan.buckets) ≡ true =
    and_from _ _ (le-leb _ _ (omega arith)) (lt-ltb _ _ below)
    in let bad : bad_bucket plan.buckets 0 (record { bucket = bucket; to = s } ∷ []) ≡ None = rw good refl
    in let home : bucket_already_there (server_now plan) (record { bucket = bucket; to = s } ∷ []) ≡ None =
    rw apart refl
    in limits-refusal plan (shift_of at bucket s) bad home

-- one server more is known
get-set : (known : List Bool) (a s : ServerId) → a.0 < length known → same_server a s ≡ true
    → get_or (set known a.0 true) s.0 false ≡ true
get-set known a s h e =
    ap (λ i. get_or (set known a.0 true) i false) (sym (eqb-true _ _ e)) ∙ get_or-set_same known a.0 true false h

get-set_other : (known : List Bool) (a s : ServerId) → a ≢ s
    → get_or (set known a.0 true) s.0 false ≡ get_or known s.0 false
get-set_other known a s h = get_or-set_other known a.0 s.0 true false (λ e. h (λ i. record { 0 = sym e i }))

pub known-add : (known : List Bool) (plan : Planned) (c : Change) (s : ServerId) → c.kind ≡ Add s
    → s.0 < length known
    → ((x : ServerId) → x.0 < 65536 → get_or known x.0 false ≡ knows plan x) → (x : ServerId) → x.0 < 65536
    → get_or (set known s.0 true) x.0 false ≡ knows (with_change plan c) x
known-add known plan c s kind h are x l =
    elim (cases_server s x) [
      | inl same ↦ get-set known s x h same.0
          ∙ sym (knows-push plan c x ∙ ap (λ k. is_add k x || knows plan x) kind ∙ ap (λ t. t || knows plan x) same.0)
      | inr other ↦ get-set_other known s x other.1 ∙ are x l
          ∙ sym (knows-push plan c x ∙ ap (λ k. is_add k x || knows plan x) kind ∙ ap (λ t. t || knows plan x) other.0)
    ]

pub known-more : (servers : List ServerId) (i : ℕ) (d : ServerId) (known : List Bool) → i < length servers
    → (get_or servers i d).0 < length known → (s : ServerId)
    → (get_or known s.0 false || is_among (drop i servers) s) ≡ is_among servers s
    → (get_or (set known (get_or servers i d).0 true) s.0 false || is_among (drop (i + 1) servers) s)
    ≡ is_among servers s
known-more servers i d known h l s before =
    let step = at_drop_more (λ (xs : List ServerId). is_among xs s) servers i d h
    in let old : (get_or known s.0 false || (same_server (get_or servers i d) s || is_among (drop (i + 1) servers) s))
    ≡ is_among servers s
    = ap (λ t. get_or known s.0 false || t) (sym step) ∙ before
    in elim (cases_server (get_or servers i d) s) [
      | inl same ↦
          ap (λ t. t || is_among (drop (i + 1) servers) s) (get-set known (get_or servers i d) s l same.0)
          ∙ sym (or_true (get_or known s.0 false))
          ∙ sym (ap (λ t. get_or known s.0 false || (t || is_among (drop (i + 1) servers) s)) same.0)
          ∙ old
      | inr other ↦
          ap (λ t. t || is_among (drop (i + 1) servers) s) (get-set_other known (get_or servers i d) s other.1)
          ∙ sym (ap (λ t. get_or known s.0 false || (t || is_among (drop (i + 1) servers) s)) other.0)
          ∙ old
    ]
  where
    or_true : (t : Bool) → (t || (true || is_among (drop (i + 1) servers) s)) ≡ true
    or_true true = refl
    or_true false = refl

pub known-end : (servers : List ServerId) (i : ℕ) (known : Bool) (s : ServerId) → length servers ≤ i
    → (known || is_among (drop i servers) s) ≡ is_among servers s → known ≡ is_among servers s
known-end servers i known s h e =
    sym (or_false known) ∙ ap (λ t. known || t) (sym (at_drop_all (λ (xs : List ServerId). is_among xs s) servers i h))
    ∙ e
  where
    or_false : (t : Bool) → (t || false) ≡ t
    or_false true = refl
    or_false false = refl

pub none-known : (n i : ℕ) → get_or (replicate n false) i false ≡ false
none-known n i =
    elim (cases_lt i n) [
      | inl below ↦ get_or-replicate n i false false below
      | inr past ↦ get_or_past (replicate n false) i false (omega (arith, length-replicate n false))
    ]

-- which servers are known after a drain or a shift
pub known-same : (plan : Planned) (c : Change) (x : ServerId) → is_add c.kind x ≡ false
    → knows plan x ≡ knows (with_change plan c) x
known-same plan c x e = sym (knows-push plan c x ∙ ap (λ t. t || knows plan x) e)

pub known-after : (known : List Bool) (plan : Planned) (c : Change) (kind : Kind) → c.kind ≡ kind → MayCome plan kind
    → length known ≡ 65536 → ((x : ServerId) → x.0 < 65536 → get_or known x.0 false ≡ knows plan x) → (x : ServerId)
    → x.0 < 65536 → get_or (known_after kind known) x.0 false ≡ knows (with_change plan c) x
known-after known plan c (Add s) is may long are x l =
    known-add known plan c s is (omega (arith, may.0.1, long)) are x l
known-after known plan c (Drain s) is may long are x l = are x l ∙ known-same plan c x (ap (λ k. is_add k x) is)
known-after known plan c Shift is may long are x l = are x l ∙ known-same plan c x (ap (λ k. is_add k x) is)

pub length-known_after : (kind : Kind) (known : List Bool) → length (known_after kind known) ≡ length known
length-known_after (Add s) known = length-set known s.0 true
length-known_after (Drain s) known = refl
length-known_after Shift known = refl
