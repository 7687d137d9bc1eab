-- A controller whose servers and buckets are in one rack.
use Rattle.std.proofs.Common.{◌≡◌, ◌≢◌, ℕ, zero, suc, ◌+◌, ◌%◌, ◌<◌, Bool, true, false, not, eqb, leb, ltb, List, [], ◌∷◌, ◌++◌, length}
use Rattle.std.proofs.Common.{Option, Some, None, inl, inr, refl, ap, sym, ◌∙◌, subst, arith, replicate}
use Rattle.std.proofs.lemmas.Bool.{cases_Bool, eq-eqb}
use Rattle.std.proofs.lemmas.List.Elements.{All-cons, All-head, All-nil, All-tail}
use Rattle.std.specs.List.{All}
use Rattle.bm_base.specs.declared.ids.Moment.{Moment}
use Rattle.bm_base.specs.declared.ids.ServerId.{ServerId}
use Rattle.bm_controller.proofs.RackParts.{all-in_one, racks-one}
use Rattle.bm_controller.specs.Commands.{change_of_all, change_to, first_refusal, if_last, limits, refused}
use Rattle.bm_controller.specs.Commands.{unless_active, unless_fits, when, Command}
use Rattle.bm_controller.specs.Commands.Command.{AddServer, DrainServer, WeighServer, MoveBucket}
use Rattle.bm_controller.specs.Controlled.{in_rack, is_member, members_of, rack_of, Controlled}
use Rattle.bm_controller.specs.declared.members.Member.{Member}
use Rattle.bm_controller.specs.declared.refusal.RackRefusal.{RackRefusal}
use Rattle.bm_controller.specs.declared.refusal.RackRefusal.TheVariants.{Base, LastInRack, WrongRack}
use Rattle.bm_controller.specs.Inside.Kinds.{HasRack, IsBase}
use Rattle.bm_controller.specs.Membership.{knows}
use Rattle.bm_controller.specs.Racks.{EachRackHasMember}
use Rattle.bm_quota.specs.declared.refusal.Refusal.{Refusal}
use Rattle.bm_quota.specs.declared.refusal.Refusal.TheVariants.{BadBucket, KnownServer, LastServer, Memory}
use Rattle.bm_quota.specs.declared.refusal.Refusal.TheVariants.{NotActive, SameServer, StampFell, TooMany, UnknownServer}
use Rattle.bm_table.specs.declared.plan.Limit.TheVariants.{Changes, Moves}
use Rattle.bm_table.specs.declared.plan.Kind.{Kind}
use Rattle.bm_table.specs.declared.plan.Move.{Move}
use Rattle.bm_table.specs.Planned.{Planned}
use Rattle.bm_table.specs.Plans.{last_moment, server_now, total_moves}
use Rattle.bm_table.specs.Tables.{same_server}

-- THE MOVES

pub change-one : (plan : Planned) (racks : ℕ) (at : Moment) (kind : Kind) (members : List Member) → racks ≡ 1
    → All (HasRack racks) members → change_to plan racks at kind members ≡ change_of_all plan at kind members
change-one plan racks at kind members one all =
    ap (λ n. change_to plan n at kind members) one
    ∙ ap (λ (ms : List Move). record { moment = at; kind = kind; moves = ms })
    (racks-one (server_now plan) plan.buckets members (subst (λ n. All (HasRack n) members) one all))

-- THE REFUSALS

-- no refusal, or one that a controller of one rack gives
abbrev IsBaseOrNone : Option RackRefusal → Type 0
IsBaseOrNone None = Unit {0}
IsBaseOrNone (Some r) = IsBase r

when-base : (test : Bool) (r : Refusal) (rest : List (Option RackRefusal)) → IsBaseOrNone (first_refusal rest)
    → IsBaseOrNone (first_refusal (when test (Base r) ∷ rest))
when-base true r rest base = tt
when-base false r rest base = base

limits-base : (plan : Planned) (at : Moment) (count : ℕ) → IsBaseOrNone (first_refusal (limits plan at count))
limits-base plan at count =
    when-base (ltb at.0 (last_moment plan)) StampFell
    (when (leb 4096 (length plan.changes)) (Base (TooMany Changes))
    ∷ when (ltb 1000000 (total_moves plan.changes + count)) (Base (TooMany Moves)) ∷ [])
    (when-base (leb 4096 (length plan.changes)) (TooMany Changes)
    (when (ltb 1000000 (total_moves plan.changes + count)) (Base (TooMany Moves)) ∷ [])
    (when-base (ltb 1000000 (total_moves plan.changes + count)) (TooMany Moves) [] tt))

active-base : (c : Controlled) (s : ServerId) (rest : List (Option RackRefusal)) → IsBaseOrNone (first_refusal rest)
    → IsBaseOrNone (first_refusal (unless_active c s ++ rest))
active-base c s rest base =
    when-base (not (knows c.plan s)) UnknownServer (when (not (is_member c.members s)) (Base NotActive) ∷ rest)
    (when-base (not (is_member c.members s)) NotActive rest base)

rack_of-one : (members : List Member) (s : ServerId) → All (HasRack 1) members → rack_of members s ≡ 0
rack_of-one [] s all = refl
rack_of-one (m ∷ members) s all =
    let head : m.rack < 1 = All-head (HasRack 1) m members all
    in elim (cases_Bool (same_server m.server s)) [
      | inl same ↦ rw same (omega arith)
      | inr other ↦ rw other (rack_of-one members s (All-tail (HasRack 1) m members all))
    ]

last-base : (c : Controlled) (s : ServerId) (rest : List (Option RackRefusal)) → All (HasRack 1) c.members
    → IsBaseOrNone (first_refusal rest) → IsBaseOrNone (first_refusal (if_last c s ++ rest))
last-base c s rest all base =
    let same : leb (length (in_rack (rack_of c.members s) c.members)) 1 ≡ leb (length c.members) 1 =
    ap (λ r. leb (length (in_rack r c.members)) 1) (rack_of-one c.members s all)
    ∙ ap (λ (ms : List Member). leb (length ms) 1) (all-in_one c.members all)
    in subst (λ t. IsBaseOrNone (first_refusal (when (leb (length c.members) 1) (Base LastServer) ∷ when t LastInRack ∷ rest)))
    (sym same) (both (leb (length c.members) 1))
  where
    both : (t : Bool) → IsBaseOrNone (first_refusal (when t (Base LastServer) ∷ when t LastInRack ∷ rest))
    both true = tt
    both false = base

fits-base : (c : Controlled) (bucket : ℕ) (s : ServerId) (rest : List (Option RackRefusal)) → c.racks ≡ 1
    → All (HasRack 1) c.members → IsBaseOrNone (first_refusal rest)
    → IsBaseOrNone (first_refusal (unless_fits c bucket s ++ rest))
fits-base c bucket s rest one all base =
    let zero' : bucket % 1 ≡ 0 = omega arith
    in let same : eqb (rack_of c.members s) (bucket % c.racks) ≡ true =
    eq-eqb (rack_of c.members s) (bucket % c.racks)
    (rack_of-one c.members s all ∙ sym (ap (λ n. bucket % n) one ∙ zero'))
    in rw same (when-base (same_server (server_now c.plan bucket) s) SameServer rest base)

refused-base : (c : Controlled) (at : Moment) (command : Command) (count : ℕ) → c.racks ≡ 1 → All (HasRack 1) c.members
    → IsBaseOrNone (refused c at command count)
refused-base c at (AddServer s weight rack) count one all =
    when-base (knows c.plan s) KnownServer (limits c.plan at count) (limits-base c.plan at count)
refused-base c at (DrainServer s) count one all =
    active-base c s (if_last c s ++ limits c.plan at count)
    (last-base c s (limits c.plan at count) all (limits-base c.plan at count))
refused-base c at (WeighServer s weight) count one all =
    active-base c s (limits c.plan at count) (limits-base c.plan at count)
refused-base c at (MoveBucket bucket s) count one all =
    when-base (leb c.plan.buckets bucket) BadBucket
    (unless_active c s ++ unless_fits c bucket s ++ limits c.plan at count)
    (active-base c s (unless_fits c bucket s ++ limits c.plan at count)
    (fits-base c bucket s (limits c.plan at count) one all (limits-base c.plan at count)))

is-base : (r : RackRefusal) (answer : Option RackRefusal) → (r ≢ Base Memory → answer ≡ Some r) → IsBaseOrNone answer
    → IsBase r
is-base (Base r) answer is base = tt
is-base LastInRack answer is base = subst IsBaseOrNone (is (λ e. absurd (cc e))) base
is-base WrongRack answer is base = subst IsBaseOrNone (is (λ e. absurd (cc e))) base

-- what the engine refuses with
pub only-base : (c : Controlled) (at : Moment) (command : Command) (count : ℕ) (r : RackRefusal) → c.racks ≡ 1
    → All (HasRack c.racks) c.members → (r ≢ Base Memory → refused c at command count ≡ Some r) → IsBase r
only-base c at command count r one all is =
    is-base r (refused c at command count) is
    (refused-base c at command count one (subst (λ n. All (HasRack n) c.members) one all))

base-same : (a b : Refusal) → Base a ≡ Base b → a ≡ b
base-same a b e = cc e

pub refused-one : (r : RackRefusal) (refusal : Refusal) (answer : Option RackRefusal) → r ≡ Base refusal
    → (r ≢ Base Memory → answer ≡ Some r) → refusal ≢ Memory → answer ≡ Some (Base refusal)
refused-one r refusal answer same is other =
    is (λ e. other (base-same refusal Memory (sym same ∙ e))) ∙ ap (λ x. Some x) same

-- THE OPENING

pub all-zero : (n : ℕ) → All (λ rack. rack < 1) (replicate n 0)
all-zero zero = All-nil (λ rack. rack < 1)
all-zero (suc n) = All-cons (λ rack. rack < 1) 0 (replicate n 0) (omega arith) (all-zero n)

pub each-one : (servers : List ServerId) (weights : List ℕ) → 0 < length servers → length weights ≡ length servers
    → EachRackHasMember 1 (members_of servers weights (replicate (length servers) 0))
each-one [] weights some count rack below = absurd (omega arith)
each-one (s ∷ servers) [] some count rack below = absurd (omega arith)
each-one (s ∷ servers) (w ∷ weights) some count rack below =
    let first : eqb 0 rack ≡ true = eq-eqb 0 rack (omega arith)
    in rw first (omega arith)
