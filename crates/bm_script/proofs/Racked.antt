-- What the opening says of racks, as the controller asks it.
use Rattle.std.proofs.Common.{◌≡◌, ℕ, zero, suc, ◌+◌, ◌<◌, ◌≤◌, ◌-◌, Bool, true, false, ◌||◌, ◌==◌, cond, List, []}
use Rattle.std.proofs.Common.{◌∷◌, All, get_or, length, map, refl, sym, ap, ap₂, ◌∙◌, subst, arith}
use Rattle.std.proofs.lemmas.List.Elements.{All-get_or, All-head, All-tail}
use Rattle.std.proofs.lemmas.List.FromFn.{get_or-range_with_len, length-range_with_len}
use Rattle.std.proofs.lemmas.List.Sums.{AllPass-from_list_all}
use Rattle.std.proofs.Math.Nat.{mod-lt, mod-one}
use Rattle.std.specs.List.{range_with_len}
use denote.Param.Members.{Shared}
use Rattle.bm_base.specs.declared.ids.ServerId.{ServerId}
use Rattle.bm_controller.specs.Controlled.{in_rack, members_of, Controlled}
use Rattle.bm_controller.specs.declared.members.Member.{Member}
use Rattle.bm_controller.specs.Racks.{EachRackHasMember}
use Rattle.bm_policy.specs.Policies.{IsNumber, IsPolicy}
use Rattle.bm_policy.specs.declared.policy.Policy.{Policy}
use Rattle.bm_controller.specs.declared.racks.RackController.{RackController}
use Rattle.bm_script.specs.Inside.Rules.{AsksRule, IsRackRule}
use Rattle.bm_script.specs.declared.top.Opening.{Opening}
use Rattle.bm_script.specs.Scripts.{opened}
use Rattle.bm_script.specs.Values.{are_filled, has_server}
use Rattle.bm_table.specs.Settings.{rack_of, RiseFrom}

-- the servers' numbers are numbers of servers
pub numbers : (low : ℕ) (servers : List ServerId) → 1 ≤ low → RiseFrom low servers → All (λ s. s.0 ≤ 1024) servers
    → All IsNumber servers
numbers low [] some rise most k d lt = absurd (omega (arith, lt))
numbers low (s ∷ servers) some rise most zero d lt =
    (omega (arith, some, rise.0), All-head (λ (s : ServerId). s.0 ≤ 1024) s servers most)
numbers low (s ∷ servers) some rise most (suc k) d lt =
    numbers (s.0 + 1) servers (omega arith) rise.1 (All-tail (λ (s : ServerId). s.0 ≤ 1024) s servers most) k d (omega (arith, lt))

-- THE RULE

module _ {F : Type 0} (g : Shared F (ServerId × Unit {0}) ℕ) (f : F) (racks : ℕ) (rule : IsRackRule g f racks) where
  -- it is a policy
  unfoldable pub policy_of : IsPolicy g f racks
  policy_of = record {
    count = rule.count;
    rack = rack_of racks;
    takes = rule.takes;
    answers = rule.answers;
    below = λ s _. mod-lt _ (omega (arith, rule.count.0));
  }

  -- every policy by this rule names the same racks
  same_rack : (p : IsPolicy g f racks) (s : ServerId) → IsNumber s → p.rack s ≡ rack_of racks s
  same_rack p s number = sym (p.answers s (rack_of racks s) number (rule.may s number))

  pub same_racks : (p : IsPolicy g f racks) (servers : List ServerId) → All IsNumber servers
      → map p.rack servers ≡ map (rack_of racks) servers
  same_racks p [] all = refl
  same_racks p (s ∷ servers) all =
      ap₂ (λ (r : ℕ) (rs : List ℕ). r ∷ rs) (same_rack p s (All-head IsNumber s servers all))
      (same_racks p servers (All-tail IsNumber s servers all))

-- a controller with the same policy and as many racks asks the same rule
pub asks_still : {F : Type 0} (g : Shared F (ServerId × Unit {0}) ℕ) (old new : RackController F)
    → new.policy ≡ old.policy → new.engine.racks ≡ old.engine.racks → AsksRule g old → AsksRule g new
asks_still {F} g old new policy racks asks = record {
  rule = subst (λ (p : Policy F). IsRackRule g p.rule p.racks) (sym policy) asks.rule;
  racks = ap (λ (p : Policy F). p.racks) policy ∙ asks.racks ∙ sym racks;
}

-- EACH RACK HAS A SERVER

server_of_rack : (racks rack : ℕ) (servers : List ServerId) → are_filled racks servers ≡ true → rack < racks
    → has_server racks servers rack ≡ true
server_of_rack racks rack servers filled lt =
    let inside : rack < length (range_with_len 0 racks) = omega (arith, lt, length-range_with_len 0 racks) in
    let place : get_or (range_with_len 0 racks) rack 0 ≡ rack =
    omega (arith, get_or-range_with_len 0 racks rack 0 lt) in
    subst (λ (r : ℕ). has_server racks servers r ≡ true) place
    (All-get_or (λ (r : ℕ). has_server racks servers r ≡ true) (range_with_len 0 racks) rack 0 inside
    (AllPass-from_list_all (has_server racks servers) (range_with_len 0 racks) filled))

-- the members of a rack, where the first of all may be one of them
in_cons : (here : Bool) (m : Member) (rest : List Member) (others : Bool) → (others ≡ true → 0 < length rest)
    → (here || others) ≡ true → 0 < length (cond here (m ∷ rest) rest)
in_cons true m rest others more is = omega arith
in_cons false m rest others more is = more is

-- a rack with one of the servers has a member
member_of_rack : (racks rack : ℕ) (servers : List ServerId) (weights : List ℕ) → length weights ≡ length servers
    → has_server racks servers rack ≡ true
    → 0 < length (in_rack rack (members_of servers weights (map (rack_of racks) servers)))
member_of_rack racks rack [] weights same has = absurd cc
member_of_rack racks rack (s ∷ servers) [] same has = absurd (omega (arith, same))
member_of_rack racks rack (s ∷ servers) (w ∷ weights) same has =
    in_cons (rack_of racks s == rack) (record { server = s; weight = w; rack = rack_of racks s })
    (in_rack rack (members_of servers weights (map (rack_of racks) servers))) (has_server racks servers rack)
    (λ more. member_of_rack racks rack servers weights (omega (arith, same)) more) has

pub each_rack : (racks : ℕ) (servers : List ServerId) (weights : List ℕ) → length weights ≡ length servers
    → are_filled racks servers ≡ true
    → EachRackHasMember racks (members_of servers weights (map (rack_of racks) servers))
each_rack racks servers weights same filled rack lt =
    member_of_rack racks rack servers weights same (server_of_rack racks rack servers filled lt)

-- one rack has all servers
pub one_filled : (servers : List ServerId) → 1 ≤ length servers → are_filled 1 servers ≡ true
one_filled [] some = absurd (omega (arith, some))
one_filled (s ∷ servers) some = rw (mod-one (s.0 - 1)) refl

-- the controller's first members: each rack has one
pub each_member : {F : Type 0} (g : Shared F (ServerId × Unit {0}) ℕ) (f : F) (racks : ℕ) (rule : IsRackRule g f racks)
    (p : IsPolicy g f racks) (servers : List ServerId) (weights : List ℕ) → All IsNumber servers
    → length weights ≡ length servers → are_filled racks servers ≡ true
    → EachRackHasMember racks (members_of servers weights (map p.rack servers))
each_member g f racks rule p servers weights all same filled =
    subst (λ (rs : List ℕ). EachRackHasMember racks (members_of servers weights rs))
    (sym (same_racks g f racks rule p servers all)) (each_rack racks servers weights same filled)

-- the controller that was opened is that of the opening
pub opened_by : (version : ℕ) (opening : Opening) (servers : List ServerId) (weights : List ℕ) (racks : ℕ)
    (c : Controlled) → servers ≡ opening.setting.servers → weights ≡ opening.weights → racks ≡ opening.setting.racks
    → c ≡ record {
      plan = record { buckets = opening.setting.buckets; servers = servers; changes = [] };
      racks = racks;
      members = members_of servers weights (map (rack_of racks) servers);
    }
    → c ≡ (opened version opening).controller
opened_by version opening servers weights racks c same_servers same_weights same_count is =
    is ∙ rw (same_servers, same_weights, same_count) refl
