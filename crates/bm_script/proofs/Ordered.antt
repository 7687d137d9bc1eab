-- The commands that the definition gives are in order, and are refused as a script's are.
use Rattle.std.proofs.Common.{◌≡◌, ℕ, ◌+◌, ◌-◌, ◌*◌, ◌%◌, ◌==◌, ◌^◌, ◌<◌, ◌≤◌, Bool, true, false, not, nat_le, nat_lt, cond, List}
use Rattle.std.proofs.Common.{[], ◌∷◌, ◌++◌, length, map, Option, Some, None, Ok, Err, refl, sym, ap, subst, ◌∙◌, arith}
use Rattle.std.proofs.Common.{le-ltb}
use Rattle.std.proofs.lemmas.Bool.{or_right}
use Rattle.std.proofs.lemmas.List.{length_push, map-append}
use Rattle.std.specs.List.{AllByRecursion}
use Rattle.toml.specs.Data.{as_table, Items, no_items, item, Members}
use Rattle.bm_base.specs.Captures.{AreRising}
use Rattle.bm_base.specs.declared.ids.ServerId.{ServerId}
use Rattle.bm_controller.proofs.MemberPlans.{knows-push}
use Rattle.bm_controller.specs.Commands as controller
use Rattle.bm_controller.specs.Commands.{first_refusal, limits, when}
use Rattle.bm_controller.specs.Commands.Command.{AddServer, DrainServer, WeighServer, MoveBucket}
use Rattle.bm_controller.specs.Controlled.{in_rack, is_member, rack_of, Controlled}
use Rattle.bm_controller.specs.declared.members.Member.{Member}
use Rattle.bm_controller.specs.Membership.{knows}
use Rattle.bm_controller.specs.declared.refusal.RackRefusal.{RackRefusal}
use Rattle.bm_controller.specs.declared.refusal.RackRefusal.TheVariants.{Base, LastInRack, WrongRack}
use Rattle.bm_quota.specs.declared.refusal.Refusal.TheVariants.{KnownServer, UnknownServer, NotActive, LastServer}
use Rattle.bm_quota.specs.declared.refusal.Refusal.TheVariants.{BadBucket, SameServer, StampFell, TooMany}
use Rattle.bm_script.specs.declared.commands.Verb.{Verb}
use Rattle.bm_script.specs.declared.commands.Verb.TheVariants.{Add, Drain, Move, Close, Retire, Sync, Weigh}
use Rattle.bm_script.specs.declared.fault.Place.{Place}
use Rattle.bm_script.specs.declared.fault.Place.TheVariants as at_
use Rattle.bm_script.specs.declared.fault.ScriptFault.TheVariants.{Refused}
use Rattle.bm_script.specs.declared.key.Key.TheVariants as key
use Rattle.bm_script.proofs.Sound.{Any, Meets, meets-only_keys, meets-required, meets-then, meets_valued, reads-number}
use Rattle.bm_script.proofs.Sound.{reads_any}
use Rattle.bm_script.specs.Commands.{after_command, after_commands, asked_of_controller, carried, changed, next}
use Rattle.bm_script.specs.Commands.{with_command, Progress}
use Rattle.bm_script.specs.Faults.{refused_as, required, IsOfScript}
use Rattle.bm_script.specs.Keys.{verb_keys}
use Rattle.bm_script.specs.Values as values
use Rattle.bm_table.proofs.PlanLemmas.{next_change-before, next_change-last}
use Rattle.bm_base.specs.declared.ids.Moment.{Moment}
use Rattle.bm_table.specs.declared.plan.Change.{Change}
use Rattle.bm_table.specs.declared.plan.Limit.TheVariants.{Changes, Moves}
use Rattle.bm_table.specs.declared.script.Command.{Command}
use Rattle.bm_table.specs.declared.script.Command.TheVariants.{Change as ChangeCommand, Close as CloseCommand}
use Rattle.bm_table.specs.declared.script.Command.TheVariants.{Retire as RetireCommand, Sync as SyncCommand}
use Rattle.bm_table.specs.Planned.{Planned}
use Rattle.bm_table.specs.Plans.{last_moment, server_now, total_moves, with_change}
use Rattle.bm_table.specs.Scripts.{moment_of_command, IsOfKnown, NamesVersions}
use Rattle.bm_table.specs.Settings as settings
use Rattle.bm_table.specs.Settings.{IsWithin}
use Rattle.bm_table.specs.Tables.{is_add, change_moment, next_change, same_server}

-- MOMENTS

AreRising-push : (low high at : ℕ) (moments : List ℕ) → AreRising low high moments → low ≤ high → high ≤ at
    → AreRising low at (moments ++ at ∷ [])
AreRising-push low high at [] rise le above = (omega arith, omega arith, tt)
AreRising-push low high at (m ∷ moments) rise le above =
    (rise.0, omega (arith, rise.1), AreRising-push m high at moments rise.2 rise.1 above)

pub AreRising-higher : (low high top : ℕ) (moments : List ℕ) → AreRising low high moments → high ≤ top
    → AreRising low top moments
AreRising-higher low high top [] rise le = tt
AreRising-higher low high top (m ∷ moments) rise le =
    (rise.0, omega (arith, rise.1), AreRising-higher m high top moments rise.2 le)

-- VERSIONS

NamesVersions-within : (n top : ℕ) (commands : List Command) → NamesVersions n top commands → n ≤ top + 1
NamesVersions-within n top [] names = omega (arith, names)
NamesVersions-within n top (ChangeCommand v ∷ commands) names =
    omega (arith, NamesVersions-within (n + 1) top commands names.1)
NamesVersions-within n top (CloseCommand at s flow ∷ commands) names = NamesVersions-within n top commands names
NamesVersions-within n top (RetireCommand at s ∷ commands) names = NamesVersions-within n top commands names
NamesVersions-within n top (SyncCommand at ∷ commands) names = NamesVersions-within n top commands names

NamesVersions-change : (n top : ℕ) (commands : List Command) → NamesVersions n top commands
    → NamesVersions n (top + 1) (commands ++ ChangeCommand (record { 0 = top + 1 }) ∷ [])
NamesVersions-change n top [] names = (omega (arith, names), omega (arith, names))
NamesVersions-change n top (ChangeCommand v ∷ commands) names =
    (names.0, NamesVersions-change (n + 1) top commands names.1)
NamesVersions-change n top (CloseCommand at s flow ∷ commands) names = NamesVersions-change n top commands names
NamesVersions-change n top (RetireCommand at s ∷ commands) names = NamesVersions-change n top commands names
NamesVersions-change n top (SyncCommand at ∷ commands) names = NamesVersions-change n top commands names

-- a command that is no change
abbrev IsOther : Command → Type 0
IsOther (ChangeCommand v) = ⊥
IsOther _ = Unit {0}

NamesVersions-last : (n top : ℕ) (command : Command) → IsOther command → n ≡ top + 1
    → NamesVersions n top (command ∷ [])
NamesVersions-last n top (ChangeCommand v) other e = absurd other
NamesVersions-last n top (CloseCommand at s flow) other e = e
NamesVersions-last n top (RetireCommand at s) other e = e
NamesVersions-last n top (SyncCommand at) other e = e

NamesVersions-other : (n top : ℕ) (commands : List Command) (command : Command) → IsOther command
    → NamesVersions n top commands → NamesVersions n top (commands ++ command ∷ [])
NamesVersions-other n top [] command other names = NamesVersions-last n top command other names
NamesVersions-other n top (ChangeCommand v ∷ commands) command other names =
    (names.0, NamesVersions-other (n + 1) top commands command other names.1)
NamesVersions-other n top (CloseCommand at s flow ∷ commands) command other names =
    NamesVersions-other n top commands command other names
NamesVersions-other n top (RetireCommand at s ∷ commands) command other names =
    NamesVersions-other n top commands command other names
NamesVersions-other n top (SyncCommand at ∷ commands) command other names =
    NamesVersions-other n top commands command other names

-- one more change leaves the moments of the commands before it
moments-push : (plan : Planned) (c : Change) (n : ℕ) (commands : List Command) → 0 < n
    → NamesVersions n (length plan.changes) commands
    → map (λ d. moment_of_command (with_change plan c) d) commands ≡ map (λ d. moment_of_command plan d) commands
moments-push plan c n [] some names = refl
moments-push plan c n (ChangeCommand v ∷ commands) some names =
    let within = NamesVersions-within (n + 1) (length plan.changes) commands names.1 in
    let first : change_moment (next_change (with_change plan c) (v.0 - 1))
    ≡ change_moment (next_change plan (v.0 - 1)) =
    ap change_moment (next_change-before plan c (v.0 - 1) (omega (arith, names.0, within, some))) in
    rw (first, moments-push plan c (n + 1) commands (omega arith) names.1) refl
moments-push plan c n (CloseCommand at s flow ∷ commands) some names =
    ap (λ (ms : List ℕ). at.0 ∷ ms) (moments-push plan c n commands some names)
moments-push plan c n (RetireCommand at s ∷ commands) some names =
    ap (λ (ms : List ℕ). at.0 ∷ ms) (moments-push plan c n commands some names)
moments-push plan c n (SyncCommand at ∷ commands) some names =
    ap (λ (ms : List ℕ). at.0 ∷ ms) (moments-push plan c n commands some names)

-- KNOWN SERVERS

known-push : (plan : Planned) (c : Change) (s : ServerId) → knows plan s ≡ true → knows (with_change plan c) s ≡ true
known-push plan c s h = knows-push plan c s ∙ or_right (is_add c.kind s) (knows plan s) h

IsOfKnown-push : (plan : Planned) (c : Change) (command : Command) → IsOfKnown plan command
    → IsOfKnown (with_change plan c) command
IsOfKnown-push plan c (ChangeCommand v) h = tt
IsOfKnown-push plan c (CloseCommand at s flow) h = known-push plan c s h
IsOfKnown-push plan c (RetireCommand at s) h = known-push plan c s h
IsOfKnown-push plan c (SyncCommand at) h = tt

all_known-push : (plan : Planned) (c : Change) (commands : List Command)
    → AllByRecursion (λ d. IsOfKnown plan d) commands → AllByRecursion (λ d. IsOfKnown (with_change plan c) d) commands
all_known-push plan c [] h = tt
all_known-push plan c (d ∷ commands) h = (IsOfKnown-push plan c d h.0, all_known-push plan c commands h.1)

all_known-last : (plan : Planned) (commands : List Command) (d : Command)
    → AllByRecursion (λ e. IsOfKnown plan e) commands → IsOfKnown plan d
    → AllByRecursion (λ e. IsOfKnown plan e) (commands ++ d ∷ [])
all_known-last plan [] d h k = (k, tt)
all_known-last plan (e ∷ commands) d h k = (h.0, all_known-last plan commands d h.1 k)

-- WHAT WAS READ SO FAR

-- beside the plan that was there at first
pub record AreOrdered (first : Planned) (n : ℕ) (p : Progress) : Type 0 where
  pub few : length p.commands ≡ n
  pub buckets : p.controller.plan.buckets ≡ first.buckets
  pub servers : p.controller.plan.servers ≡ first.servers
  pub last : p.last ≤ 4 * 10 ^ 18
  pub plan_last : last_moment p.controller.plan ≤ p.last
  pub rise : AreRising 0 p.last (map (λ d. moment_of_command p.controller.plan d) p.commands)
  pub versions : NamesVersions 1 (length p.controller.plan.changes) p.commands
  pub of_known : AllByRecursion (λ d. IsOfKnown p.controller.plan d) p.commands

longer : (plan : Planned) (c : Change) → length (with_change plan c).changes ≡ length plan.changes + 1
longer plan c = length_push plan.changes c

moment-last : (plan : Planned) (c : Change)
    → change_moment (next_change (with_change plan c) (length plan.changes)) ≡ c.moment.0
moment-last plan c = ap change_moment (next_change-last plan c)

last_moment-push : (plan : Planned) (c : Change) → last_moment (with_change plan c) ≡ c.moment.0
last_moment-push plan c =
    let place : length (with_change plan c).changes - 1 ≡ length plan.changes = omega (arith, longer plan c) in
    ap (λ (v : ℕ). change_moment (next_change (with_change plan c) v)) place ∙ moment-last plan c

with_change-ordered : (first : Planned) (n : ℕ) (p : Progress) (members : List Member) (c : Change)
    → AreOrdered first n p
    → IsWithin p.last (4 * 10 ^ 18) c.moment.0
    → AreOrdered first (n + 1)
    (record {
      version = p.version;
      controller = record { plan = with_change p.controller.plan c; racks = p.controller.racks; members = members };
      last = c.moment.0;
      commands =
          p.commands ++ ChangeCommand (record { 0 = length p.controller.plan.changes + 1 }) ∷ [];
    })
with_change-ordered first n p members c h range =
    let command : Command = ChangeCommand (record { 0 = length p.controller.plan.changes + 1 }) in
    let plan : Planned = with_change p.controller.plan c in
    let at_last : moment_of_command plan command ≡ c.moment.0 =
    ap (λ (v : ℕ). change_moment (next_change plan v)) (omega arith) ∙ moment-last p.controller.plan c in
    let moments : map (λ d. moment_of_command plan d) (p.commands ++ command ∷ [])
    ≡ map (λ d. moment_of_command p.controller.plan d) p.commands ++ c.moment.0 ∷ [] =
    map-append (λ d. moment_of_command plan d) p.commands (command ∷ [])
    ∙ ap (λ (ms : List ℕ). ms ++ moment_of_command plan command ∷ [])
    (moments-push p.controller.plan c 1 p.commands (omega arith) h.versions)
    ∙ ap (λ (m : ℕ). map (λ d. moment_of_command p.controller.plan d) p.commands ++ m ∷ []) at_last in
    record {
      few = length_push p.commands command ∙ ap (λ (k : ℕ). k + 1) h.few;
      buckets = h.buckets;
      servers = h.servers;
      last = range.1;
      plan_last = omega (arith, last_moment-push p.controller.plan c);
      rise = subst (AreRising 0 c.moment.0) (sym moments)
          (AreRising-push 0 p.last c.moment.0 (map (λ d. moment_of_command p.controller.plan d) p.commands) h.rise (omega arith)
          range.0);
      versions =
          subst (λ (n : ℕ). NamesVersions 1 n (p.commands ++ command ∷ [])) (sym (longer p.controller.plan c))
          (NamesVersions-change 1 (length p.controller.plan.changes) p.commands h.versions);
      of_known = all_known-last plan p.commands command (all_known-push p.controller.plan c p.commands h.of_known) tt;
    }

with_command-ordered : (first : Planned) (n : ℕ) (p : Progress) (at : ℕ) (command : Command) → AreOrdered first n p
    → IsWithin p.last (4 * 10 ^ 18) at → IsOther command
    → moment_of_command p.controller.plan command ≡ at → IsOfKnown p.controller.plan command
    → AreOrdered first (n + 1) (with_command p at command)
with_command-ordered first n p at command h range other moment known =
    let moments : map (λ d. moment_of_command p.controller.plan d) (p.commands ++ command ∷ [])
    ≡ map (λ d. moment_of_command p.controller.plan d) p.commands ++ at ∷ [] =
    map-append (λ d. moment_of_command p.controller.plan d) p.commands (command ∷ [])
    ∙ ap (λ (m : ℕ). map (λ d. moment_of_command p.controller.plan d) p.commands ++ m ∷ []) moment in
    record {
      few = length_push p.commands command ∙ ap (λ (k : ℕ). k + 1) h.few;
      buckets = h.buckets;
      servers = h.servers;
      last = range.1;
      plan_last = omega (arith, h.plan_last, range.0);
      rise = subst (AreRising 0 at) (sym moments)
          (AreRising-push 0 p.last at (map (λ d. moment_of_command p.controller.plan d) p.commands) h.rise (omega arith) range.0);
      versions = NamesVersions-other 1 (length p.controller.plan.changes) p.commands command other h.versions;
      of_known = all_known-last p.controller.plan p.commands command h.of_known known;
    }

-- REFUSALS

-- each refusal that may be the first is one of a script
abbrev Refuses : List (Option RackRefusal) → Type 0
Refuses refusals = (n : ℕ) (r : RackRefusal) → first_refusal refusals ≡ Some r → IsOfScript (refused_as n r)

refuses-none : Refuses []
refuses-none n r e = absurd cc

refuses-when : (test : Bool) (first : RackRefusal) (refusals : List (Option RackRefusal))
    → ((n : ℕ) → IsOfScript (refused_as n first)) → Refuses refusals → Refuses (when test first ∷ refusals)
refuses-when true first refusals h more n r e =
    let same : first ≡ r = cc in subst (λ (x : RackRefusal). IsOfScript (refused_as n x)) same (h n)
refuses-when false first refusals h more n r e = more n r e

refuses-limits : (plan : Planned) (at : Moment) (count : ℕ) → last_moment plan ≤ at.0 → Refuses (limits plan at count)
refuses-limits plan when_ count le =
    let later : nat_lt when_.0 (last_moment plan) ≡ false = le-ltb _ _ le in
    subst (λ (b : Bool). Refuses
    (when b (Base StampFell) ∷ when (nat_le 4096 (length plan.changes)) (Base (TooMany Changes)) ∷ when
    (nat_lt 1000000 (total_moves plan.changes + count)) (Base (TooMany Moves)) ∷ [])) (sym later)
    (λ n r e. refuses-when (nat_le 4096 (length plan.changes)) (Base (TooMany Changes)) _ (λ m. tt)
    (refuses-when (nat_lt 1000000 (total_moves plan.changes + count)) (Base (TooMany Moves)) [] (λ m. tt) refuses-none)
    n r e)

-- the change of a command is at its moment
moment-change : (c : Controlled) (at : Moment) (command : controller.Command)
    → (controller.change_of c at command).moment ≡ at
moment-change c at (AddServer s weight rack) = refl
moment-change c at (DrainServer s) = refl
moment-change c at (WeighServer s weight) = refl
moment-change c at (MoveBucket bucket s) = refl

refuses-active : (c : Controlled) (s : ServerId) (refusals : List (Option RackRefusal)) → Refuses refusals
    → Refuses (controller.unless_active c s ++ refusals)
refuses-active c s refusals more =
    refuses-when (not (knows c.plan s)) (Base UnknownServer) _ (λ n. tt)
    (refuses-when (not (is_member c.members s)) (Base NotActive) refusals (λ n. tt) more)

refuses-last : (c : Controlled) (s : ServerId) (refusals : List (Option RackRefusal)) → Refuses refusals
    → Refuses (controller.if_last c s ++ refusals)
refuses-last c s refusals more =
    refuses-when (nat_le (length c.members) 1) (Base LastServer) _ (λ n. tt)
    (refuses-when (nat_le (length (in_rack (rack_of c.members s) c.members)) 1) LastInRack refusals (λ n. tt) more)

refuses-fits : (c : Controlled) (bucket : ℕ) (s : ServerId) (refusals : List (Option RackRefusal)) → Refuses refusals
    → Refuses (controller.unless_fits c bucket s ++ refusals)
refuses-fits c bucket s refusals more =
    refuses-when (not (rack_of c.members s == bucket % c.racks)) WrongRack _ (λ n. tt)
    (refuses-when (same_server (server_now c.plan bucket) s) (Base SameServer) refusals (λ n. tt) more)

refuses-command : (c : Controlled) (at : Moment) (command : controller.Command) (count : ℕ) → last_moment c.plan ≤ at.0
    → Refuses (controller.unfit c command ++ limits c.plan at count)
refuses-command c at_ (AddServer s weight rack) count le =
    refuses-when (knows c.plan s) (Base KnownServer) _ (λ n. tt) (refuses-limits c.plan at_ count le)
refuses-command c at_ (DrainServer s) count le =
    refuses-active c s (controller.if_last c s ++ limits c.plan at_ count)
    (refuses-last c s (limits c.plan at_ count) (refuses-limits c.plan at_ count le))
refuses-command c at_ (WeighServer s weight) count le =
    refuses-active c s (limits c.plan at_ count) (refuses-limits c.plan at_ count le)
refuses-command c at_ (MoveBucket bucket s) count le =
    refuses-when (nat_le c.plan.buckets bucket) (Base BadBucket) _ (λ n. tt)
    (refuses-active c s (controller.unless_fits c bucket s ++ limits c.plan at_ count)
    (refuses-fits c bucket s (limits c.plan at_ count) (refuses-limits c.plan at_ count le)))

changed-ordered : (first : Planned) (n : ℕ) (p : Progress) (at : ℕ) (command : controller.Command)
    (answer : Option RackRefusal) → AreOrdered first n p → IsWithin p.last (4 * 10 ^ 18) at
    → ((k : ℕ) (r : RackRefusal) → answer ≡ Some r → IsOfScript (refused_as k r))
    → Meets (AreOrdered first (n + 1)) (changed p at command answer)
changed-ordered first n p at command (Some refusal) h range refuses = refuses (next p) refusal refl
changed-ordered first n p at command None h range refuses =
    let c = controller.change_of p.controller (record { 0 = at }) command in
    let moment : c.moment.0 ≡ at =
    ap (λ (m : Moment). m.0) (moment-change p.controller (record { 0 = at }) command) in
    subst (λ (m : ℕ). AreOrdered first (n + 1)
    (record {
      version = p.version;
      controller = controller.after p.controller (record { 0 = at }) command;
      last = m;
      commands =
          p.commands ++ ChangeCommand (record { 0 = length p.controller.plan.changes + 1 }) ∷ [];
    })) moment
    (with_change-ordered first n p (controller.members_after command p.controller.members) c h
    (subst (IsWithin p.last (4 * 10 ^ 18)) (sym moment) range))

asked_of_controller-ordered : (first : Planned) (n : ℕ) (p : Progress) (at : ℕ) (command : controller.Command)
    → AreOrdered first n p → IsWithin p.last (4 * 10 ^ 18) at
    → Meets (AreOrdered first (n + 1)) (asked_of_controller p at command)
asked_of_controller-ordered first n p at command h range =
    changed-ordered first n p at command _ h range
    (refuses-command p.controller (record { 0 = at }) command
    (length (controller.change_of p.controller (record { 0 = at }) command).moves)
    (omega (arith, h.plan_last, range.0)))

asked_of_known-ordered : (first : Planned) (n : ℕ) (p : Progress) (at : ℕ) (s : ServerId) (command : Command)
    (known : Bool) → AreOrdered first n p → IsWithin p.last (4 * 10 ^ 18) at → IsOther command
    → moment_of_command p.controller.plan command ≡ at → (known ≡ true → IsOfKnown p.controller.plan command)
    → Meets (AreOrdered first (n + 1))
    (cond known (Ok (with_command p at command)) (Err (Refused (next p) UnknownServer)))
asked_of_known-ordered first n p at s command true h range other moment known =
    with_command-ordered first n p at command h range other moment (known refl)
asked_of_known-ordered first n p at s command false h range other moment known = tt

-- A COMMAND

meets-added : (place : Place) (inside : Members) (stated : Bool)
    → Meets Any (cond stated (required place key.Weight values.weight inside) (Ok 1))
meets-added place inside true = meets-required place key.Weight values.weight Any inside (reads_any values.weight)
meets-added place inside false = tt

carried-ordered : (first : Planned) (n : ℕ) (p : Progress) (at : ℕ) (verb : Verb) (inside : Members)
    → AreOrdered first n p → IsWithin p.last (4 * 10 ^ 18) at
    → Meets (AreOrdered first (n + 1)) (carried p at verb inside)
carried-ordered first n p at Add inside h range =
    meets-then Any (AreOrdered first (n + 1)) _ _
    (meets-required (at_.Command (next p)) key.Server values.server Any inside (reads_any values.server)) λ s _.
    meets-then Any (AreOrdered first (n + 1)) _ _
    (meets-added (at_.Command (next p)) inside (nat_le 2 p.version)) λ weight _.
    asked_of_controller-ordered first n p at (AddServer s weight (settings.rack_of p.controller.racks s)) h range
carried-ordered first n p at Drain inside h range =
    meets-then Any (AreOrdered first (n + 1)) _ _
    (meets-required (at_.Command (next p)) key.Server values.server Any inside (reads_any values.server)) λ s _.
    asked_of_controller-ordered first n p at (DrainServer s) h range
carried-ordered first n p at Weigh inside h range =
    meets-then Any (AreOrdered first (n + 1)) _ _
    (meets-required (at_.Command (next p)) key.Server values.server Any inside (reads_any values.server)) λ s _.
    meets-then Any (AreOrdered first (n + 1)) _ _
    (meets-required (at_.Command (next p)) key.Weight values.weight Any inside (reads_any values.weight)) λ weight _.
    asked_of_controller-ordered first n p at (WeighServer s weight) h range
carried-ordered first n p at Move inside h range =
    meets-then Any (AreOrdered first (n + 1)) _ _
    (meets-required (at_.Command (next p)) key.Bucket (values.number 0 65535) Any inside
    (reads_any (values.number 0 65535))) λ bucket _.
    meets-then Any (AreOrdered first (n + 1)) _ _
    (meets-required (at_.Command (next p)) key.Server values.server Any inside (reads_any values.server)) λ s _.
    asked_of_controller-ordered first n p at (MoveBucket bucket s) h range
carried-ordered first n p at Close inside h range =
    meets-then Any (AreOrdered first (n + 1)) _ _
    (meets-required (at_.Command (next p)) key.Server values.server Any inside (reads_any values.server)) λ s _.
    meets-then Any (AreOrdered first (n + 1)) _ _
    (meets-required (at_.Command (next p)) key.From values.endpoint_value Any inside
    (reads_any values.endpoint_value)) λ from _.
    meets-then Any (AreOrdered first (n + 1)) _ _
    (meets-required (at_.Command (next p)) key.To values.endpoint_value Any inside
    (reads_any values.endpoint_value)) λ to _.
    asked_of_known-ordered first n p at s _ (knows p.controller.plan s) h range tt refl (λ known. known)
carried-ordered first n p at Retire inside h range =
    meets-then Any (AreOrdered first (n + 1)) _ _
    (meets-required (at_.Command (next p)) key.Server values.server Any inside (reads_any values.server)) λ s _.
    asked_of_known-ordered first n p at s _ (knows p.controller.plan s) h range tt refl (λ known. known)
carried-ordered first n p at Sync inside h range =
    with_command-ordered first n p at (SyncCommand (record { 0 = at })) h range tt refl tt

after_command-ordered : (first : Planned) (n : ℕ) (p : Progress) (inside : Members) → AreOrdered first n p
    → Meets (AreOrdered first (n + 1)) (after_command p inside)
after_command-ordered first n p inside h =
    meets-then (IsWithin p.last (4 * 10 ^ 18)) (AreOrdered first (n + 1)) _ _
    (meets-required (at_.Command (next p)) key.At (values.number p.last (4 * 10 ^ 18)) (IsWithin p.last (4 * 10 ^ 18))
    inside (reads-number p.last (4 * 10 ^ 18))) λ at range.
    meets-then Any (AreOrdered first (n + 1)) _ _
    (meets-required (at_.Command (next p)) key.Do (values.verb p.version) Any inside
    (reads_any (values.verb p.version))) λ verb _.
    meets-then Any (AreOrdered first (n + 1)) _ _
    (meets-only_keys (at_.Command (next p)) p.version (verb_keys verb) inside) λ only _.
    carried-ordered first n p at verb inside h range

-- THE COMMANDS

pub commands-ordered : (first : Planned) (n m : ℕ) (p : Progress) (items : Items) → m ≡ n + values.count items
    → AreOrdered first n p → Meets (AreOrdered first m) (after_commands p items)
commands-ordered first n m p no_items many h = subst (λ (k : ℕ). AreOrdered first k p) (omega (arith, many)) h
commands-ordered first n m p (item d items) many h =
    meets-then Any (AreOrdered first m) _ _ (meets_valued at_.Top key.Command Any (as_table d) (λ y e. tt)) λ inside _.
    meets-then (AreOrdered first (n + 1)) (AreOrdered first m) _ _ (after_command-ordered first n p inside h) λ q are.
    commands-ordered first (n + 1) m q items (omega (arith, many)) are
