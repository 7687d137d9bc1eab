-- What comes next in the state is what the schedule says.
use Rattle.std.proofs.Common.{◌≡◌, ℕ, zero, suc, ◌<◌, Bool, true, false, ◌&&◌, inl, inr, List, [], ◌∷◌, ◌++◌, Option}
use Rattle.std.proofs.Common.{Some, None, is_some, if◌then◌else◌, refl, sym, ap, subst, ◌∙◌, arith}
use Rattle.std.specs.Prelude.{IfSome}
use Rattle.std.proofs.lemmas.Bool.{cases_Bool, and_parts}
use Rattle.std.proofs.lemmas.Bool.Decides.{nat_tests}
use Rattle.bm_base.specs.declared.ids.Moment.{Moment}
use Rattle.bm_base.specs.declared.ids.ServerId.{ServerId}
use Rattle.bm_base.specs.declared.capture.Record.{Record}
use Rattle.bm_table.specs.declared.plan.Change.{Change}
use Rattle.bm_table.specs.declared.script.Command.{Command}
use Rattle.bm_table.specs.declared.script.Command.TheVariants.{Change as ChangeCommand, Close as CloseCommand}
use Rattle.bm_table.specs.declared.script.Command.TheVariants.{Retire as RetireCommand, Sync as SyncCommand}
use Rattle.bm_table.specs.Tables.{next_change}
use Rattle.bm_core.specs.declared.events.Event.{Event}
use Rattle.bm_core.specs.declared.events.Stage.{Stage}
use Rattle.bm_core.specs.declared.schedule.Call.TheVariants.{Arrives}
use Rattle.bm_core.specs.declared.schedule.Call.TheVariants.{Steers}
use Rattle.bm_core.specs.declared.schedule.Due.{Due}
use Rattle.bm_core.specs.Schedule.{Underway}
use Rattle.bm_core.specs.Past.{is_switch_of, newest, steerable}
use Rattle.bm_core.specs.Accounts.{counts}
use Rattle.bm_core.specs.Schedule.{arrival_due, call_of, close_commands, closes, comes_first, dropped, first_of, least}
use Rattle.bm_core.specs.Schedule.{left, packets_from, publish_due, retire_commands, retire_dues, retires, switch_due}
use Rattle.bm_core.specs.Schedule.{switches_due, sync_commands, syncs, rank_of}
use Rattle.bm_core.proofs.Schedules.{Each, each_append, each_dropped}
use Rattle.bm_replay.specs.declared.coming.Coming.{Coming}
use Rattle.bm_replay.specs.declared.coming.Coming.TheVariants.{Arrive, Call, Over}
use Rattle.bm_replay.specs.Inside.Queues.{IsHead}
use Rattle.bm_replay.specs.Inside.Comings.{is_before, is_no_later, first_coming, sooner_of, coming_of}

-- RANKS

-- what is due has this rank
pub record HasRank (rank : ℕ) (d : Due) : Type 0 where
  pub is_rank : rank_of d.call ≡ rank

-- it is a change or a command
pub record IsCommand (d : Due) : Type 0 where
  pub early : rank_of d.call < 5

all_commands : (rank : ℕ) → rank < 5 → (dues : List Due) → Each (HasRank rank) dues → Each IsCommand dues
all_commands rank low [] each = tt
all_commands rank low (d ∷ dues) each = (
  record { early = (let h = each.0.is_rank in omega arith) },
  all_commands rank low dues each.1,
)

publish_rank : (v : ℕ) (o : Option Change) → Each (HasRank 0) (publish_due v o)
publish_rank v None = tt
publish_rank v (Some c) = (record { is_rank = refl }, tt)

switch_rank : (muxes lag m v : ℕ) (o : Option Change) → Each (HasRank 1) (switch_due muxes lag m v o)
switch_rank muxes lag m v None = tt
switch_rank muxes lag m v (Some c) = (record { is_rank = refl }, tt)

switches_rank : (stage : Stage) (past : List Event) (n : ℕ) → Each (HasRank 1) (switches_due stage past n)
switches_rank stage past zero = tt
switches_rank stage past (suc m) =
    each_append (HasRank 1) (switches_due stage past m) _ (switches_rank stage past m)
    (switch_rank stage.script.setting.muxes _ m (counts past (λ what. is_switch_of what m))
    (next_change stage.script.plan (counts past (λ what. is_switch_of what m))))

closes_rank : (commands : List Command) → Each (HasRank 2) (close_commands commands)
closes_rank [] = tt
closes_rank (CloseCommand at s f ∷ commands) = (record { is_rank = refl }, closes_rank commands)
closes_rank (ChangeCommand v ∷ commands) = closes_rank commands
closes_rank (RetireCommand at s ∷ commands) = closes_rank commands
closes_rank (SyncCommand at ∷ commands) = closes_rank commands

retire_rank : (s : ServerId) (at n : ℕ) → Each (HasRank 3) (retire_dues s at n)
retire_rank s at zero = tt
retire_rank s at (suc n) =
    each_append (HasRank 3) (retire_dues s at n) _ (retire_rank s at n) (record { is_rank = refl }, tt)

retires_rank : (shards : ℕ) (commands : List Command) → Each (HasRank 3) (retire_commands shards commands)
retires_rank shards [] = tt
retires_rank shards (CloseCommand at s f ∷ commands) = retires_rank shards commands
retires_rank shards (ChangeCommand v ∷ commands) = retires_rank shards commands
retires_rank shards (RetireCommand at s ∷ commands) =
    each_append (HasRank 3) (retire_dues s at.0 shards) _ (retire_rank s at.0 shards) (retires_rank shards commands)
retires_rank shards (SyncCommand at ∷ commands) = retires_rank shards commands

syncs_rank : (commands : List Command) → Each (HasRank 4) (sync_commands commands)
syncs_rank [] = tt
syncs_rank (CloseCommand at s f ∷ commands) = syncs_rank commands
syncs_rank (ChangeCommand v ∷ commands) = syncs_rank commands
syncs_rank (RetireCommand at s ∷ commands) = syncs_rank commands
syncs_rank (SyncCommand at ∷ commands) = (record { is_rank = refl }, syncs_rank commands)

steered_rank : (b : Bool) (r : Record) (k : ℕ) (others : List Due) → Each (HasRank 6) others
    → Each (HasRank 6)
    (if b then record { moment = r.moment.0; number = k; call = Steers k } ∷ others else others)
steered_rank true r k others each = (record { is_rank = refl }, each)
steered_rank false r k others each = each

pub packets_rank : (k : ℕ) (records : List Record) → Each (HasRank 6) (packets_from k records)
packets_rank k [] = tt
packets_rank k (r ∷ records) =
    steered_rank (is_some (steerable (Some r))) r k (packets_from (suc k) records) (packets_rank (suc k) records)

first_rank : (rank : ℕ) (dues : List Due) → Each (HasRank rank) dues → Each (HasRank rank) (first_of dues)
first_rank rank [] each = tt
first_rank rank (d ∷ dues) each = (each.0, tt)

pub left_rank : (rank : ℕ) (dues : List Due) (n : ℕ) → Each (HasRank rank) dues
    → Each (HasRank rank) (first_of (dropped n dues))
left_rank rank dues n each = first_rank rank (dropped n dues) (each_dropped (HasRank rank) n dues each)

-- HEADS

-- the head is the least of the first
pub head_least : (dues others : List Due) (o : Option Due) → IsHead dues others o → least (first_of dues) ≡ o
head_least dues others None is = rw is refl
head_least dues others (Some d) is = rw is refl

-- the head comes first
pub head_first : (dues others : List Due) (o : Option Due) (d : Due) → IsHead dues others o → first_of dues ≡ d ∷ []
    → (o ≡ Some d) × (dropped 1 dues ≡ others)
head_first dues others None d is first =
    absurd (let h : first_of dues ≡ [] = rw is refl in let bad : ◌≡◌ {A = List Due} [] (d ∷ []) = sym h ∙ first in cc)
head_first dues others (Some x) d is first =
    let h : first_of dues ≡ x ∷ [] = rw is refl
    in let both : ◌≡◌ {A = List Due} (x ∷ []) (d ∷ []) = sym h ∙ first
    in let same : x ≡ d = cc
    in (ap (λ (y : Due). Some y) same, rw is refl)

-- WHAT COMES NEXT

-- the changes and commands that can come
abbrev pub commands_due : Stage → List Event → List Due
commands_due stage past =
    publish_due (newest past) (next_change stage.script.plan (newest past))
    ++ switches_due stage past stage.script.setting.muxes
    ++ first_of (left (close_commands stage.script.commands) past closes)
    ++ first_of (left (retire_commands stage.script.setting.shards stage.script.commands) past retires)
    ++ first_of (left (sync_commands stage.script.commands) past syncs)

pub commands_are : (stage : Stage) (past : List Event) → Each IsCommand (commands_due stage past)
commands_are stage past =
    both _ _ (both _ _
    (both _ _
    (both _ _
    (all_commands 0 (omega arith) _ (publish_rank (newest past) (next_change stage.script.plan (newest past))))
    (all_commands 1 (omega arith) _ (switches_rank stage past stage.script.setting.muxes)))
    (all_commands 2 (omega arith) _
    (left_rank 2 _ (counts past (λ what. closes (call_of what))) (closes_rank stage.script.commands))))
    (all_commands 3 (omega arith) _
    (left_rank 3 _ (counts past (λ what. retires (call_of what)))
    (retires_rank stage.script.setting.shards stage.script.commands))))
    (all_commands 4 (omega arith) _
    (left_rank 4 _ (counts past (λ what. syncs (call_of what))) (syncs_rank stage.script.commands))) where
      both : (xs ys : List Due) → Each IsCommand xs → Each IsCommand ys → Each IsCommand (xs ++ ys)
      both xs ys a b = each_append IsCommand xs ys a b

-- the copy that is due first
abbrev pub copy_due : Underway → Due
copy_due u = record { moment = u.moment; number = u.place; call = Arrives u.packet u.hop }

-- what comes of the soonest command, the copies under way and the next packet
abbrev pub IsComingOf : Option Due → List Underway → Option Due → Coming → Type 0
IsComingOf command w packet (Call d) =
    (sooner_of (sooner_of command (least (arrival_due w))) packet ≡ Some d) × (rank_of d.call ≡ 5 → ⊥)
IsComingOf command w packet (Arrive m) =
    (u : Underway) × (others : List Underway) × (w ≡ u ∷ others) × (m.0 ≡ u.moment)
    × (sooner_of (sooner_of command (least (arrival_due w))) packet ≡ Some (copy_due u))
IsComingOf command w packet Over = (command ≡ None) × (w ≡ []) × (packet ≡ None)

called : (command packet : Option Due) → IfSome command IsCommand → IfSome packet (HasRank 6)
    → IsComingOf command [] packet (coming_of (sooner_of command packet))
called None None early late = (refl, refl, refl)
called (Some c) None early late = (refl, (let h = early.early in λ e. omega arith))
called None (Some p) early late = (refl, (let h = late.is_rank in λ e. omega arith))
called (Some c) (Some p) early late = elim (cases_Bool (comes_first p c)) [
  | inl first ↦ rw first (rw first refl, (let h = late.is_rank in λ e. omega arith))
  | inr later ↦ rw later (rw later refl, (let h = early.early in λ e. omega arith))
]

-- the copy is due before the command and no later than the packet
copy_first : (command packet : Option Due) (u : Underway) → IfSome command IsCommand → IfSome packet (HasRank 6)
    → is_before u.moment command ≡ true → is_no_later u.moment packet ≡ true
    → sooner_of (sooner_of command (Some (copy_due u))) packet ≡ Some (copy_due u)
copy_first None None u early late before no_later = refl
copy_first (Some c) None u early late before no_later = let h = early.early in grind (arith, nat_tests)
copy_first None (Some p) u early late before no_later = let h = late.is_rank in grind (arith, nat_tests)
copy_first (Some c) (Some p) u early late before no_later =
    let h = early.early in let k = late.is_rank in grind (arith, nat_tests)

-- or else it isn't the least
copy_later : (command packet : Option Due) (u : Underway) → IfSome command IsCommand → IfSome packet (HasRank 6)
    → (is_before u.moment command && is_no_later u.moment packet) ≡ false
    → sooner_of (sooner_of command (Some (copy_due u))) packet ≡ sooner_of command packet
copy_later None None u early late other = absurd (cc)
copy_later (Some c) None u early late other = let h = early.early in grind (arith, nat_tests)
copy_later None (Some p) u early late other = let h = late.is_rank in grind (arith, nat_tests)
copy_later (Some c) (Some p) u early late other =
    let h = early.early in let k = late.is_rank in grind (arith, nat_tests)

with_copy : (command packet : Option Due) (u : Underway) (others : List Underway) (t : Coming)
    → t ≡ coming_of (sooner_of command packet) → IsComingOf command [] packet t
    → sooner_of (sooner_of command (Some (copy_due u))) packet ≡ sooner_of command packet
    → (is_before u.moment command && is_no_later u.moment packet) ≡ false → IsComingOf command (u ∷ others) packet t
with_copy command packet u others (Call d) is come same other = (same ∙ come.0, come.1)
with_copy command packet u others (Arrive m) is come same other =
    absurd (no_arrival (sooner_of command packet) is) where
      no_arrival : (o : Option Due) → ◌≡◌ {A = Coming} (Arrive m) (coming_of o) → ⊥
      no_arrival None e = absurd (cc)
      no_arrival (Some d) e = absurd (cc)
with_copy command packet u others Over is come same other =
    absurd (let bad : (is_before u.moment None && is_no_later u.moment None) ≡ false =
    subst (λ (o : Option Due). (is_before u.moment o && is_no_later u.moment None) ≡ false) come.0
    (subst (λ (o : Option Due). (is_before u.moment command && is_no_later u.moment o) ≡ false) come.2 other) in cc)

-- the first copy of a wire is due at the moment, where there is one
abbrev pub IsFirstDue : Option Moment → List Underway → Type 0
IsFirstDue None w = w ≡ []
IsFirstDue (Some m) w = (u : Underway) × (others : List Underway) × (w ≡ u ∷ others) × (m.0 ≡ u.moment)

comes_with : (command packet : Option Due) (m : Moment) (u : Underway) (others : List Underway)
    → IfSome command IsCommand → IfSome packet (HasRank 6) → m.0 ≡ u.moment
    → IsComingOf command (u ∷ others) packet (first_coming command (Some m) packet)
comes_with command packet m u others early late same =
    elim (cases_Bool (is_before m.0 command && is_no_later m.0 packet)) [
      | inl first ↦
          let parts = and_parts (is_before m.0 command) (is_no_later m.0 packet) first
          in let before : is_before u.moment command ≡ true = subst (λ (n : ℕ). is_before n command ≡ true) same parts.0
          in let no_later : is_no_later u.moment packet ≡ true =
          subst (λ (n : ℕ). is_no_later n packet ≡ true) same parts.1
          in rw first (u, others, refl, same, copy_first command packet u early late before no_later)
      | inr other ↦
          let not_it : (is_before u.moment command && is_no_later u.moment packet) ≡ false =
          subst (λ (n : ℕ). (is_before n command && is_no_later n packet) ≡ false) same other
          in rw other
          (with_copy command packet u others (coming_of (sooner_of command packet)) refl
          (called command packet early late)
          (copy_later command packet u early late not_it) not_it)
    ]

pub coming_is : (command packet : Option Due) (o : Option Moment) (w : List Underway) → IfSome command IsCommand
    → IfSome packet (HasRank 6) → IsFirstDue o w → IsComingOf command w packet (first_coming command o packet)
coming_is command packet None w early late none =
    subst (λ (v : List Underway). IsComingOf command v packet (coming_of (sooner_of command packet))) (sym none)
    (called command packet early late)
coming_is command packet (Some m) w early late first =
    subst (λ (v : List Underway). IsComingOf command v packet (first_coming command (Some m) packet)) (sym first.2)
    (comes_with command packet m first.0 first.1 early late first.3)
