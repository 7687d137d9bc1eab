-- The clocks of a replay stay small: each event adds at most a minute and one to the greatest stated moment.
use Rattle.std.proofs.Common.{◌≡◌, ℕ, zero, suc, ◌+◌, ◌-◌, ◌*◌, ◌^◌, ◌<◌, ◌≤◌, inl, inr, List, [], ◌∷◌, ◌++◌, Option}
use Rattle.std.proofs.Common.{Some, None, is_some, length, refl, subst, arith}
use Rattle.std.specs.Prelude.{IfSome, nat_lt, map, slice_index_or}
use Rattle.std.proofs.lemmas.Bool.{cases_Bool, cases_lt}
use Rattle.std.proofs.lemmas.Option.{slice_get_within}
use Rattle.bm_base.specs.declared.capture.Record.{Record}
use Rattle.bm_base.specs.declared.ids.ServerId.{ServerId}
use Rattle.bm_base.specs.declared.fate.Fate.{Fate}
use Rattle.bm_table.specs.declared.plan.Change.{Change}
use Rattle.bm_table.specs.declared.script.Command.{Command}
use Rattle.bm_table.specs.declared.script.Command.TheVariants.{Change as ChangeCommand, Close as CloseCommand}
use Rattle.bm_table.specs.declared.script.Command.TheVariants.{Retire as RetireCommand, Sync as SyncCommand}
use Rattle.bm_table.specs.Planned.{Planned}
use Rattle.bm_table.specs.Tables.{next_change, change_moment}
use Rattle.bm_core.specs.declared.events.What.{What}
use Rattle.bm_core.specs.declared.events.What.TheVariants.{Publish, Switch, Steer, Lose, Arrive, Close, Retire, Sync}
use Rattle.bm_core.specs.declared.events.Event.{Event}
use Rattle.bm_core.specs.declared.events.Stage.{Stage}
use Rattle.bm_core.specs.declared.schedule.Call.{Call}
use Rattle.bm_core.specs.declared.schedule.Due.{Due}
use Rattle.bm_core.specs.Schedule.{Underway}
use Rattle.bm_core.specs.Past.{is_switch_of, steerable, newest, Sending, sending_of}
use Rattle.bm_core.specs.Stages.{AreRising, NamesVersions, moment_of_command, IsSound}
use Rattle.bm_core.specs.Runs.{last_clock}
use Rattle.bm_core.specs.Accounts.{counts, fate_now, before}
use Rattle.bm_core.specs.Schedule.{call_of, least, put, put_all, put_sent, rest, after_arrive, wire, due_loss}
use Rattle.bm_core.specs.Schedule.{publish_due, switch_due, switches_due, close_commands, retire_dues, retire_commands}
use Rattle.bm_core.specs.Schedule.{sync_commands, packets_from, arrival_due, dropped, first_of, closes, retires, syncs}
use Rattle.bm_core.specs.Schedule.{steers, can_come, ComesNext, IsDueCall, Follows}
use Rattle.bm_core.specs.Soon.{IsSoon, AreSoon}
use Rattle.bm_core.proofs.Schedules.{Each, each_append, each_dropped, least_is}

-- THE STATED MOMENTS

-- no stated moment but that of a copy is above this
abbrev pub latest_moment : ℕ
latest_moment = 45 * 10 ^ 17

-- the clocks after n events are at most this
abbrev pub clock_bound : ℕ → ℕ
clock_bound n = latest_moment + n * 60000000001

abbrev IsBy : ℕ → Due → Type 0
IsBy top d = d.moment ≤ top

-- the commands' moments

abbrev AreBy : Planned → ℕ → List Command → Type 0
AreBy plan top [] = Unit {0}
AreBy plan top (c ∷ commands) = (moment_of_command plan c ≤ top) × AreBy plan top commands

are_by : (plan : Planned) (low top : ℕ) (commands : List Command)
    → AreRising low top (map (λ c. moment_of_command plan c) commands) → AreBy plan top commands
are_by plan low top [] rise = tt
are_by plan low top (c ∷ commands) rise = (rise.1, are_by plan (moment_of_command plan c) top commands rise.2)

closes_by : (plan : Planned) (top : ℕ) (commands : List Command) → AreBy plan top commands
    → Each (IsBy top) (close_commands commands)
closes_by plan top [] by = tt
closes_by plan top (CloseCommand at s f ∷ commands) by = (by.0, closes_by plan top commands by.1)
closes_by plan top (ChangeCommand v ∷ commands) by = closes_by plan top commands by.1
closes_by plan top (RetireCommand at s ∷ commands) by = closes_by plan top commands by.1
closes_by plan top (SyncCommand at ∷ commands) by = closes_by plan top commands by.1

syncs_by : (plan : Planned) (top : ℕ) (commands : List Command) → AreBy plan top commands
    → Each (IsBy top) (sync_commands commands)
syncs_by plan top [] by = tt
syncs_by plan top (CloseCommand at s f ∷ commands) by = syncs_by plan top commands by.1
syncs_by plan top (ChangeCommand v ∷ commands) by = syncs_by plan top commands by.1
syncs_by plan top (RetireCommand at s ∷ commands) by = syncs_by plan top commands by.1
syncs_by plan top (SyncCommand at ∷ commands) by = (by.0, syncs_by plan top commands by.1)

retire_dues_by : (s : ServerId) (at top n : ℕ) → at ≤ top → Each (IsBy top) (retire_dues s at n)
retire_dues_by s at top zero le = tt
retire_dues_by s at top (suc n) le =
    each_append (IsBy top) (retire_dues s at n) _ (retire_dues_by s at top n le) (le, tt)

retires_by : (plan : Planned) (top shards : ℕ) (commands : List Command) → AreBy plan top commands
    → Each (IsBy top) (retire_commands shards commands)
retires_by plan top shards [] by = tt
retires_by plan top shards (CloseCommand at s f ∷ commands) by = retires_by plan top shards commands by.1
retires_by plan top shards (ChangeCommand v ∷ commands) by = retires_by plan top shards commands by.1
retires_by plan top shards (RetireCommand at s ∷ commands) by =
    each_append (IsBy top) (retire_dues s at.0 shards) _ (retire_dues_by s at.0 top shards by.0)
    (retires_by plan top shards commands by.1)
retires_by plan top shards (SyncCommand at ∷ commands) by = retires_by plan top shards commands by.1

-- each change has its command, whose moment is the change's
changes_by : (plan : Planned) (top next last : ℕ) (commands : List Command) → NamesVersions next last commands
    → AreBy plan top commands → (v : ℕ) → next ≤ v → v ≤ last → change_moment (next_change plan (v - 1)) ≤ top
changes_by plan top next last [] names by v low high = absurd (omega arith)
changes_by plan top next last (ChangeCommand w ∷ commands) names by v low high = elim (cases_lt next v) [
  | inl later ↦ changes_by plan top (next + 1) last commands names.1 by.1 v (omega arith) high
  | inr now ↦
      let same : w.0 ≡ v = (let e = names.0 in omega arith)
      in subst (λ (n : ℕ). change_moment (next_change plan (n - 1)) ≤ top) same by.0
]
changes_by plan top next last (CloseCommand at s f ∷ commands) names by v low high =
    changes_by plan top next last commands names by.1 v low high
changes_by plan top next last (RetireCommand at s ∷ commands) names by v low high =
    changes_by plan top next last commands names by.1 v low high
changes_by plan top next last (SyncCommand at ∷ commands) names by v low high =
    changes_by plan top next last commands names by.1 v low high

packets_by : (low top k : ℕ) (records : List Record) → AreRising low top (map (λ r. r.moment.0) records)
    → Each (IsBy top) (packets_from k records)
packets_by low top k [] rise = tt
packets_by low top k (r ∷ records) rise = elim (cases_Bool (is_some (steerable (Some r)))) [
  | inl is ↦ rw is (rise.1, packets_by r.moment.0 top (suc k) records rise.2)
  | inr other ↦ rw other (packets_by r.moment.0 top (suc k) records rise.2)
]

each_weaker : (low top : ℕ) → low ≤ top → (dues : List Due) → Each (IsBy low) dues → Each (IsBy top) dues
each_weaker low top le [] each = tt
each_weaker low top le (d ∷ dues) each = ((let h = each.0 in omega arith), each_weaker low top le dues each.1)

first_by : (top n : ℕ) (dues : List Due) → Each (IsBy top) dues → Each (IsBy top) (first_of (dropped n dues))
first_by top n dues each = first (dropped n dues) (each_dropped (IsBy top) n dues each) where
  first : (xs : List Due) → Each (IsBy top) xs → Each (IsBy top) (first_of xs)
  first [] all = tt
  first (x ∷ xs) all = (all.0, tt)

change_by : (stage : Stage) → IsSound stage → (v : ℕ) (c : Change) → next_change stage.script.plan v ≡ Some c
    → c.moment.0 ≤ 4 * 10 ^ 18
change_by stage sound v c is =
    let within : v < length stage.script.plan.changes = slice_get_within stage.script.plan.changes v c is
    in let by = are_by stage.script.plan 0 (4 * 10 ^ 18) stage.script.commands sound.script.commands_rise
    in let h =
    changes_by stage.script.plan (4 * 10 ^ 18) 1 (length stage.script.plan.changes) stage.script.commands
    sound.script.versions by (suc v) (omega arith) (omega arith)
    in let one_less : suc v - 1 ≡ v = omega arith
    in let m : change_moment (next_change stage.script.plan v) ≤ 4 * 10 ^ 18 =
    subst (λ (n : ℕ). change_moment (next_change stage.script.plan n) ≤ 4 * 10 ^ 18) one_less h
    in subst (λ (o : Option Change). change_moment o ≤ 4 * 10 ^ 18) is m

publish_by : (stage : Stage) → IsSound stage → (v : ℕ) (o : Option Change) → next_change stage.script.plan v ≡ o
    → Each (IsBy latest_moment) (publish_due v o)
publish_by stage sound v None is = tt
publish_by stage sound v (Some c) is = ((let h = change_by stage sound v c is in omega arith), tt)

switch_by : (stage : Stage) → IsSound stage → (m v : ℕ) → m < stage.script.setting.muxes → (o : Option Change)
    → next_change stage.script.plan v ≡ o
    → Each (IsBy latest_moment)
    (switch_due stage.script.setting.muxes (slice_index_or stage.script.setting.lags m 0) m v o)
switch_by stage sound m v below None is = tt
switch_by stage sound m v below (Some c) is =
    let h = change_by stage sound v c is
    in let count = sound.script.setting.lag_of_each
    in let there : m < length stage.script.setting.lags = omega arith
    in let lag : slice_index_or stage.script.setting.lags m 0 ≤ 86400 * 10 ^ 9 = sound.script.setting.lags m 0 there
    in ((omega arith), tt)

switches_by : (stage : Stage) → IsSound stage → (past : List Event) (n : ℕ) → n ≤ stage.script.setting.muxes
    → Each (IsBy latest_moment) (switches_due stage past n)
switches_by stage sound past zero le = tt
switches_by stage sound past (suc m) le =
    each_append (IsBy latest_moment) (switches_due stage past m) _ (switches_by stage sound past m (omega arith))
    (switch_by stage sound m (counts past (λ what. is_switch_of what m)) (omega arith)
    (next_change stage.script.plan (counts past (λ what. is_switch_of what m))) refl)

-- the copies under way are due no later than this
abbrev pub AllBy : ℕ → List Underway → Type 0
AllBy top [] = Unit {0}
AllBy top (u ∷ w) = (u.moment ≤ top) × AllBy top w

arrival_by : (top : ℕ) (w : List Underway) → AllBy top w → Each (IsBy top) (arrival_due w)
arrival_by top [] all = tt
arrival_by top (u ∷ w) all = (all.0, tt)

-- no stated moment is later than this
can_come_by : (stage : Stage) → IsSound stage → (past : List Event) (w : List Underway) (top : ℕ) → latest_moment ≤ top
    → AllBy top w → Each (IsBy top) (can_come w stage past)
can_come_by stage sound past w top le all =
    both _ _ (both _ _
    (both _ _
    (both _ _
    (both _ _
    (both _ _ (low _ (publish_by stage sound (newest past) (next_change stage.script.plan (newest past)) refl))
    (low _ (switches_by stage sound past stage.script.setting.muxes (omega arith))))
    (low _ (first_by latest_moment (counts past (λ what. closes (call_of what))) _
    (command _ (closes_by stage.script.plan (4 * 10 ^ 18) stage.script.commands by)))))
    (low _ (first_by latest_moment (counts past (λ what. retires (call_of what))) _
    (command _ (retires_by stage.script.plan (4 * 10 ^ 18) stage.script.setting.shards stage.script.commands by)))))
    (low _ (first_by latest_moment (counts past (λ what. syncs (call_of what))) _
    (command _ (syncs_by stage.script.plan (4 * 10 ^ 18) stage.script.commands by)))))
    (arrival_by top w all))
    (low _ (first_by latest_moment (counts past (λ what. steers (call_of what))) _
    (each_weaker (44 * 10 ^ 17) latest_moment (omega arith) _
    (packets_by 0 (44 * 10 ^ 17) 1 stage.capture.records sound.capture.rise)))) where
      by : AreBy stage.script.plan (4 * 10 ^ 18) stage.script.commands
      by = are_by stage.script.plan 0 (4 * 10 ^ 18) stage.script.commands sound.script.commands_rise

      both : (xs ys : List Due) → Each (IsBy top) xs → Each (IsBy top) ys → Each (IsBy top) (xs ++ ys)
      both xs ys a b = each_append (IsBy top) xs ys a b

      low : (xs : List Due) → Each (IsBy latest_moment) xs → Each (IsBy top) xs
      low xs each = each_weaker latest_moment top le xs each

      command : (xs : List Due) → Each (IsBy (4 * 10 ^ 18)) xs → Each (IsBy latest_moment) xs
      command xs each = each_weaker (4 * 10 ^ 18) latest_moment (omega arith) xs each

-- THE COPIES UNDER WAY

all_weaker : (low top : ℕ) → low ≤ top → (w : List Underway) → AllBy low w → AllBy top w
all_weaker low top le [] all = tt
all_weaker low top le (u ∷ w) all = ((let h = all.0 in omega arith), all_weaker low top le w all.1)

put_by : (top : ℕ) (u : Underway) (w : List Underway) → u.moment ≤ top → AllBy top w → AllBy top (put u w)
put_by top u [] le all = (le, tt)
put_by top u (x ∷ w) le all = elim (cases_Bool (nat_lt u.moment x.moment)) [
  | inl is ↦ rw is (le, all)
  | inr other ↦ rw other (all.0, put_by top u w le all.1)
]

put_all_by : (top n : ℕ) (u : Underway) (w : List Underway) → u.moment ≤ top → AllBy top w → AllBy top (put_all n u w)
put_all_by top zero u w le all = all
put_all_by top (suc n) u w le all = put_by top u (put_all n u w) le (put_all_by top n u w le all)

sent_by : (top : ℕ) (f : Fate) (place clock : ℕ) (o : Option Sending) (w : List Underway) → IfSome o (λ s. IsSoon f)
    → clock + 60 * 10 ^ 9 ≤ top → AllBy top w → AllBy top (put_sent f place clock o w)
sent_by top f place clock None w soon le all = all
sent_by top f place clock (Some s) w soon le all =
    put_all_by top f.copies (record { moment = clock + f.delay; place = place; packet = s.packet; hop = s.hop }) w
    (let h = soon.1 in omega arith) all

rest_by : (top : ℕ) (w : List Underway) → AllBy top w → AllBy top (rest w)
rest_by top [] all = tt
rest_by top (u ∷ w) all = all.1

after_by : (top : ℕ) (what : What) (w : List Underway) → AllBy top w → AllBy top (after_arrive what w)
after_by top (Arrive k hop server verdict) w all = rest_by top w all
after_by top (Publish v) w all = all
after_by top (Switch m v) w all = all
after_by top (Steer k m) w all = all
after_by top (Lose k hop) w all = all
after_by top (Close server flow closed) w all = all
after_by top (Retire server h at result) w all = all
after_by top Sync w all = all

-- THE CLOCKS

least_clock : (past : List Event) (e : Event) (top : ℕ) (o : Option Due) → last_clock past ≤ top → IfSome o (IsBy top)
    → IsDueCall past e o → e.clock.0 ≤ suc top
least_clock past e top None last by is = absurd is
least_clock past e top (Some d) last by is = let c = is.1 in omega arith

event_clock : (dues : List Due) (past : List Event) (e : Event) (top : ℕ) (loss : Option Call) → last_clock past ≤ top
    → Each (IsBy top) dues → ComesNext loss dues past e → e.clock.0 ≤ suc top
event_clock dues past e top (Some l) last each is = let c = is.1 in omega arith
event_clock dues past e top None last each is =
    least_clock past e top (least dues) last (least_is (IsBy top) dues each) is

-- a replay's clocks, and the moments at which copies are due
pub record IsSlow (fates : List Fate) (past : List Event) : Type 0 where
  pub clock : last_clock past ≤ clock_bound (length past)
  pub copies : AllBy (clock_bound (length past)) (wire fates past)

pub paced : (fates : List Fate) (stage : Stage) (past : List Event) → IsSound stage → Follows fates stage past
    → AreSoon fates past → IsSlow fates past
paced fates stage [] sound follows soon = record { clock = omega arith; copies = tt }
paced fates stage (e ∷ past) sound follows soon =
    let old = paced (before fates) stage past sound follows.1 soon.1
    in let last = old.clock
    in let each =
    can_come_by stage sound past (wire (before fates) past) (clock_bound (length past)) (omega arith) old.copies
    in let clock : e.clock.0 ≤ suc (clock_bound (length past)) =
    event_clock (can_come (wire (before fates) past) stage past) past e (clock_bound (length past))
    (due_loss (before fates) past) last each follows.0
    in record {
      clock = omega arith;
      copies = sent_by (clock_bound (suc (length past))) (fate_now fates) (length past) e.clock.0 (sending_of e.what) _
          soon.0 (omega arith)
          (after_by (clock_bound (suc (length past))) e.what _
          (all_weaker (clock_bound (length past)) (clock_bound (suc (length past))) (omega arith) _ old.copies));
    }
