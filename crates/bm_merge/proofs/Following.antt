-- The merged notes follow their script as the workers of a threaded run do.
use Rattle.std.proofs.Common.{◌≡◌, ℕ, zero, suc, ◌+◌, ◌<◌, ◌≤◌, max, Bool, true, false, cond, ◌&&◌, ◌||◌, not, inl}
use Rattle.std.proofs.Common.{inr, List, [], ◌∷◌, ◌++◌, Option, Some, refl, sym, ap, ◌∙◌, subst, arith, leb, ltb}
use Rattle.std.proofs.Common.{eqb}
use Rattle.std.specs.Prelude.{IfSome, length, slice_get, reverse}
use Rattle.std.specs.List.{AllByRecursion}
use Rattle.std.proofs.lemmas.Bool.{cases_Bool, cases_lt, le-leb, le-ltb, lt-ltb, and_right, and_from, eqb-true}
use Rattle.std.proofs.lemmas.Bool.{eq-eqb}
use Rattle.std.proofs.lemmas.List.{reverse-reverse}
use Rattle.bm_core.specs.declared.events.What.{What}
use Rattle.bm_core.specs.declared.events.What.TheVariants.{Publish, Switch, Steer, Lose, Arrive, Close, Retire, Sync}
use Rattle.bm_core.specs.declared.events.Event.{Event}
use Rattle.bm_core.specs.declared.events.Stage.{Stage}
use Rattle.bm_core.specs.declared.events.History.{History}
use Rattle.bm_core.specs.Past.{is_switch_of}
use Rattle.bm_core.specs.Runs.{Actor, actor_of, is_by, own_clock, last_clock}
use Rattle.bm_core.specs.Runs.Actor.{Controller}
use Rattle.bm_core.specs.Accounts.{Routes, Rules, IsAccountOf}
use Rattle.bm_core.specs.Threads.{last_own, Progress, command_at, is_command, commands_clock, controller_at}
use Rattle.bm_core.specs.Threads.{has_looked, HaveLooked, sync_clock, IsTimed, IsThreadStep, AreThreadSteps}
use Rattle.bm_core.specs.Threads.{FollowsInThreads}
use Rattle.bm_core.specs.Threads.{IsThreadedRun}
use Rattle.bm_merge.specs.Merges.{merged, named}
use Rattle.bm_merge.specs.Notes.{Note, NotedLog, events_of, plain, all_notes, total, many, greatest, top_clock}
use Rattle.bm_merge.specs.Notes.{is_earlier, switched_since, controlled}
use Rattle.bm_merge.proofs.Promised.{fates_of, notes_by_clock, is_part, IsPromised, ArePromised}
use Rattle.bm_merge.proofs.Placed.{key, key_clock, rank, rank_by}
use Rattle.bm_merge.proofs.Merging.{merge_law}
use Rattle.bm_merge.proofs.Noting.{total_by_clock, greatest_none, each_so, moved_note}
use Rattle.bm_merge.proofs.Placing.{AreWhole, IsPlace, place_of, are_whole, merged_events}
use Rattle.bm_merge.proofs.Counting.{only_below, account}
use Rattle.bm_merge.proofs.Looking.{IsControlled, controlled_here, phase_here, looked_since, due_here, sync_in_log}
use Rattle.bm_merge.proofs.Ordering.{order_here}
use Rattle.bm_merge.proofs.Commanding.{clock_if}
use Rattle.bm_merge.proofs.Reaching.{one_if, marks, Upto, Monotone, no_marks, IsReached, nothing_reached}
use Rattle.bm_merge.proofs.Reaching.{reached_next, is_next, is_within, command_here}

-- THE CONTROLLER'S CLOCK

passed : (k : ℕ) (e : Event) (past : List Event) → is_command e.what ≡ false
    → commands_clock k (e ∷ past) ≡ commands_clock k past
passed zero e past not = rw not refl
passed (suc k) e past not = rw not refl

lower : (k j : ℕ) → eqb k j ≡ false → k ≤ j → k < j
lower k j not under = elim (cases_lt k j) [
  | inl h ↦ h
  | inr h ↦ let same : eqb k j ≡ true =
      eq-eqb _ _ (omega arith) in absurd (let bad : true ≡ false = sym same ∙ not in cc)
]

clock_step : (i : ℕ) (y : Note) (past : List Note) (b same : Bool) → is_command y.event.what ≡ b
    → eqb y.command i ≡ same → (b ≡ true → y.command ≤ i) → (b ≡ true → Upto y.command past)
    → commands_clock (length (marks i past)) (events_of past) ≡ top_clock (is_earlier i) past
    → commands_clock (length (marks i (y ∷ past))) (events_of (y ∷ past)) ≡ top_clock (is_earlier i) (y ∷ past)
clock_step i y past false same is at up mono old =
    let none : is_part i y ≡ false = rw is refl
    in let no : is_earlier i y ≡ false = rw is refl
    in rw (none, no) (passed (length (marks i past)) y.event (events_of past) is ∙ old ∙ omega arith)
clock_step i y past true true is at up mono old =
    let mine : is_part i y ≡ true = and_from _ _ is at
    in let same : y.command ≡ i = eqb-true _ _ at
    in let low : ltb y.command i ≡ false = le-ltb _ _ (omega arith)
    in let no : is_earlier i y ≡ false = rw (is, low) refl
    in rw (mine, no, is) (old ∙ omega arith)
clock_step i y past true false is at up mono old =
    let low : y.command < i = lower _ _ at (up refl)
    in let none : marks i past ≡ [] = no_marks i y.command past (mono refl) low
    in let no : is_part i y ≡ false = rw (is, at) refl
    in let early : is_earlier i y ≡ true = and_from _ _ is (lt-ltb _ _ low)
    in let zero_old : commands_clock 0 (events_of past) ≡ top_clock (is_earlier i) past =
    ap (λ (l : List ℕ). commands_clock (length l) (events_of past)) (sym none) ∙ old
    in rw (no, none, early, is, zero_old) refl

earlier_clock : (i : ℕ) (past : List Note) → Monotone past → Upto i past
    → commands_clock (length (marks i past)) (events_of past) ≡ top_clock (is_earlier i) past
earlier_clock i [] mono up = refl
earlier_clock i (y ∷ past) mono up =
    clock_step i y past (is_command y.event.what) (eqb y.command i) refl refl up.0 mono.0
    (earlier_clock i past mono.1 up.1)

greatest_at_most : (f : Note → ℕ) (c : ℕ) (x : List Note) → AllByRecursion (λ y. f y ≤ c) x → greatest f x ≤ c
greatest_at_most f c [] all = omega arith
greatest_at_most f c (n ∷ x) all =
    let a : f n ≤ c = all.0 in let b : greatest f x ≤ c = greatest_at_most f c x all.1 in omega arith

all_zero : (f : Note → ℕ) (x : List Note) → total f x ≡ 0 → AllByRecursion (λ y. f y ≡ 0) x
all_zero f [] none = tt
all_zero f (n ∷ x) none = (omega arith, all_zero f x (omega arith))

both_so : (P Q S : Note → Type 0) (x : List Note) → ((n : Note) → P n → Q n → S n) → AllByRecursion P x
    → AllByRecursion Q x → AllByRecursion S x
both_so P Q S [] f ps qs = tt
both_so P Q S (n ∷ x) f ps qs = (f n ps.0 qs.0, both_so P Q S x f ps.1 qs.1)

no_clock : (e low : Bool) (c : ℕ) → one_if (e && low) ≡ 0 → low ≡ true → cond e c 0 ≡ 0
no_clock false low c h is = refl
no_clock true true c h is = absurd (omega arith)
no_clock true false c h is = absurd (cc)

-- what has a lower clock is the greatest before
tops_below : (R : Routes) (F : Rules) (stage : Stage) (logs : List NotedLog) (x past : List Note) (n : Note)
    (f : Note → ℕ) → IsPlace R F stage logs x n past
    → AllByRecursion (λ y. f y ≡ 0) x → f n ≡ 0 → greatest f past ≡ greatest f (all_notes logs)
tops_below R F stage logs x past n f at newer here =
    let none : greatest f x ≡ 0 = greatest_none f x newer
    in let top : max (greatest f x) (max (f n) (greatest f past)) ≡ greatest f (all_notes logs) = at.tops f
    in omega arith

controller_here : (R : Routes) (F : Rules) (stage : Stage) (logs : List NotedLog) (x past : List Note) (n : Note)
    → ArePromised R F stage logs → IsPlace R F stage logs x n past → (r : IsReached stage past)
    → is_command n.event.what ≡ true → n.command ≡ r.at
    → controller_at stage (events_of past) ≡ top_clock (is_earlier n.command) (all_notes logs)
controller_here R F stage logs x past n p at r is same =
    let late : Note → ℕ = λ y. one_if (is_earlier n.command y && leb n.event.clock.0 y.event.clock.0)
    in let order : total late (all_notes logs) ≡ 0 = at.told.order is
    in let sum : total late x + (late n + total late past) ≡ total late (all_notes logs) = at.sums late
    in let zeros : AllByRecursion (λ y. late y ≡ 0) x = all_zero late x (omega arith)
    in let newer : AllByRecursion (λ y. clock_if y (is_earlier n.command y) ≡ 0) x =
    both_so (λ y. late y ≡ 0) (λ y. key stage n.event ≤ key stage y.event)
    (λ y. clock_if y (is_earlier n.command y) ≡ 0) x
    (λ y none over. no_clock (is_earlier n.command y) _ y.event.clock.0 none
    (le-leb _ _ (key_clock stage n.event y.event over))) zeros at.over
    in let own : ltb n.command n.command ≡ false = le-ltb _ _ (omega arith)
    in let not : is_earlier n.command n ≡ false = and_right _ _ own
    in let here : clock_if n (is_earlier n.command n) ≡ 0 = rw not refl
    in let back : top_clock (is_earlier n.command) past ≡ top_clock (is_earlier n.command) (all_notes logs) =
    tops_below R F stage logs x past n (λ y. clock_if y (is_earlier n.command y)) at newer here
    in ap (λ (q : Progress). commands_clock (length q.shards) (events_of past)) r.progress_is
    ∙ earlier_clock r.at past r.mono r.up
    ∙ ap (λ (i : ℕ). top_clock (is_earlier i) past) (sym same)
    ∙ back

next_here : (R : Routes) (F : Rules) (stage : Stage) (logs : List NotedLog) (x past : List Note) (n : Note)
    → ArePromised R F stage logs → IsPlace R F stage logs x n past → (r : IsReached stage past)
    → is_command n.event.what ≡ true → n.command ≡ r.at
next_here R F stage logs x past n p at r is =
    is_next R F stage logs x past n p at r is (is_within stage n.command n.event.what is at.told.command)

command_is : (stage : Stage) (past : List Note) (i : ℕ) (r : IsReached stage past) → i ≡ r.at
    → command_at stage (events_of past) ≡ slice_get stage.script.commands i
command_is stage past i r same =
    ap (λ (q : Progress). slice_get stage.script.commands q.commands) r.progress_is
    ∙ ap (λ (j : ℕ). slice_get stage.script.commands j) (sym same)

-- SYNCS

-- the clocks before an event of the controller are lower
lower_first : (R : Routes) (F : Rules) (stage : Stage) (logs : List NotedLog) (x past : List Note) (n y : Note)
    → IsPlace R F stage logs x n (y ∷ past) → actor_of stage n.event.what ≡ Some Controller
    → y.event.clock.0 < n.event.clock.0
lower_first R F stage logs x past n y at is = elim (cases_Bool (is_by (actor_of stage y.event.what) Controller)) [
  | inl mine ↦
      let own = at.run.0.own
      in let here : IfSome (own_clock stage (events_of (y ∷ past)) Controller) (λ c. c < n.event.clock.0) =
      subst (λ (o : Option Actor). IfSome o
      (λ a. IfSome (own_clock stage (events_of (y ∷ past)) a) (λ c. c < n.event.clock.0))) is own
      in rw mine at here
  | inr other ↦
      let r : rank stage y.event ≡ 1 = ap (λ (b : Bool). rank_by b) other
      in let s : rank stage n.event ≡ 0 = ap (λ (o : Option Actor). rank_by (is_by o Controller)) is
      in let k : key stage y.event ≤ key stage n.event = at.under.0
      in omega arith
]

most : (b : Bool) (c d : ℕ) → c ≤ d → cond b c 0 ≤ d
most true c d h = h
most false c d h = omega arith

under_first : (stage : Stage) (e : Event) (test : Note → Bool) (past : List Note)
    → AllByRecursion (λ z. key stage z ≤ key stage e) (events_of past)
    → AllByRecursion (λ z. clock_if z (test z) ≤ e.clock.0) past
under_first stage e test [] all = tt
under_first stage e test (z ∷ past) all =
    (most (test z) z.event.clock.0 e.clock.0 (key_clock stage z.event e all.0), under_first stage e test past all.1)

last_here : (R : Routes) (F : Rules) (stage : Stage) (logs : List NotedLog) (x past : List Note) (n : Note)
    → IsPlace R F stage logs x n past → actor_of stage n.event.what ≡ Some Controller
    → greatest (λ y. clock_if y (ltb y.event.clock.0 n.event.clock.0)) past ≡ last_clock (events_of past)
last_here R F stage logs x [] n at is = refl
last_here R F stage logs x (y ∷ past) n at is =
    let low : y.event.clock.0 < n.event.clock.0 = lower_first R F stage logs x past n y at is
    in let test : ltb y.event.clock.0 n.event.clock.0 ≡ true = lt-ltb _ _ low
    in let here : clock_if y (ltb y.event.clock.0 n.event.clock.0) ≡ y.event.clock.0 = rw test refl
    in let rest : greatest (λ z. clock_if z (ltb z.event.clock.0 n.event.clock.0)) past ≤ y.event.clock.0 =
    greatest_at_most (λ z. clock_if z (ltb z.event.clock.0 n.event.clock.0)) y.event.clock.0 past
    (under_first stage y.event (λ z. ltb z.event.clock.0 n.event.clock.0) past at.falls.1.0)
    in omega arith

sync_last : (R : Routes) (F : Rules) (stage : Stage) (logs : List NotedLog) (x past : List Note) (n : Note)
    → IsPlace R F stage logs x n past → actor_of stage n.event.what ≡ Some Controller
    → top_clock (λ y. ltb y.event.clock.0 n.event.clock.0) (all_notes logs) ≡ last_clock (events_of past)
sync_last R F stage logs x past n at is =
    sym (tops_below R F stage logs x past n (λ y. clock_if y (ltb y.event.clock.0 n.event.clock.0)) at
    (each_so (λ y. key stage n.event ≤ key stage y.event) (λ y. clock_if y (ltb y.event.clock.0 n.event.clock.0) ≡ 0)
    x
    (λ y over. let h = le-ltb _ _ (key_clock stage n.event y.event over) in rw h refl) at.over)
    (let h : ltb n.event.clock.0 n.event.clock.0 ≡ false = le-ltb _ _ (omega arith) in rw h refl))
    ∙ last_here R F stage logs x past n at is

-- LOOKS

some_switched : (since m : ℕ) (test : Note → Bool) (past : List Note)
    → 1 ≤ many (λ n. is_switch_of n.event.what m && (leb since n.event.clock.0 && test n)) past
    → switched_since since m (events_of past) ≡ true
some_switched since m test [] h = absurd (omega arith)
some_switched since m test (n ∷ past) h =
    go (is_switch_of n.event.what m) (leb since n.event.clock.0) (test n) h (some_switched since m test past) where
      go : (a b c : Bool)
          → 1 ≤ one_if (a && (b && c))
          + many (λ n. is_switch_of n.event.what m && (leb since n.event.clock.0 && test n)) past
          → (1 ≤ many (λ n. is_switch_of n.event.what m && (leb since n.event.clock.0 && test n)) past
          → switched_since since m (events_of past) ≡ true)
          → ((a && b) || switched_since since m (events_of past)) ≡ true
      go true true c h old = refl
      go true false c h old = old (omega arith)
      go false b c h old = old (omega arith)

plainly_switched : (since m : ℕ) (past : List Note)
    → 1 ≤ many (λ n. is_switch_of n.event.what m && leb since n.event.clock.0) past
    → switched_since since m (events_of past) ≡ true
plainly_switched since m [] h = absurd (omega arith)
plainly_switched since m (n ∷ past) h =
    go (is_switch_of n.event.what m && leb since n.event.clock.0) h (plainly_switched since m past) where
      go : (b : Bool) → 1 ≤ one_if b + many (λ n. is_switch_of n.event.what m && leb since n.event.clock.0) past
          → (1 ≤ many (λ n. is_switch_of n.event.what m && leb since n.event.clock.0) past
          → switched_since since m (events_of past) ≡ true)
          → (b || switched_since since m (events_of past)) ≡ true
      go true h old = refl
      go false h old = old (omega arith)

looked_before : (R : Routes) (F : Rules) (stage : Stage) (logs : List NotedLog) (x past : List Note) (n : Note)
    (m : ℕ) → IsPlace R F stage logs x n past
    → 1 ≤ many
    (λ y. is_switch_of y.event.what m
    && (leb (sync_clock (events_of past)) y.event.clock.0 && ltb y.event.clock.0 n.event.clock.0))
    (all_notes logs) → has_looked (events_of past) m ≡ true
looked_before R F stage logs x past n m at h =
    let back : many
    (λ y. is_switch_of y.event.what m
    && (leb (sync_clock (events_of past)) y.event.clock.0 && ltb y.event.clock.0 n.event.clock.0)) past
    ≡ many (λ y. is_switch_of y.event.what m
    && (leb (sync_clock (events_of past)) y.event.clock.0 && ltb y.event.clock.0 n.event.clock.0))
    (all_notes logs) =
    only_below R F stage logs x past n
    (λ y. one_if
    (is_switch_of y.event.what m
    && (leb (sync_clock (events_of past)) y.event.clock.0 && ltb y.event.clock.0 n.event.clock.0))) at
    (λ y over. let no = and_right (is_switch_of y.event.what m) _
    (and_right (leb (sync_clock (events_of past)) y.event.clock.0) _
    (le-ltb y.event.clock.0 n.event.clock.0 over)) in rw no refl)
    in looked_since stage (events_of past) m at.falls.1
    ∙ some_switched (sync_clock (events_of past)) m (λ y. ltb y.event.clock.0 n.event.clock.0) past (omega arith)

-- THE CLOCKS

timed_here : (R : Routes) (F : Rules) (stage : Stage) (logs : List NotedLog) (x past : List Note) (n : Note)
    → ArePromised R F stage logs → IsPlace R F stage logs x n past → (r : IsReached stage past)
    → (what : What) → n.event.what ≡ what → (own : ℕ)
    → IsPromised stage (plain logs) (all_notes logs) (events_of past) n.command own n.event.clock.0 what
    → IsTimed (fates_of past) stage (events_of past) own n.event.clock.0 what
timed_here R F stage logs x past n p at r (Publish v) is own t =
    let command : is_command n.event.what ≡ true = ap is_command is
    in let same = next_here R F stage logs x past n p at r command
    in let control = controller_here R F stage logs x past n p at r command same
    in rw control t
timed_here R F stage logs x past n p at r Sync is own t =
    let command : is_command n.event.what ≡ true = ap is_command is
    in let same = next_here R F stage logs x past n p at r command
    in let last = sync_last R F stage logs x past n at (ap (λ (w : What). actor_of stage w) is)
    in let moment = command_is stage past n.command r same
    in ((λ m low. looked_before R F stage logs x past n m at (t.0 m low)), rw (sym last, moment) t.1)
timed_here R F stage logs x past n p at r (Close server flow closed) is own t =
    let command : is_command n.event.what ≡ true = ap is_command is
    in let same = next_here R F stage logs x past n p at r command
    in let control = controller_here R F stage logs x past n p at r command same
    in let moment = command_is stage past n.command r same
    in rw (control, moment) t
timed_here R F stage logs x past n p at r (Retire server h moment_is result) is own t =
    let command : is_command n.event.what ≡ true = ap is_command is
    in let same = next_here R F stage logs x past n p at r command
    in let control = controller_here R F stage logs x past n p at r command same
    in let moment = command_is stage past n.command r same
    in rw (control, moment) t
timed_here R F stage logs x past n p at r (Switch m v) is own t =
    let not : is_by (actor_of stage n.event.what) Controller ≡ false =
    ap (λ (w : What). is_by (actor_of stage w) Controller) is
    in let c : IsControlled (events_of past) (controlled (plain logs) n.event.clock.0) =
    controlled_here R F stage logs x past n at not
    in let looked : has_looked (events_of past) m.0
    ≡ switched_since (sync_clock (controlled (plain logs) n.event.clock.0)) m.0 (events_of past) =
    looked_since stage (events_of past) m.0 at.falls.1 ∙ ap (λ (s : ℕ). switched_since s m.0 (events_of past)) c.sync
    in (rw (looked, c.old) t.0, rw (c.publish v.0, c.sync) t.1)
timed_here R F stage logs x past n p at r (Steer k m) is own t =
    let not : is_by (actor_of stage n.event.what) Controller ≡ false =
    ap (λ (w : What). is_by (actor_of stage w) Controller) is
    in let c : IsControlled (events_of past) (controlled (plain logs) n.event.clock.0) =
    controlled_here R F stage logs x past n at not
    in (
      looked_since stage (events_of past) m.0 at.falls.1
          ∙ ap (λ (s : ℕ). switched_since s m.0 (events_of past)) c.sync ∙ t.0,
      t.1,
      t.2,
    )
timed_here R F stage logs x past n p at r (Arrive k hop server verdict) is own t = (
  order_here stage (plain logs) (events_of x) (events_of past) n.event k server p.agree at.whole t.0,
  due_here R F
      stage logs x past n k hop own at t.1,
)
timed_here R F stage logs x past n p at r (Lose k hop) is own t = tt

-- THE RUN

step_here : (R : Routes) (F : Rules) (stage : Stage) (logs : List NotedLog) (x past : List Note) (n : Note)
    → ArePromised R F stage logs → IsPlace R F stage logs x n past → IsReached stage past
    → IsThreadStep (fates_of past) stage (events_of past) n.event
step_here R F stage logs x past n p at r = record {
  command = command_here R F stage logs x past n p at r;
  phase = phase_here R F stage logs x past n at;
  timed =
      timed_here R F stage logs x past n p at r n.event.what refl
      (last_own stage (events_of past) (actor_of stage n.event.what)) at.told.timed;
}

abbrev AreStepped : Stage → List Note → Type 0
AreStepped stage past = IsReached stage past × AreThreadSteps (fates_of past) stage (events_of past)

steps_below : (R : Routes) (F : Rules) (stage : Stage) (logs : List NotedLog) (x past : List Note)
    → ArePromised R F stage logs → AreWhole R F stage logs (x ++ past) → AreStepped stage past
steps_below R F stage logs x [] p are = (nothing_reached stage p.agree.sound.script.setting.shards.0, tt)
steps_below R F stage logs x (n ∷ past) p are =
    let old =
    steps_below R F stage logs (x ++ n ∷ []) past p
    (subst (λ (l : List Note). AreWhole R F stage logs l) (sym (moved_note x past n)) are)
    in let at = place_of R F stage logs x past n p.agree are
    in (reached_next R F stage logs x past n p at old.0, (step_here R F stage logs x past n p at old.0, old.1))

have_looked : (R : Routes) (F : Rules) (stage : Stage) (logs : List NotedLog) → ArePromised R F stage logs
    → HaveLooked stage (events_of (notes_by_clock (all_notes logs)))
have_looked R F stage logs p m low =
    let are = are_whole R F stage logs p
    in let sync : sync_clock (events_of (notes_by_clock (all_notes logs)))
    ≡ sync_clock (named (plain logs) Controller) =
    sym (sync_in_log stage (events_of (notes_by_clock (all_notes logs))))
    ∙ ap sync_clock (are.whole.part Controller ∙ are.whole.posts)
    in let some : 1
    ≤ many (λ y. is_switch_of y.event.what m && leb (sync_clock (named (plain logs) Controller)) y.event.clock.0)
    (notes_by_clock (all_notes logs)) =
    (let h = p.looked m low
    in let is =
    total_by_clock
    (λ y. one_if
    (is_switch_of y.event.what m && leb (sync_clock (named (plain logs) Controller)) y.event.clock.0))
    (all_notes logs) in omega arith)
    in looked_since stage (events_of (notes_by_clock (all_notes logs))) m are.whole.falls
    ∙ ap (λ (s : ℕ). switched_since s m (events_of (notes_by_clock (all_notes logs)))) sync
    ∙ plainly_switched (sync_clock (named (plain logs) Controller)) m (notes_by_clock (all_notes logs)) some

pub follows : (R : Routes) (F : Rules) (stage : Stage) (logs : List NotedLog) → ArePromised R F stage logs
    → FollowsInThreads (fates_of (notes_by_clock (all_notes logs))) stage
    (events_of (notes_by_clock (all_notes logs)))
follows R F stage logs p = (
  (steps_below R F stage logs [] (notes_by_clock (all_notes logs)) p (are_whole R F stage logs p)).1,
  have_looked
      R F stage logs p,
)

-- what the workers promise of their logs gives a threaded run
pub threaded_law : (R : Routes) (F : Rules) (h : History) (logs : List NotedLog) → ArePromised R F h.stage logs
    → h.events ≡ reverse (merged (plain logs)) → IsThreadedRun R F h
threaded_law R F h logs p is =
    let events : reverse h.events ≡ events_of (notes_by_clock (all_notes logs)) =
    ap (λ (y : List Event). reverse y) is ∙ reverse-reverse (merged (plain logs)) ∙ sym (merged_events logs)
    in record {
      run = merge_law h (plain logs) p.agree is;
      fates = fates_of (notes_by_clock (all_notes logs));
      follows =
          subst (λ (l : List Event). FollowsInThreads (fates_of (notes_by_clock (all_notes logs))) h.stage l)
          (sym events) (follows R F h.stage logs p);
      account =
          subst (λ (l : List Event). IsAccountOf R F h.stage (fates_of (notes_by_clock (all_notes logs))) l)
          (sym events) (account R F h.stage logs p);
    }
