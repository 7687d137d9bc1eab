-- Where a worker has given up for a moment that was too large: what all workers did up to there.
use Rattle.std.proofs.Common.{◌≡◌, ℕ, zero, suc, ◌+◌, ◌*◌, ◌<◌, ◌≤◌, max, Bool, true, false, List, [], ◌∷◌, ◌++◌}
use Rattle.std.proofs.Common.{length, length-append, Option, Some, None, refl, sym, ap, ◌∙◌, subst, arith, eqb, inl}
use Rattle.std.proofs.Common.{inr}
use Rattle.std.specs.Prelude.{slice_get, is_some, IfErr, Result, Ok, Err, ◌-◌, ◌^◌}
use Rattle.std.specs.List.{AllByRecursion}
use Rattle.std.proofs.lemmas.Bool.{eqb-true}
use Rattle.std.proofs.lemmas.Option.{same_Some, slice_get_within}
use Rattle.logbook.specs.Pages.{Book as Board}
use Rattle.bm_rows.proofs.Places.{there}
use Rattle.bm_base.specs.declared.ids.MuxId.{MuxId}
use Rattle.bm_base.specs.declared.ids.Moment.{Moment}
use Rattle.bm_core.specs.declared.events.Event.{Event}
use Rattle.bm_core.specs.declared.events.Stage.{Stage}
use Rattle.bm_core.specs.Accounts.{Rules, is_sync}
use Rattle.bm_core.specs.Past.{segment_of}
use Rattle.bm_core.specs.Stages.{IsSound}
use Rattle.bm_core.specs.Threads.{sync_clock}
use Rattle.bm_merge.specs.Notes.{Note, greatest, many}
use Rattle.bm_merge.specs.Workers.{notes_of_all, notes_by}
use Rattle.bm_merge.proofs.Noting.{each_append, each_so, greatest_append, total_append}
use Rattle.bm_merge.proofs.Reaching.{one_if}
use Rattle.bm_publish.specs.Posts.{Posted}
use Rattle.bm_server.specs.Servings.{Serving}
use Rattle.bm_worker.specs.WorkerNotes.{clock_of}
use Rattle.bm_worker.specs.Phases.{AreFew, HasEnded, HasWorked}
use Rattle.bm_worker.specs.Phases.{IsStopOf, Kept, Task, task_of}
use Rattle.bm_worker.specs.Assigned.{RoutedBy, assigned_mux}
use Rattle.bm_worker.specs.declared.span.Span.{Span}
use Rattle.bm_worker.specs.declared.stop.Stop.{Stop}
use Rattle.bm_worker.specs.declared.stop.Stop.TheVariants.{Late, Memory}
use Rattle.bm_worker.specs.declared.worker.MuxWorker.{MuxWorker}
use Rattle.bm_lead.specs.declared.leader.Leader.{Leader}
use Rattle.bm_lead.specs.Commands.{AreDone, control_log}
use Rattle.bm_lead.specs.Leaders.{IsStopFrom, UnlessMemory}
use Rattle.bm_lead.specs.Leads.{HasLed, HaveNoSync, IsLed, IsPlaced, Leads}
use Rattle.bm_world.specs.Inside.RunStates.{IsBetween, IsLate, IsStanding, IsTooLate, latest_in, with_posts}
use Rattle.bm_world.specs.Inside.GivenUp.{HasGivenUp}
use Rattle.bm_world.specs.Inside.Going.{IsGoing}
use Rattle.bm_world.specs.Inside.Left.{IsSyncIn, IsSynced}
use Rattle.bm_world.specs.Inside.Running.{IsAtWork, add_notes}
use Rattle.bm_world.proofs.Amounts.{carried_few, led_few, syncs_few}
use Rattle.bm_world.proofs.GivingUp.{all_synced, sync_append, sync_some}
use Rattle.bm_world.proofs.GivingUp.{unsynced}
use Rattle.bm_world.proofs.Joining.{added_count, added_of, added_total, control_append, going_more, have_more}
use Rattle.bm_world.proofs.Meeting.{worker_under}

-- WHY A WORKER GAVE UP

clock_under : (c : ℕ) (x : List Note) → 1 ≤ many (λ n. eqb n.event.clock.0 c) x → c ≤ greatest clock_of x
clock_under c [] one = absurd (omega arith)
clock_under c (n ∷ x) one = go (eqb n.event.clock.0 c) refl one (λ h. clock_under c x h) where
  go : (b : Bool) → eqb n.event.clock.0 c ≡ b → 1 ≤ one_if b + many (λ y. eqb y.event.clock.0 c) x
      → (1 ≤ many (λ y. eqb y.event.clock.0 c) x → c ≤ greatest clock_of x)
      → c ≤ max (clock_of n) (greatest clock_of x)
  go true is h old = let same : n.event.clock.0 ≡ c = eqb-true _ _ is in omega arith
  go false is h old = let under = old (omega arith) in omega arith

-- where it gave up, this is of its notes
abbrev IsStoppedBy : List Note → Option Stop → Type 0
IsStoppedBy x None = Unit {0}
IsStoppedBy x (Some stop) = IsStopOf x stop

ended_kept : (F : Rules) (stage : Stage) (servers : List Serving) (task : Task) (now : MuxWorker) (o : Option Stop)
    → HasEnded F stage servers task now o
    → (x : List Note) × Kept F stage servers task now x × AreFew x × IsStoppedBy x o
ended_kept F stage servers task now None ended = (ended.0, ended.1.kept, ended.1.few, tt)
ended_kept F stage servers task now (Some stop) ended = (ended.0, ended.1, ended.3, ended.2)

-- a clock near the last one
abbrev IsLarge : List Note → Type 0
IsLarge x = 9 * 10 ^ 18 ≤ greatest clock_of x + 61 * 10 ^ 9

large_stop : (x : List Note) (o : Option Stop) → IsStoppedBy x o → IsTooLate o → IsLarge x
large_stop x None stopped late = absurd late
large_stop x (Some Memory) stopped late = absurd late
large_stop x (Some (Late moment clock)) stopped late =
    let a = stopped.0 in let b = stopped.1 in let c = clock_under clock.0 x stopped.2 in omega arith

-- A MUX'S WORKER

-- what the worker of mux m did of a run, and that one of its clocks is large if it gave up for such a moment
record IsPart (F : Rules) (stage : Stage) (servers : List Serving) (routes : List (Option MuxId))
    (control : List Event) (board : Board) (phases until m : ℕ) (w : MuxWorker) (notes : List Note) : Type 0 where
  going : IsGoing F stage servers routes control board phases until m w.mux w.caller notes
  large : IsTooLate w.stop → IsLarge notes

-- with its part of a phase, whether it came to the end or not
worked_part : (F : Rules) (stage : Stage) (servers : List Serving) (routes : List (Option MuxId))
    (control y : List Event) (board : Board) (phases m : ℕ) (span : Span) (posted : Posted) (old now : MuxWorker)
    (notes : List Note)
    → ((k m : ℕ) → assigned_mux routes k ≡ Some m → is_some (segment_of stage k) ≡ true)
    → span.from ≤ span.until → sync_clock control ≡ span.after.0
    → HasWorked F stage servers routes span (with_posts posted old) now
    → IsAtWork (RoutedBy routes) F stage servers routes control board phases span.from m old notes
    → (x : List Note) × IsPart F stage servers routes (y ++ control) board (phases + 1) span.until m now (x ++ notes)
worked_part F stage servers routes control y board phases m span posted old now notes known order sync worked at =
    let ended = ended_kept F stage servers (task_of routes span posted (with_posts posted old)) now now.stop
    (worked.ended posted at.stop refl)
    in let x = ended.0
    in let kept = ended.1
    in (
      x,
      record {
        going = going_more F stage servers routes control y board phases m span posted (with_posts posted old) now x notes
            known order (sync_append y control span.after.0
            (subst (λ (c : ℕ). IsSyncIn control c) sync (sync_some control))) kept ended.2 at.going;
        large = λ late.
            let a = large_stop x now.stop ended.3 late
            in let b = greatest_append clock_of x notes
            in omega arith;
      },
    )

-- ALL WORKERS

choose_at : (P : ℕ → List Note → Type 0) (n : ℕ) (d : List Note) (rest : List (List Note)) → P 0 d
    → ((m : ℕ) → m < n → P (suc m) (notes_by rest m)) → (m : ℕ) → m < suc n → P m (notes_by (d ∷ rest) m)
choose_at P n d rest p q zero low = p
choose_at P n d rest p q (suc m) low = q m (omega arith)

-- what each worker did, as one list
pub choose : (P : ℕ → List Note → Type 0) (n : ℕ) → ((m : ℕ) → m < n → (x : List Note) × P m x)
    → (more : List (List Note)) × (length more ≡ n) × ((m : ℕ) → m < n → P m (notes_by more m))
choose P zero each = ([], refl, λ m low. absurd (omega arith))
choose P (suc n) each =
    let first = each 0 (omega arith)
    in let rest = choose (λ m x. P (suc m) x) n (λ m low. each (suc m) (omega arith))
    in (first.0 ∷ rest.0, ap suc rest.1, choose_at P n first.0 rest.0 first.1 rest.2)

parts_few : (F : Rules) (stage : Stage) (servers : List Serving) (routes : List (Option MuxId)) (control : List Event)
    (board : Board) (phases until next : ℕ) (workers : List MuxWorker) (controller : List Note)
    (carriers : List (List Note)) → IsSound stage → phases ≤ 65538 → until ≤ length stage.capture.records
    → length carriers ≡ length workers → length workers ≡ stage.script.setting.muxes
    → next ≤ length stage.script.commands → AreDone stage next controller
    → ((m : ℕ) (w : MuxWorker) → slice_get workers m ≡ Some w
    → IsPart F stage servers routes control board phases until m w (notes_by carriers m))
    → length (controller ++ notes_of_all carriers) ≤ 25000000
parts_few F stage servers routes control board phases until next workers controller carriers sound few within count
    muxes low done each =
    let most = sound.script.setting.muxes.1
    in let records = sound.capture.few
    in let commands = sound.script.few_commands
    in let a = length-append controller (notes_of_all carriers)
    in let b = led_few stage next controller sound done
    in let c = carried_few stage routes until carriers (omega arith) (omega arith)
    (λ m here. let w = there workers m (omega arith) in let f = (each m w.0 w.1).going.few in omega arith)
    (λ m here. let w = there workers m (omega arith) in (each m w.0 w.1).going.steered)
    in omega arith

-- TOGETHER

no_sync_synced : (stage : Stage) (all x : List Note) → HaveNoSync x
    → AllByRecursion (λ n. IsSynced stage all n n.event.what) x
no_sync_synced stage all x none =
    each_so (λ n. is_sync n.event.what ≡ false) (λ n. IsSynced stage all n n.event.what) x
    (λ n not. unsynced stage all n n.event.what not) none

unless_memory : {T : Type 0} (r : Result T Stop) (P : Type 0) → (r ≡ Err Memory → ⊥) → UnlessMemory r P → P
unless_memory (Ok x) P not so = so
unless_memory (Err Memory) P not so = absurd (not refl)
unless_memory (Err (Late moment clock)) P not so = so

led_large : (led : Result (Unit {0}) Stop) (latest : ℕ) (stop : Stop) → (led ≡ Err Memory → ⊥) → led ≡ Err stop
    → IfErr led (IsStopFrom (9 * 10 ^ 18) latest) → 9 * 10 ^ 18 ≤ latest
led_large led latest Memory not is from = absurd (not is)
led_large led latest (Late moment clock) not is from =
    let why : IsStopFrom (9 * 10 ^ 18) latest (Late moment clock) =
    subst (λ (r : Result (Unit {0}) Stop). IfErr r (IsStopFrom (9 * 10 ^ 18) latest)) is from
    in let a = why.1
    in let b = why.2
    in omega arith

-- worker 0 or a mux's worker gave up in a phase
pub gives_up : (F : Rules) (stage : Stage) (servers : List Serving) (routes : List (Option MuxId)) (posted q : Posted)
    (leader b : Leader) (old now : List MuxWorker) (span : Span) (led : Result (Unit {0}) Stop)
    → IsSound stage
    → ((k m : ℕ) → assigned_mux routes k ≡ Some m → is_some (segment_of stage k) ≡ true)
    → IsBetween F stage servers routes posted leader old span.from
    → span.after.0 ≡ leader.caller.latest → span.from ≤ span.until → span.until ≤ length stage.capture.records
    → UnlessMemory led (HasLed stage servers posted q leader b)
    → IfErr led (IsStopFrom (9 * 10 ^ 18) b.caller.latest)
    → length now ≡ length old
    → ((m : ℕ) (x y : MuxWorker) → slice_get old m ≡ Some x → slice_get now m ≡ Some y
    → HasWorked F stage servers routes span (with_posts posted x) y)
    → IsLate led now → HasGivenUp F stage servers routes q b now
gives_up F stage servers routes posted q leader b old now span led sound known between after order within has from lines
    worked late =
    let standing = between.standing
    in let at = standing.at_work
    in let before = between.controller
    in let carriers = between.carriers
    in let went = unless_memory led (HasLed stage servers posted q leader b) late.first has
    in let d = went.1.0
    in let leads : Leads stage servers posted q leader b d = went.1.1
    in let none : HaveNoSync d = went.1.2
    in let is_led : IsLed stage q b (d ++ before) = leads.led before standing.led
    in let count = at.count
    in let sync : sync_clock (control_log stage before) ≡ span.after.0 = between.apart.sync ∙ sym after
    in let board : q.board ≡ posted.board = leads.board
    in let log = control_append stage d before
    in let P : ℕ → List Note → Type 0 = λ m x. (w : MuxWorker) → slice_get now m ≡ Some w
    → IsPart F stage servers routes (control_log stage (d ++ before)) q.board (between.p + 1) span.until m w
    (x ++ notes_by carriers m)
    in let part : (m : ℕ) → m < length now → (x : List Note) × P m x = λ m low.
    let a = there old m (omega arith)
    in let w = there now m low
    in let one = worked_part F stage servers routes (control_log stage before) (control_log stage d) posted.board
    between.p m span posted a.0 w.0 (notes_by carriers m) known order sync (worked m a.0 w.0 a.1 w.1)
    (at.each m a.0 a.1)
    in (
      one.0,
      λ y here.
          subst (λ (z : MuxWorker). IsPart F stage servers routes (control_log stage (d ++ before)) q.board
          (between.p + 1) span.until m z (one.0 ++ notes_by carriers m)) (same_Some w.0 y (sym w.1 ∙ here))
          (subst (λ (l : List Event). IsPart F stage servers routes l q.board (between.p + 1) span.until m w.0
          (one.0 ++ notes_by carriers m)) (sym log)
          (subst (λ (o : Board). IsPart F stage servers routes (control_log stage d ++ control_log stage before) o
          (between.p + 1) span.until m w.0 (one.0 ++ notes_by carriers m)) (sym board) one.1)),
    )
    in let chosen = choose P (length now) part
    in let more = chosen.0
    in let long : length more ≡ length carriers = chosen.1 ∙ lines ∙ sym count
    in let each : (m : ℕ) (w : MuxWorker) → slice_get now m ≡ Some w
    → IsPart F stage servers routes (control_log stage (d ++ before)) q.board (between.p + 1) span.until m w
    (notes_by (add_notes more carriers) m) = λ m w here.
    subst (λ (l : List Note). IsPart F stage servers routes (control_log stage (d ++ before)) q.board (between.p + 1)
    span.until m w l) (sym (added_of more carriers m long))
    (chosen.2 m (slice_get_within now m w here) w here)
    in let muxes : length now ≡ stage.script.setting.muxes = lines ∙ standing.muxes
    in let total_carriers : length (add_notes more carriers) ≡ length now = added_count more carriers long ∙ count
    ∙ sym lines
    in let all = (d ++ before) ++ notes_of_all (add_notes more carriers)
    in let syncs = syncs_few stage leader.next before sound standing.led.done
    in let phases = at.phased.syncs
    in record {
      phases = between.p + 1;
      until = span.until;
      controller = d ++ before;
      carriers = add_notes more carriers;
      muxes = muxes;
      ready = went.0;
      led = is_led;
      replies = have_more stage servers leader.caller.seats b.caller.seats d before leads.replies standing.replies;
      placed = each_append (λ n. IsPlaced stage servers n.event.what) d before leads.placed standing.placed;
      count = total_carriers;
      each = λ m w here. (each m w here).going;
      synced = each_append (λ n. IsSynced stage all n n.event.what) d before (no_sync_synced stage all d none)
          (all_synced stage at.all all before (λ f.
          let s = at.same f
          in let t = total_append f before (notes_of_all carriers)
          in let u = total_append f (d ++ before) (notes_of_all (add_notes more carriers))
          in let v = total_append f d before
          in let w = added_total f more carriers long
          in omega arith) at.phased.met);
      few = parts_few F stage servers routes (control_log stage (d ++ before)) q.board (between.p + 1) span.until b.next
          now (d ++ before) (add_notes more carriers) sound (omega arith) within total_carriers muxes went.0.next
          is_led.done each;
      large =
          let sum = greatest_append clock_of (d ++ before) (notes_of_all (add_notes more carriers))
          in elim late.some [
            | inl first ↦
                let c = led_large led b.caller.latest first.0 late.first first.1 from
                in let l = is_led.latest
                in omega arith
            | inr worker ↦
                let c = (each worker.0 worker.1 worker.2).large worker.3
                in let u = worker_under (add_notes more carriers) worker.0
                in omega arith
          ];
    }

latest_under : (workers : List MuxWorker) (top : ℕ)
    → ((m : ℕ) (w : MuxWorker) → slice_get workers m ≡ Some w → w.caller.latest ≤ top) → latest_in workers ≤ top
latest_under [] top each = omega arith
latest_under (w ∷ workers) top each =
    let here = each 0 w refl
    in let old = latest_under workers top (λ m x at. each (suc m) x at)
    in omega arith

-- all have done a phase, and the Sync after it would be too late
pub too_late_to_sync : (F : Rules) (stage : Stage) (servers : List Serving) (routes : List (Option MuxId))
    (posted : Posted) (leader : Leader) (workers : List MuxWorker) (p phases until : ℕ) (controller : List Note)
    (carriers : List (List Note)) (moment clock : Moment) → IsSound stage
    → ((k m : ℕ) → assigned_mux routes k ≡ Some m → is_some (segment_of stage k) ≡ true)
    → until ≤ length stage.capture.records → phases ≤ suc p
    → IsStanding F stage servers routes posted leader workers p phases until controller carriers
    → IsStopFrom (9 * 10 ^ 18) (max leader.caller.latest (latest_in workers)) (Late moment clock)
    → HasGivenUp F stage servers routes posted leader workers
too_late_to_sync F stage servers routes posted leader workers p phases until controller carriers moment clock sound known
    within few standing from =
    let at = standing.at_work
    in let each : (m : ℕ) (w : MuxWorker) → slice_get workers m ≡ Some w
    → IsPart F stage servers routes (control_log stage controller) posted.board phases until m w (notes_by carriers m) =
    λ m w here. let one = at.each m w here in record {
      going = one.going;
      large = λ late. absurd (subst (λ (o : Option Stop). IsTooLate o) one.stop late);
    }
    in let all = controller ++ notes_of_all carriers
    in let syncs = syncs_few stage leader.next controller sound standing.led.done
    in let count = at.phased.syncs
    in record {
      phases = phases;
      until = until;
      controller = controller;
      carriers = carriers;
      muxes = standing.muxes;
      ready = standing.ready;
      led = standing.led;
      replies = standing.replies;
      placed = standing.placed;
      count = at.count;
      each = λ m w here. (each m w here).going;
      synced = all_synced stage at.all all controller (λ f. let s = at.same f in omega arith) at.phased.met;
      few = parts_few F stage servers routes (control_log stage controller) posted.board phases until leader.next workers
          controller carriers sound (omega arith) within at.count standing.muxes standing.ready.next standing.led.done
          each;
      large =
          let sum = greatest_append clock_of controller (notes_of_all carriers)
          in let first = standing.led.latest
          in let others = latest_under workers (greatest clock_of (notes_of_all carriers)) (λ m w here.
          let l = (at.each m w here).latest in let u = worker_under carriers m in omega arith)
          in let a = from.1
          in let b = from.2
          in omega arith;
    }
