-- All workers: a phase more, and the Sync after it.
use Rattle.std.proofs.Common.{◌≡◌, ℕ, zero, suc, ◌+◌, ◌<◌, ◌≤◌, Bool, true, false, cond, ◌&&◌, List, [], ◌∷◌}
use Rattle.std.proofs.Common.{◌++◌, length}
use Rattle.std.proofs.Common.{Option, Some, None, refl, sym, ap, ◌∙◌, subst, arith}
use Rattle.std.proofs.Common.{append-nil}
use Rattle.std.specs.Prelude.{IfSome, is_some, slice_get}
use Rattle.std.specs.List.{AllByRecursion}
use Rattle.std.proofs.lemmas.Bool.{le-leb}
use Rattle.std.proofs.lemmas.Option.{slice_get_within}
use Rattle.logbook.specs.Pages.{Book}
use Rattle.bm_rows.proofs.Places.{there}
use Rattle.bm_base.specs.declared.flow.Segment.{Segment}
use Rattle.bm_base.specs.declared.ids.MuxId.{MuxId}
use Rattle.bm_core.specs.declared.events.What.TheVariants.{Sync}
use Rattle.bm_core.specs.declared.events.Event.{Event}
use Rattle.bm_core.specs.declared.events.Stage.{Stage}
use Rattle.bm_core.specs.Accounts.{Routes, Rules, counts, is_sync}
use Rattle.bm_core.specs.Past.{segment_of, newest, is_switch_of}
use Rattle.bm_core.specs.Runs.{next_clock}
use Rattle.bm_core.specs.Runs.Actor.{Controller}
use Rattle.bm_core.specs.Threads.{sync_clock, newest_before, packet_of, phase_of, moment_at}
use Rattle.bm_merge.specs.Notes.{Note, events_of, many, total, greatest}
use Rattle.bm_merge.specs.Workers.{home_part, is_home, notes_by, notes_of_all, looks_since}
use Rattle.bm_merge.proofs.Noting.{total_append, total_most, each_so, greatest_append}
use Rattle.bm_merge.proofs.CopiesLeft.{all_under}
use Rattle.bm_merge.proofs.Phasing.{IsPhased, phased_more, phased_sync}
use Rattle.bm_merge.proofs.Reaching.{one_if}
use Rattle.bm_merge.proofs.Sharing.{greatest_shared}
use Rattle.bm_publish.specs.Posts.{Posted, last_version}
use Rattle.bm_server.specs.Servings.{Serving}
use Rattle.bm_worker.specs.WorkerNotes.{clock_of}
use Rattle.bm_worker.specs.Phases.{IsPhaseNote, task_of}
use Rattle.bm_worker.specs.Assigned.{assigned_mux}
use Rattle.bm_worker.specs.declared.span.Span.{Span}
use Rattle.bm_worker.specs.declared.worker.MuxWorker.{MuxWorker}
use Rattle.bm_world.specs.Inside.Returned.{control_log}
use Rattle.bm_world.specs.Inside.Running.{IsAtWork, AreAtWork, AreApart, HaveLooked, add_notes}
use Rattle.bm_world.proofs.InLogs.{all_carried}
use Rattle.bm_world.proofs.Growing.{carriage_later}
use Rattle.bm_world.proofs.Homes.{home_each}
use Rattle.bm_world.proofs.Joining.{added_of, added_count, added_total, AreOfPhase, control_same, phased_led, HasDone, going_later}
use Rattle.bm_world.proofs.Joining.{at_work_more}
use Rattle.bm_world.proofs.Joining.{control_append, control_each}

if_some : (P Q : ℕ → Type 0) (o : Option ℕ) → ((k : ℕ) → P k → Q k) → IfSome o P → IfSome o Q
if_some P Q None f h = tt
if_some P Q (Some k) f h = f k h

-- what each mux's worker did in a phase
pub record HaveDone (F : Rules) (stage : Stage) (servers : List Serving) (routes : List (Option MuxId)) (span : Span)
    (snapshot : Posted) (old now : List MuxWorker) (more : List (List Note)) : Type 0 where
  pub workers : length now ≡ length old
  pub count : length more ≡ length old
  pub each : (m : ℕ) (a b : MuxWorker) → slice_get old m ≡ Some a → slice_get now m ≡ Some b
      → HasDone F stage servers routes span snapshot a b (notes_by more m)

part_of : (f : Note → ℕ) (carriers : List (List Note)) (m : ℕ)
    → total f (notes_by carriers m) ≤ total f (notes_of_all carriers)
part_of f [] m = omega arith
part_of f (d ∷ carriers) zero = let a = total_append f d (notes_of_all carriers) in omega arith
part_of f (d ∷ carriers) (suc m) =
    let a = total_append f d (notes_of_all carriers) in let old = part_of f carriers m in omega arith

worker_at : (l : List MuxWorker) (m : ℕ) → m < length l → (w : MuxWorker) × (slice_get l m ≡ Some w)
worker_at l m low = there l m low

-- a phase more, of all workers
pub all_at_work_more : (R : Routes) (F : Rules) (stage : Stage) (servers : List Serving) (routes : List (Option MuxId))
    (board : Book) (p phases : ℕ) (span : Span) (snapshot : Posted) (old now : List MuxWorker)
    (controller x : List Note) (carriers more : List (List Note))
    → ((k m : ℕ) (s : Segment) → assigned_mux routes k ≡ Some m → segment_of stage k ≡ Some s → R k s.flow m)
    → ((k m : ℕ) → assigned_mux routes k ≡ Some m → is_some (segment_of stage k) ≡ true)
    → ((k : ℕ) → span.from < k → k ≤ span.until → phase_of stage k ≡ p) → span.from ≤ span.until
    → AreApart stage span.after.0 (last_version snapshot) controller carriers → AreOfPhase span.after.0 x
    → HaveDone F stage servers routes span snapshot old now more
    → AreAtWork R F stage servers routes board p phases span.from old controller carriers
    → AreAtWork R F stage servers routes board p (phases + 1) span.until now (x ++ controller) (add_notes more carriers)
all_at_work_more R F stage servers routes board p phases span snapshot old now controller x carriers more route known
    numbers order apart phase done at =
    let same = control_same stage x controller phase.no_sync
    in let syncs = at.phased.syncs
    in let count = at.count
    in let long = done.count
    in let lines = done.workers
    in let log = control_append stage x controller
    in let sync : sync_clock (control_log stage (x ++ controller)) ≡ span.after.0 = same.0 ∙ apart.sync
    in let D : Note → Type 0 =
    λ n. (span.after.0 < clock_of n) × IfSome (packet_of n.event.what) (λ k. phase_of stage k ≡ p)
    in let each_done : AllByRecursion D (notes_of_all more) = all_carried D more (λ m low.
    let a = worker_at old m (omega arith)
    in let b = worker_at now m (omega arith)
    in let kept = (done.each m a.0 b.0 a.1 b.1).phase.kept
    in each_so (IsPhaseNote F stage servers (task_of routes span snapshot a.0) (notes_by more m)) D (notes_by more m)
    (λ n d. (
      d.later,
      if_some (λ k. (span.from < k) × (k ≤ span.until)) (λ k. phase_of stage k ≡ p)
          (packet_of n.event.what)
          (λ k h. numbers k h.0 h.1) d.within,
    )) kept.each)
    in record {
      count = added_count more carriers (omega arith) ∙ count ∙ sym lines;
      each = λ m w here.
          let low = slice_get_within now m w here
          in let a = worker_at old m (omega arith)
          in let one =
          at_work_more R F stage servers routes (control_log stage controller) (control_log stage x) board p
          phases m span snapshot a.0 w (notes_by carriers m) (notes_by more m) route known numbers order
          (ap sync_clock (sym log) ∙ sync) (ap newest_before (sym log) ∙ same.1 ∙ apart.first_is)
          (ap (λ (l : List Event). counts l is_sync) (sym log) ∙ same.2 ∙ syncs)
          (control_each (λ e. span.after.0 < e.clock.0) stage x phase.later) (apart.below m)
          (done.each m a.0 w a.1 here) (at.each m a.0 a.1)
          in subst (λ (l : List Event). IsAtWork R F stage servers routes l board (phases + 1) span.until m w
          (notes_by (add_notes more carriers) m)) (sym log)
          (subst (λ (d : List Note). IsAtWork R F stage servers routes
          (control_log stage x ++ control_log stage controller)
          board (phases + 1) span.until m w d) (sym (added_of more carriers m (omega arith))) one);
      all = notes_of_all more ++ (x ++ at.all);
      same = λ f.
          let a = total_append f (notes_of_all more) (x ++ at.all)
          in let b = total_append f x at.all
          in let c = at.same f
          in let d = total_append f controller (notes_of_all carriers)
          in let e = total_append f (x ++ controller) (notes_of_all (add_notes more carriers))
          in let g = total_append f x controller
          in let h = added_total f more carriers (omega arith)
          in omega arith;
      phased = phased_more stage p (home_part stage Controller (x ++ controller)) (x ++ at.all) (notes_of_all more)
          (phased_led stage p span.after.0 x controller at.all phase apart.sync at.phased)
          (each_so D (λ y. sync_clock (control_log stage (x ++ controller)) ≤ y.event.clock.0) (notes_of_all more)
          (λ n d. let l = d.0 in omega arith) each_done)
          (each_so D (λ y. IfSome (packet_of y.event.what) (λ k. phase_of stage k ≡ p)) (notes_of_all more) (λ n d. d.1)
          each_done);
    }

-- each mux looked in the phase
look_one : (a b : Bool) → (a ≡ true → b ≡ true) → one_if a ≤ one_if (a && b)
look_one true b so = let is = so refl in rw is (omega arith)
look_one false b so = omega arith

pub all_looked : (F : Rules) (stage : Stage) (servers : List Serving) (routes : List (Option MuxId)) (span : Span)
    (snapshot : Posted) (old now : List MuxWorker) (controller x : List Note) (carriers more : List (List Note))
    → length old ≡ stage.script.setting.muxes → length carriers ≡ length old
    → ((m : ℕ) (w : MuxWorker) → slice_get old m ≡ Some w → w.mux.id.0 ≡ m)
    → sync_clock (control_log stage controller) ≡ span.after.0 → AreOfPhase span.after.0 x
    → HaveDone F stage servers routes span snapshot old now more
    → HaveLooked stage (x ++ controller) (add_notes more carriers)
all_looked F stage servers routes span snapshot old now controller x carriers more muxes count ids after phase done m low =
    let same = control_same stage x controller phase.no_sync
    in let sync : sync_clock (control_log stage (x ++ controller)) ≡ span.after.0 = same.0 ∙ after
    in let long = done.count
    in let lines = done.workers
    in let a = worker_at old m (omega arith)
    in let b = worker_at now m (omega arith)
    in let d = done.each m a.0 b.0 a.1 b.1
    in let f : Note → ℕ = λ n. one_if (looks_since m (sync_clock (control_log stage (x ++ controller))) n)
    in let id : a.0.mux.id.0 ≡ m = ids m a.0 a.1
    in let looked : 1 ≤ many (λ n. is_switch_of n.event.what m) (notes_by more m) =
    subst (λ (k : ℕ). 1 ≤ many (λ n. is_switch_of n.event.what k) (notes_by more m)) id d.phase.looked
    in let most : many (λ n. is_switch_of n.event.what m) (notes_by more m) ≤ total f (notes_by more m) =
    total_most (λ n. one_if (is_switch_of n.event.what m)) f (notes_by more m)
    (each_so (IsPhaseNote F stage servers (task_of routes span snapshot a.0) (notes_by more m))
    (λ n. one_if (is_switch_of n.event.what m) ≤ f n) (notes_by more m)
    (λ n k. look_one (is_switch_of n.event.what m) _ (λ is. le-leb _ _ (let l = k.later in omega arith)))
    d.phase.kept.each)
    in let part = part_of f more m
    in let sum = added_total f more carriers (omega arith)
    in let whole = total_append f (x ++ controller) (notes_of_all (add_notes more carriers))
    in omega arith

-- THE SYNC

at_work_later : (R : Routes) (F : Rules) (stage : Stage) (servers : List Serving) (routes : List (Option MuxId))
    (control : List Event) (e : Event) (board : Book) (phases until m : ℕ) (w : MuxWorker) (notes : List Note)
    → AllByRecursion (λ n. clock_of n < e.clock.0) notes
    → IsAtWork R F stage servers routes control board phases until m w notes
    → IsAtWork R F stage servers routes (e ∷ control) board phases until m w notes
at_work_later R F stage servers routes control e board phases until m w notes below at = record {
  going = going_later F stage servers routes control (e ∷ []) board phases until m w.mux w.caller notes at.going;
  carriage = carriage_later R F stage control (e ∷ []) w.mux.seen.clocks w.mux.seen.clocks m notes
      (each_so (λ n. clock_of n < e.clock.0) (λ n. AllByRecursion (λ z. n.event.clock.0 < z.clock.0) (e ∷ [])) notes
      (λ n h. (h, tt)) below) ([], append-nil w.mux.seen.clocks) at.carriage;
  latest = at.latest;
  steered = at.steered;
  within = at.within;
  plan = at.plan;
  tries = at.tries;
  steps = at.steps;
  room = at.room;
  stop = at.stop;
}

all_over : (x : List Note) (clock : ℕ) → greatest clock_of x < clock → AllByRecursion (λ n. clock_of n < clock) x
all_over x clock low =
    each_so (λ y. clock_of y ≤ greatest clock_of x) (λ n. clock_of n < clock) x (λ n h. omega arith) (all_under x)

pub worker_under : (carriers : List (List Note)) (m : ℕ)
    → greatest clock_of (notes_by carriers m) ≤ greatest clock_of (notes_of_all carriers)
worker_under [] m = omega arith
worker_under (d ∷ carriers) zero = let a = greatest_append clock_of d (notes_of_all carriers) in omega arith
worker_under (d ∷ carriers) (suc m) =
    let a = greatest_append clock_of d (notes_of_all carriers) in let old = worker_under carriers m in omega arith

sync_under : (top : ℕ) (h : List Note) → AllByRecursion (λ n. clock_of n ≤ top) h → sync_clock (events_of h) ≤ top
sync_under top [] all = omega arith
sync_under top (n ∷ h) all = go (is_sync n.event.what) (sync_under top h all.1) where
  go : (b : Bool) → sync_clock (events_of h) ≤ top → cond b n.event.clock.0 (sync_clock (events_of h)) ≤ top
  go true old = all.0
  go false old = old

control_sync : (stage : Stage) (x : List Note) → sync_clock (control_log stage x) ≤ greatest clock_of x
control_sync stage x =
    sync_under (greatest clock_of x) (home_part stage Controller x)
    (home_each (λ n. clock_of n ≤ greatest clock_of x) stage Controller x (all_under x))

pub sync_met : (R : Routes) (F : Rules) (stage : Stage) (servers : List Serving) (routes : List (Option MuxId))
    (board : Book) (p phases until : ℕ) (workers : List MuxWorker) (controller : List Note)
    (carriers : List (List Note))
    (n : Note) → n.event.what ≡ Sync
    → clock_of n ≡ next_clock (greatest clock_of (controller ++ notes_of_all carriers))
    (moment_at (slice_get stage.script.commands n.command))
    → HaveLooked stage controller carriers
    → AreAtWork R F stage servers routes board p phases until workers controller carriers
    → AreAtWork R F stage servers routes board (suc p) phases until workers (n ∷ controller) carriers
    × AreApart stage (clock_of n) (newest (control_log stage controller)) (n ∷ controller) carriers
sync_met R F stage servers routes board p phases until workers controller carriers n is clock looked at =
    let home : is_home stage Controller n ≡ true = rw is refl
    in let control : home_part stage Controller (n ∷ controller) ≡ n ∷ home_part stage Controller controller =
    rw home refl
    in let log : control_log stage (n ∷ controller) ≡ n.event ∷ control_log stage controller = ap events_of control
    in let sync : is_sync n.event.what ≡ true = ap is_sync is
    in let parts = greatest_append clock_of controller (notes_of_all carriers)
    in let over : greatest clock_of (controller ++ notes_of_all carriers) < clock_of n = omega arith
    in let below : (m : ℕ) → AllByRecursion (λ y. clock_of y < clock_of n) (notes_by carriers m) =
    λ m. all_over (notes_by carriers m) (clock_of n) (let u = worker_under carriers m in omega arith)
    in let top : greatest clock_of at.all ≡ greatest clock_of (controller ++ notes_of_all carriers) =
    greatest_shared clock_of at.all (controller ++ notes_of_all carriers) at.same
    in let under = all_under controller
    in let first : sync_clock (control_log stage controller) ≤ greatest clock_of controller =
    control_sync stage controller
    in let low : sync_clock (control_log stage controller) ≤ clock_of n = omega arith
    in (
      record {
        count = at.count;
        each = λ m w here. subst (λ (l : List Event). IsAtWork R F stage servers routes l board phases until m w
            (notes_by carriers m)) (sym log)
            (at_work_later R F stage servers routes (control_log stage controller) n.event board phases until m w
            (notes_by carriers m) (below m) (at.each m w here));
        all = n ∷ at.all;
        same = λ f. let s = at.same f in omega arith;
        phased = subst (λ (l : List Note). IsPhased stage (suc p) l (n ∷ at.all)) (sym control)
            (phased_sync stage p (home_part stage Controller controller) at.all n at.phased is
            (clock ∙ ap (λ (c : ℕ). next_clock c (moment_at (slice_get stage.script.commands n.command))) (sym top))
            (λ m within.
            let one = looked m within
            in let s = at.same (λ y. one_if (looks_since m (sync_clock (control_log stage controller)) y))
            in omega arith) low);
      },
      record {
        sync = ap sync_clock log ∙ rw sync refl;
        first_is = ap newest_before log ∙ rw sync refl;
        below = below;
        top = omega arith;
      },
    )

-- BEFORE THE FIRST PHASE

-- as many workers that did nothing
pub idle : ℕ → List (List Note)
idle zero = []
idle (suc n) = [] ∷ idle n

pub idle_count : (n : ℕ) → length (idle n) ≡ n
unfolding idle
idle_count zero = refl
idle_count (suc n) = ap suc (idle_count n)

pub idle_notes : (n m : ℕ) → notes_by (idle n) m ≡ []
unfolding idle
idle_notes zero m = refl
idle_notes (suc n) zero = refl
idle_notes (suc n) (suc m) = idle_notes n m

pub idle_all : (n : ℕ) → notes_of_all (idle n) ≡ []
unfolding idle
idle_all zero = refl
idle_all (suc n) = idle_all n

pub nothing_apart : (stage : Stage) (n : ℕ) → AreApart stage 0 0 [] (idle n)
nothing_apart stage n = record {
  sync = refl;
  first_is = refl;
  below = λ m. subst (λ (d : List Note). AllByRecursion (λ y. clock_of y < 0) d) (sym (idle_notes n m)) tt;
  top = refl;
}
