-- A phase more: what all workers did in it, beside what they did before.
use Rattle.std.proofs.Common.{◌≡◌, ℕ, zero, suc, ◌+◌, ◌<◌, ◌≤◌, Bool, true, false, cond, ◌&&◌, List, [], ◌∷◌}
use Rattle.std.proofs.Common.{◌++◌, length}
use Rattle.std.proofs.Common.{Option, Some, None, refl, sym, ap, ◌∙◌, subst, arith, leb, ltb, inl, inr}
use Rattle.std.proofs.Common.{append_assoc, length-append}
use Rattle.std.specs.Prelude.{reverse, is_some, IfSome}
use Rattle.std.specs.List.{AllByRecursion}
use Rattle.std.proofs.lemmas.Bool.{cases_lt}
use Rattle.logbook.specs.Pages.{Book}
use Rattle.bm_base.specs.declared.flow.Segment.{Segment}
use Rattle.bm_base.specs.declared.ids.MuxId.{MuxId}
use Rattle.bm_core.specs.declared.events.What.{What}
use Rattle.bm_core.specs.declared.events.What.TheVariants.{Publish, Switch, Steer, Lose, Arrive, Close, Retire, Sync}
use Rattle.bm_core.specs.declared.events.Event.{Event}
use Rattle.bm_core.specs.declared.events.Stage.{Stage}
use Rattle.bm_core.specs.Accounts.{Routes, Rules, counts, is_sync, steers_packet}
use Rattle.bm_core.specs.Past.{segment_of}
use Rattle.bm_core.specs.Runs.{Actor, AtEach}
use Rattle.std.proofs.Common.{append-nil as append_nil}
use Rattle.bm_core.specs.Runs.Actor.{Controller, ShardOf}
use Rattle.bm_core.specs.Threads.{sync_clock, newest_before, packet_of, phase_of, is_command}
use Rattle.bm_merge.specs.Notes.{Note, events_of, many, total}
use Rattle.bm_merge.specs.Workers.{carries, home_part, is_home, notes_by, notes_of_all, HasSending, IsCarrier, IsDrawn}
use Rattle.bm_merge.proofs.Noting.{total_append, each_append, each_so, events_append, greatest_append}
use Rattle.bm_merge.proofs.Phasing.{IsPhased, phased_more, phased_publish}
use Rattle.bm_merge.proofs.Reaching.{one_if}
use Rattle.bm_server.specs.Seats.{Seated}
use Rattle.bm_server.specs.Servings.{Serving}
use Rattle.bm_worker.specs.WorkerNotes.{clock_of, noted, HasSeats, GetReplies, IsSameCaller}
use Rattle.bm_worker.specs.Phases.{mux_log, mux_for, AreCopies, AreFew, IsAssigned, IsLossOf, IsPlaced, IsPhaseNote}
use Rattle.bm_worker.specs.Phases.{HasGrown, IsMuxGiven, Kept, Phase, Task, is_steer, task_of}
use Rattle.bm_worker.specs.Callers.{CallerState}
use Rattle.bm_worker.specs.declared.span.Span.{Span}
use Rattle.bm_mux.specs.Muxes.{MuxState}
use Rattle.bm_publish.specs.Posts.{Posted, last_version}
use Rattle.bm_server.specs.Seats.{row}
use Rattle.std.proofs.Common.{map}
use Rattle.std.proofs.lemmas.Bool.{le-leb, lt-leb, lt-ltb, le-ltb}
use Rattle.bm_worker.specs.Assigned.{is_mux, is_assigned, assigned_mux, RoutedBy}
use Rattle.bm_worker.specs.declared.worker.MuxWorker.{MuxWorker}
use Rattle.bm_world.specs.Inside.Returned.{control_log}
use Rattle.bm_world.specs.Inside.Going.{HaveReplies, IsGoing}
use Rattle.bm_world.specs.Inside.Left.{IsSteerable, IsSyncIn}
use Rattle.bm_world.specs.Inside.Running.{IsAtWork, add_notes}
use Rattle.bm_world.proofs.Amounts.{steered_part}
use Rattle.bm_world.proofs.GivingUp.{assigned_steerable, left_later, left_more, sync_some}
use Rattle.bm_world.proofs.Homes.{home_append, home_each}
use Rattle.bm_world.proofs.Growing.{carriage_later, carriage_more, carrier_routed, log_append}

-- LISTS OF NOTES

pub added_of : (more carriers : List (List Note)) (m : ℕ) → length more ≡ length carriers
    → notes_by (add_notes more carriers) m ≡ notes_by more m ++ notes_by carriers m
added_of [] [] m count = refl
added_of [] (d ∷ carriers) m count = absurd (omega arith)
added_of (x ∷ more) [] m count = absurd (omega arith)
added_of (x ∷ more) (d ∷ carriers) zero count = refl
added_of (x ∷ more) (d ∷ carriers) (suc m) count = added_of more carriers m (omega arith)

pub added_count : (more carriers : List (List Note)) → length more ≡ length carriers
    → length (add_notes more carriers) ≡ length carriers
added_count [] [] count = refl
added_count [] (d ∷ carriers) count = absurd (omega arith)
added_count (x ∷ more) [] count = absurd (omega arith)
added_count (x ∷ more) (d ∷ carriers) count = let old = added_count more carriers (omega arith) in omega arith

pub added_total : (f : Note → ℕ) (more carriers : List (List Note)) → length more ≡ length carriers
    → total f (notes_of_all (add_notes more carriers)) ≡ total f (notes_of_all more) + total f (notes_of_all carriers)
added_total f [] [] count = refl
added_total f [] (d ∷ carriers) count = absurd (omega arith)
added_total f (x ∷ more) [] count = absurd (omega arith)
added_total f (x ∷ more) (d ∷ carriers) count =
    let old = added_total f more carriers (omega arith)
    in let a = total_append f (x ++ d) (notes_of_all (add_notes more carriers))
    in let b = total_append f x d
    in let c = total_append f x (notes_of_all more)
    in let e = total_append f d (notes_of_all carriers)
    in omega arith

-- WORKER 0'S PART

-- what worker 0 does in a phase
pub record AreOfPhase (after : ℕ) (x : List Note) : Type 0 where
  pub kinds : AllByRecursion (λ n. is_command n.event.what ≡ true) x
  pub no_sync : AllByRecursion (λ n. is_sync n.event.what ≡ false) x
  pub later : AllByRecursion (λ n. after < clock_of n) x

command_no_packet : (what : What) → is_command what ≡ true → packet_of what ≡ None
command_no_packet (Publish v) is = refl
command_no_packet (Close server flow closed) is = refl
command_no_packet (Retire server h moment result) is = refl
command_no_packet Sync is = refl
command_no_packet (Switch m v) is = absurd (cc)
command_no_packet (Steer k m) is = absurd (cc)
command_no_packet (Lose k hop) is = absurd (cc)
command_no_packet (Arrive k hop server verdict) is = absurd (cc)

control_step : (stage : Stage) (n : Note) (x : List Note) (b : Bool) → is_sync n.event.what ≡ false
    → (sync_clock (events_of (cond b (n ∷ x) x)) ≡ sync_clock (events_of x))
    × (newest_before (events_of (cond b (n ∷ x) x)) ≡ newest_before (events_of x))
    × (counts (events_of (cond b (n ∷ x) x)) is_sync ≡ counts (events_of x) is_sync)
control_step stage n x true not = (rw not refl, rw not refl, rw not (omega arith))
control_step stage n x false not = (refl, refl, refl)

-- the last Sync is the same
pub control_same : (stage : Stage) (x controller : List Note) → AllByRecursion (λ n. is_sync n.event.what ≡ false) x
    → (sync_clock (control_log stage (x ++ controller)) ≡ sync_clock (control_log stage controller))
    × (newest_before (control_log stage (x ++ controller)) ≡ newest_before (control_log stage controller))
    × (counts (control_log stage (x ++ controller)) is_sync ≡ counts (control_log stage controller) is_sync)
control_same stage [] controller not = (refl, refl, refl)
control_same stage (n ∷ x) controller not =
    let old = control_same stage x controller not.1
    in let here = control_step stage n (home_part stage Controller (x ++ controller)) (is_home stage Controller n) not.0
    in (here.0 ∙ old.0, here.1 ∙ old.1, here.2 ∙ old.2)

phased_led_one : (stage : Stage) (p : ℕ) (n : Note) (control all : List Note) (b : Bool)
    → is_sync n.event.what ≡ false → packet_of n.event.what ≡ None → sync_clock (events_of control) < clock_of n
    → IsPhased stage p control all → IsPhased stage p (cond b (n ∷ control) control) (n ∷ all)
phased_led_one stage p n control all true not none later old = phased_publish stage p control all n old not none later
phased_led_one stage p n control all false not none later old =
    phased_more stage p control all (n ∷ []) old (omega arith, tt) (rw none tt, tt)

pub phased_led : (stage : Stage) (p after : ℕ) (x controller all : List Note) → AreOfPhase after x
    → sync_clock (control_log stage controller) ≡ after → IsPhased stage p (home_part stage Controller controller) all
    → IsPhased stage p (home_part stage Controller (x ++ controller)) (x ++ all)
phased_led stage p after [] controller all are is old = old
phased_led stage p after (n ∷ x) controller all are is old =
    let same = control_same stage x controller are.no_sync.1
    in let at : sync_clock (control_log stage (x ++ controller)) ≡ after = same.0 ∙ is
    in phased_led_one stage p n (home_part stage Controller (x ++ controller)) (x ++ all) (is_home stage Controller n)
    are.no_sync.0 (command_no_packet n.event.what are.kinds.0) (omega (arith, at, are.later.0))
    (phased_led stage p after x controller all
    (record { kinds = are.kinds.1; no_sync = are.no_sync.1; later = are.later.1 }) is old)

-- HEARING

pub noted_append : (stage : Stage) (a : Actor) (x y : List Note) → noted stage a (x ++ y) ≡ noted stage a y
    ++ noted stage a x
noted_append stage a [] y = sym (append_nil (noted stage a y))
noted_append stage a (n ∷ x) y =
    ap (λ (l : List (Event × ℕ)). l ++ cond (is_home stage a n) ((n.event, n.due) ∷ []) []) (noted_append stage a x y)
    ∙ append_assoc (noted stage a y) (noted stage a x) (cond (is_home stage a n) ((n.event, n.due) ∷ []) [])

pub have_more : (stage : Stage) (servers : List Serving) (a b : List (List Seated)) (x notes : List Note)
    → GetReplies stage servers a b x → HaveReplies stage servers a notes → HaveReplies stage servers b (x ++ notes)
have_more stage servers a b x notes more old s h server at =
    more s h server at
    ∙ ap (λ (l : List (Event × ℕ)). l ++ noted stage (ShardOf server.id.0 h) x) (old s h server at)
    ∙ sym (noted_append stage (ShardOf server.id.0 h) x notes)

-- A MUX'S WORKER

pub control_append : (stage : Stage) (x controller : List Note)
    → control_log stage (x ++ controller) ≡ control_log stage x ++ control_log stage controller
control_append stage x controller =
    ap (λ (h : List Note). events_of h) (home_append stage Controller x controller)
    ∙ events_append (home_part stage Controller x) (home_part stage Controller controller)

pub control_each : (P : Event → Type 0) (stage : Stage) (x : List Note) → AllByRecursion (λ n. P n.event) x
    → AllByRecursion P (control_log stage x)
control_each P stage x all = go (home_part stage Controller x) (home_each (λ n. P n.event) stage Controller x all) where
  go : (h : List Note) → AllByRecursion (λ n. P n.event) h → AllByRecursion P (events_of h)
  go [] a = tt
  go (n ∷ h) a = (a.0, go h a.1)

all_above : (after : ℕ) (y : List Event) (x : List Note) → AllByRecursion (λ e. after < e.clock.0) y
    → AllByRecursion (λ n. clock_of n < after) x
    → AllByRecursion (λ n. AllByRecursion (λ e. n.event.clock.0 < e.clock.0) y) x
all_above after y x later below =
    each_so (λ n. clock_of n < after) (λ n. AllByRecursion (λ e. n.event.clock.0 < e.clock.0) y) x
    (λ n h. above y n later h) below where
      above : (z : List Event) (n : Note) → AllByRecursion (λ e. after < e.clock.0) z → clock_of n < after
          → AllByRecursion (λ e. n.event.clock.0 < e.clock.0) z
      above [] n later low = tt
      above (e ∷ z) n later low = (omega (arith, later.0), above z n later.1 low)

if_some : (P Q : ℕ → Type 0) (o : Option ℕ) → ((k : ℕ) → P k → Q k) → IfSome o P → IfSome o Q
if_some P Q None f h = tt
if_some P Q (Some k) f h = f k h

pub assigned_sum : (routes : List (Option MuxId)) (m before until k : ℕ) → before ≤ until
    → one_if (is_assigned routes m before until k) + one_if (is_assigned routes m 0 before k)
    ≡ one_if (is_assigned routes m 0 until k)
assigned_sum routes m before until k low =
    elim (cases_lt before k) [
      | inl over ↦
          let a : ltb before k ≡ true = lt-ltb _ _ over
          in let b : ltb 0 k ≡ true = lt-ltb _ _ (omega arith)
          in let c : leb k before ≡ false = lt-leb _ _ over
          in rw (a, b, c) (go (leb k until) (is_mux (assigned_mux routes k) m))
      | inr under ↦
          let a : ltb before k ≡ false = le-ltb _ _ under
          in let b : leb k before ≡ true = le-leb _ _ under
          in let c : leb k until ≡ true = le-leb _ _ (omega arith)
          in rw (a, b, c) (omega arith)
    ] where
      go : (x y : Bool) → one_if ((true && x) && y) + one_if ((true && false) && y) ≡ one_if ((true && x) && y)
      go x y = omega arith

sits_still : (servers : List Serving) (a b : CallerState) → IsSameCaller a b → HasSeats servers a → HasSeats servers b
sits_still servers a b same has_seats =
    same.who_is ∙ has_seats ∙ ap (λ (n : ℕ). map (λ server. row server n) servers) (sym same.number)

given_same : (stage : Stage) (x : List Note) (posts : List ℕ) (a a' f f' m m' : ℕ) (old old' : List Event) → a ≡ a'
    → f ≡ f'
    → m ≡ m' → old ≡ old'
    → AtEach (λ rest e. IsMuxGiven stage a f posts (rest ++ old) e.clock.0 e.what) (mux_log stage m x)
    → AtEach (λ rest e. IsMuxGiven stage a' f' posts (rest ++ old') e.clock.0 e.what) (mux_log stage m' x)
given_same stage x posts a a' f f' m m' old old' ea ef em eo given =
    subst (λ (l : List Event). AtEach (λ rest e. IsMuxGiven stage a' f' posts (rest ++ l) e.clock.0 e.what)
    (mux_log stage m' x))
    eo (subst
    (λ (k : ℕ). AtEach (λ rest e. IsMuxGiven stage a' f' posts (rest ++ old) e.clock.0 e.what) (mux_log stage k x))
    em
    (subst (λ (v : ℕ). AtEach (λ rest e. IsMuxGiven stage a' v posts (rest ++ old) e.clock.0 e.what)
    (mux_log stage m x)) ef
    (subst (λ (c : ℕ). AtEach (λ rest e. IsMuxGiven stage c f posts (rest ++ old) e.clock.0 e.what) (mux_log stage m x))
    ea
    given)))

-- A PART OF A PHASE

assigned_at : (task : Task) (what : What) (k : ℕ) (i : MuxId) → what ≡ Steer k i → IsAssigned task what
    → is_assigned task.routes (mux_for task).0 task.from task.until k ≡ true
assigned_at task what k i is assigned = subst (λ (w : What). IsAssigned task w) is assigned

kept_steered : (F : Rules) (stage : Stage) (servers : List Serving) (routes : List (Option MuxId))
    (control : List Event) (board : Book) (phases m : ℕ) (span : Span) (posted : Posted) (old now : MuxWorker)
    (x notes : List Note) → span.from ≤ span.until
    → Kept F stage servers (task_of routes span posted old) now x
    → IsGoing F stage servers routes control board phases span.from m old.mux old.caller notes
    → (k : ℕ) → many (λ n. steers_packet n.event.what k) (x ++ notes) ≤ one_if (is_assigned routes m 0 span.until k)
kept_steered F stage servers routes control board phases m span posted old now x notes order kept at k =
    let task = task_of routes span posted old
    in let D : Note → Type 0 = IsPhaseNote F stage servers task x
    in let a = total_append (λ n. one_if (steers_packet n.event.what k)) x notes
    in let b = at.steered k
    in let c = assigned_sum routes m span.from span.until k order
    in let d = steered_part stage routes span.after.0 (last_version posted) old.mux.id.0 span.from span.until
    now.mux.seen.clocks x (reverse old.mux.log)
    (each_so D (λ n. carries old.mux.id.0 n.event.what ≡ true) x (λ n e. e.kind) kept.each)
    (each_so D (λ n. (j : ℕ) (i : MuxId) → n.event.what ≡ Steer j i
    → is_assigned routes old.mux.id.0 span.from span.until j ≡ true) x
    (λ n e j i is. assigned_at task n.event.what j i is e.assigned) kept.each) kept.gives k
    in let same : is_assigned routes old.mux.id.0 span.from span.until k ≡ is_assigned routes m span.from span.until k =
    ap (λ (i : ℕ). is_assigned routes i span.from span.until k) at.id
    in let e = ap (λ (t : Bool). one_if t) same
    in omega arith

-- with what the worker did of a phase, whether it came to its end or gave up
pub going_more : (F : Rules) (stage : Stage) (servers : List Serving) (routes : List (Option MuxId))
    (control y : List Event) (board : Book) (phases m : ℕ) (span : Span) (posted : Posted) (old now : MuxWorker)
    (x notes : List Note)
    → ((k m : ℕ) → assigned_mux routes k ≡ Some m → is_some (segment_of stage k) ≡ true)
    → span.from ≤ span.until → IsSyncIn (y ++ control) span.after.0
    → Kept F stage servers (task_of routes span posted old) now x → AreFew x
    → IsGoing F stage servers routes control board phases span.from m old.mux old.caller notes
    → IsGoing F stage servers routes (y ++ control) board (phases + 1) span.until m now.mux now.caller (x ++ notes)
going_more F stage servers routes control y board phases m span posted old now x notes known order sync kept few at =
    let task = task_of routes span posted old
    in let D : Note → Type 0 = IsPhaseNote F stage servers task x
    in let id : old.mux.id.0 ≡ m = at.id
    in let seen = now.mux.seen.clocks
    in record {
      left = left_more F stage (y ++ control) span.after.0 (last_version posted) seen seen m x notes
          ([], append_nil seen) sync
          (each_so D (λ n. carries m n.event.what ≡ true) x
          (λ n d. subst (λ (i : ℕ). carries i n.event.what ≡ true) id d.kind) kept.each)
          (each_so D (λ n. n.seat ≡ suc m) x (λ n d. let s = d.seat in omega arith) kept.each)
          (each_so D (λ n. HasSending x n n.event.what) x (λ n d. d.has_sending) kept.each)
          (each_so D (IsDrawn F) x (λ n d. d.drawn) kept.each)
          (each_so D (λ n. IsLossOf x n.event.clock.0 n.event.what) x (λ n d. d.lost) kept.each)
          (each_so D (λ n. IsSteerable stage n.event.what) x
          (λ n d. assigned_steerable stage routes old.mux.id.0 span.from span.until n.event.what known
          (λ k i is. assigned_at task n.event.what k i is d.assigned)) kept.each)
          (given_same stage x seen span.after.0 span.after.0 (last_version posted) (last_version posted) old.mux.id.0 m
          (reverse old.mux.log) (mux_log stage m notes) refl refl id at.logged kept.gives)
          (left_later F stage control y old.mux.seen.clocks seen m notes kept.mux.later.posts at.left);
      id = ap (λ (i : MuxId). i.0) kept.mux.id ∙ id;
      logged = kept.logged ∙ ap (λ (k : ℕ). mux_log stage k x ++ reverse old.mux.log) id
          ∙ ap (λ (l : List Event). mux_log stage m x ++ l) at.logged ∙ sym (log_append stage m x notes);
      replies = have_more stage servers old.caller.seats now.caller.seats x notes kept.replies at.replies;
      copies = subst (λ (i : MuxId). AreCopies stage i servers (reverse now.mux.log) now.caller.seats) (sym kept.mux.id)
          (kept.copies at.copies);
      placed = each_append (λ n. IsPlaced servers n.event.what) x notes
          (each_so D (λ n. IsPlaced servers n.event.what) x (λ n d. d.placed) kept.each) at.placed;
      number = kept.caller.number ∙ at.number;
      has_seats = sits_still servers old.caller now.caller kept.caller at.has_seats;
      board_is = kept.mux.later.board ∙ at.board_is;
      steered = kept_steered F stage servers routes control board phases m span posted old now x notes order kept at;
      few =
          let a = at.few
          in let c = length-append x notes
          in let d = total_append (λ n. one_if (is_steer n.event.what)) x notes
          in omega arith;
    }

-- while the controller goes on
pub going_later : (F : Rules) (stage : Stage) (servers : List Serving) (routes : List (Option MuxId))
    (control y : List Event) (board : Book) (phases until m : ℕ) (mux : MuxState) (caller : CallerState)
    (notes : List Note) → IsGoing F stage servers routes control board phases until m mux caller notes
    → IsGoing F stage servers routes (y ++ control) board phases until m mux caller notes
going_later F stage servers routes control y board phases until m mux caller notes at = record {
  left = left_later F stage control y mux.seen.clocks mux.seen.clocks m notes ([], append_nil mux.seen.clocks) at.left;
  id = at.id;
  logged = at.logged;
  replies = at.replies;
  copies = at.copies;
  placed = at.placed;
  number = at.number;
  has_seats = at.has_seats;
  board_is = at.board_is;
  steered = at.steered;
  few = at.few;
}

-- A WHOLE PHASE

-- what a mux's worker did in a phase
pub record HasDone (F : Rules) (stage : Stage) (servers : List Serving) (routes : List (Option MuxId)) (span : Span)
    (snapshot : Posted) (old now : MuxWorker) (x : List Note) : Type 0 where
  pub phase : Phase F stage servers (task_of routes span snapshot old) now x
  pub grown : HasGrown (task_of routes span snapshot old) now
  pub stop : now.stop ≡ None

pub at_work_more : (R : Routes) (F : Rules) (stage : Stage) (servers : List Serving) (routes : List (Option MuxId))
    (control y : List Event) (board : Book) (p phases m : ℕ) (span : Span) (snapshot : Posted) (old now : MuxWorker)
    (notes x : List Note)
    → ((k m : ℕ) (s : Segment) → assigned_mux routes k ≡ Some m → segment_of stage k ≡ Some s → R k s.flow m)
    → ((k m : ℕ) → assigned_mux routes k ≡ Some m → is_some (segment_of stage k) ≡ true)
    → ((k : ℕ) → span.from < k → k ≤ span.until → phase_of stage k ≡ p)
    → span.from ≤ span.until → sync_clock (y ++ control) ≡ span.after.0
    → newest_before (y ++ control) ≡ last_version snapshot → counts (y ++ control) is_sync ≡ p
    → AllByRecursion (λ e. span.after.0 < e.clock.0) y → AllByRecursion (λ n. clock_of n < span.after.0) notes
    → HasDone F stage servers routes span snapshot old now x
    → IsAtWork R F stage servers routes control board phases span.from m old notes
    → IsAtWork R F stage servers routes (y ++ control) board (phases + 1) span.until m now (x ++ notes)
at_work_more R F stage servers routes control y board p phases m span snapshot old now notes x route known numbers order sync
    first
    syncs later below done at =
    let phase = done.phase
    in let kept = phase.kept
    in let task = task_of routes span snapshot old
    in let id : old.mux.id.0 ≡ m = at.going.id
    in let posts = kept.mux.later.posts
    in let D : Note → Type 0 = IsPhaseNote F stage servers task x
    in let within : AllByRecursion (λ n. IfSome (packet_of n.event.what) (λ k. (span.from < k) × (k ≤ span.until))) x =
    each_so D (λ n. IfSome (packet_of n.event.what) (λ k. (span.from < k) × (k ≤ span.until))) x (λ n d. d.within)
    kept.each
    in let given : AtEach (λ rest e. IsMuxGiven stage (sync_clock (y ++ control)) (newest_before (y ++ control))
    now.mux.seen.clocks (rest ++ mux_log stage m notes) e.clock.0 e.what) (mux_log stage m x) =
    given_same stage x now.mux.seen.clocks span.after.0 (sync_clock (y ++ control)) (last_version snapshot)
    (newest_before (y ++ control)) old.mux.id.0 m (reverse old.mux.log) (mux_log stage m notes) (sym sync) (sym first)
    id
    at.going.logged kept.gives
    in record {
      going = going_more F stage servers routes control y board phases m span snapshot old now x notes known order
          (subst (λ (c : ℕ). IsSyncIn (y ++ control) c) sync (sync_some (y ++ control))) kept phase.few at.going;
      carriage = carriage_more R F stage (y ++ control) now.mux.seen.clocks m p span.from x notes syncs
          (carrier_routed R F routes stage m x route
          (subst (λ (k : ℕ). IsCarrier (RoutedBy routes) F stage k x) id phase.carrier))
          (each_so D (λ n. n.seat ≡ suc m) x (λ n d. let s = d.seat in omega arith) kept.each)
          (each_so D (λ n. sync_clock (y ++ control) < n.event.clock.0) x (λ n d. let l = d.later in omega arith)
          kept.each)
          (each_so (λ n. IfSome (packet_of n.event.what) (λ k. (span.from < k) × (k ≤ span.until)))
          (λ n. IfSome (packet_of n.event.what) (λ k. span.from < k)) x
          (λ n w. if_some (λ k. (span.from < k) × (k ≤ span.until)) (λ k. span.from < k) (packet_of n.event.what)
          (λ k h. h.0) w) within)
          (each_so (λ n. IfSome (packet_of n.event.what) (λ k. (span.from < k) × (k ≤ span.until)))
          (λ n. IfSome (packet_of n.event.what) (λ k. phase_of stage k ≡ p)) x
          (λ n w. if_some (λ k. (span.from < k) × (k ≤ span.until)) (λ k. phase_of stage k ≡ p) (packet_of n.event.what)
          (λ k h. numbers k h.0 h.1) w) within)
          kept.ordered given at.within
          (carriage_later R F stage control y old.mux.seen.clocks now.mux.seen.clocks m notes
          (all_above span.after.0 y notes later below) posts at.carriage);
      latest =
          let sum = greatest_append clock_of x notes
          in let a = kept.latest
          in let b = at.latest
          in omega arith;
      steered = λ k.
          let sum = total_append (λ n. one_if (steers_packet n.event.what k)) x notes
          in let a = phase.steered k
          in let b = at.steered k
          in let c = assigned_sum routes m span.from span.until k order
          in let d : is_assigned routes old.mux.id.0 span.from span.until k
          ≡ is_assigned routes m span.from span.until k =
          ap (λ (i : ℕ). is_assigned routes i span.from span.until k) id
          in let e = ap (λ (t : Bool). one_if t) d
          in omega arith;
      within = each_append (λ n. IfSome (packet_of n.event.what) (λ k. k ≤ span.until)) x notes
          (each_so (λ n. IfSome (packet_of n.event.what) (λ k. (span.from < k) × (k ≤ span.until)))
          (λ n. IfSome (packet_of n.event.what) (λ k. k ≤ span.until)) x
          (λ n w. if_some (λ k. (span.from < k) × (k ≤ span.until)) (λ k. k ≤ span.until) (packet_of n.event.what)
          (λ k h. h.1) w) within)
          (each_so (λ n. IfSome (packet_of n.event.what) (λ k. k ≤ span.from))
          (λ n. IfSome (packet_of n.event.what) (λ k. k ≤ span.until)) notes
          (λ n w. if_some (λ k. k ≤ span.from) (λ k. k ≤ span.until) (packet_of n.event.what) (λ k h. omega arith) w)
          at.within);
      plan = kept.mux.later.plan ∙ at.plan;
      tries = let a = done.grown.tries in let b = at.tries in omega arith;
      steps = let a = done.grown.steps in let b = at.steps in omega arith;
      room = let a = done.grown.log in let b = at.room in omega arith;
      stop = done.stop;
    }
