-- A phase that all workers have done, and the Sync after it.
use Rattle.std.proofs.Common.{◌≡◌, ℕ, suc, ◌+◌, ◌-◌, ◌<◌, ◌≤◌, max, true, false, List, []}
use Rattle.std.proofs.Common.{◌∷◌, ◌++◌, length, map, Option, Some, None, refl, sym, ap, ◌∙◌, subst}
use Rattle.std.proofs.Common.{arith}
use Rattle.std.specs.Prelude.{slice_get, option_map, is_some, Result, Ok, Err, IfOk, OnOk}
use Rattle.std.specs.List.{AllByRecursion}
use Rattle.std.proofs.lemmas.List.{length-map}
use Rattle.std.proofs.lemmas.Option.{same_Some, slice_get_within, slice_get-map}
use Rattle.bm_rows.proofs.Places.{there}
use Rattle.logbook.specs.Pages.{Book}
use Rattle.bm_base.specs.declared.ids.MuxId.{MuxId}
use Rattle.bm_core.specs.declared.events.Stage.{Stage}
use Rattle.bm_core.specs.Accounts.{Routes, Rules, is_sync}
use Rattle.bm_core.specs.Past.{segment_of, newest}
use Rattle.bm_core.specs.Stages.{IsSound}
use Rattle.bm_core.specs.Threads.{phase_of, is_command, moment_at}
use Rattle.bm_core.specs.Runs.{next_clock}
use Rattle.bm_merge.specs.Notes.{Note, greatest}
use Rattle.bm_merge.specs.Workers.{notes_by, notes_of_all}
use Rattle.bm_merge.proofs.Commanding.{all_kinds}
use Rattle.bm_merge.proofs.Noting.{each_append, greatest_append}
use Rattle.bm_publish.specs.Posts.{Posted, last_version}
use Rattle.bm_server.specs.Servings.{Serving}
use Rattle.bm_worker.specs.WorkerNotes.{clock_of, AreServersOf}
use Rattle.bm_worker.specs.Phases.{HasEnded, HasWorked, task_of}
use Rattle.bm_worker.specs.Assigned.{RoutedBy, assigned_mux}
use Rattle.bm_worker.specs.declared.span.Span.{Span}
use Rattle.bm_worker.specs.declared.stop.Stop.{Stop}
use Rattle.bm_worker.specs.declared.worker.MuxWorker.{MuxWorker}
use Rattle.bm_lead.specs.declared.leader.Leader.{Leader}
use Rattle.bm_lead.specs.Commands.{syncing}
use Rattle.bm_lead.specs.Leaders.{UnlessMemory}
use Rattle.bm_lead.specs.Leads.{HasLed, HasSynced, IsLed, IsPlaced, Leads}
use Rattle.bm_world.specs.declared.phase.Next.{Next}
use Rattle.bm_world.specs.declared.phase.Next.TheVariants.{Phase as Coming, End, Late as TooLate}
use Rattle.bm_world.specs.Inside.GivenUp.{HasGivenUp}
use Rattle.bm_world.specs.Inside.RunStates.{left_of, HasMet, IsNext}
use Rattle.bm_world.specs.Inside.RunStates.{with_posts, latest_in, HaveNotStopped, HaveWorked, IsBetween, IsStanding}
use Rattle.bm_world.specs.Inside.RunStates.{IsThrough}
use Rattle.bm_world.specs.Inside.Returned.{control_log}
use Rattle.bm_world.specs.Inside.Running.{AreAtWork, AreApart, HaveLooked, IsAtPhase, add_notes}
use Rattle.bm_world.proofs.Joining.{AreOfPhase, HasDone, have_more}
use Rattle.bm_world.proofs.Meeting.{HaveDone, all_at_work_more, all_looked, sync_met}
use Rattle.bm_world.proofs.Stopping.{choose, too_late_to_sync}
use Rattle.bm_world.proofs.BeforePhase.{all_informed, informed_at}

-- WHAT EACH DID

-- what each mux's worker did of a phase, once it knew what is posted
abbrev pub Worked : Rules → Stage → List Serving → List (Option MuxId) → Span → Posted → List MuxWorker
    → List MuxWorker → Type 0
Worked F stage servers routes span posted old now =
    (m : ℕ) (x y : MuxWorker) → slice_get old m ≡ Some x → slice_get now m ≡ Some y
    → HasWorked F stage servers routes span (with_posts posted x) y

-- where the call says so of the workers that know what is posted
pub worked_at : (F : Rules) (stage : Stage) (servers : List Serving) (routes : List (Option MuxId)) (span : Span)
    (posted : Posted) (old informed now : List MuxWorker) → informed ≡ map (with_posts posted) old
    → HaveWorked F stage servers routes span informed now → Worked F stage servers routes span posted old now
worked_at F stage servers routes span posted old informed now is each m x y a b =
    each m (with_posts posted x) y
    (ap (λ (l : List MuxWorker). slice_get l m) is ∙ slice_get-map (with_posts posted) old m
    ∙ ap (option_map (with_posts posted)) a) b

done_one : (F : Rules) (stage : Stage) (servers : List Serving) (routes : List (Option MuxId)) (span : Span)
    (posted : Posted) (x y : MuxWorker) → x.stop ≡ None → y.stop ≡ None
    → HasWorked F stage servers routes span (with_posts posted x) y
    → (d : List Note) × HasDone F stage servers routes span posted (with_posts posted x) y d
done_one F stage servers routes span posted x y before after worked =
    let done = subst (λ (s : Option Stop). HasEnded F stage servers (task_of routes span posted (with_posts posted x))
    y s) after (worked.ended posted before refl)
    in (
      done.0,
      record { phase = done.1; grown = worked.grown posted before refl; stop = after },
    )

pub have_done : (F : Rules) (stage : Stage) (servers : List Serving) (routes : List (Option MuxId)) (span : Span)
    (posted : Posted) (old now : List MuxWorker) → length now ≡ length old
    → ((m : ℕ) (x : MuxWorker) → slice_get old m ≡ Some x → x.stop ≡ None) → HaveNotStopped now
    → Worked F stage servers routes span posted old now
    → (more : List (List Note)) × HaveDone F stage servers routes span posted (map (with_posts posted) old) now more
have_done F stage servers routes span posted old now long before after worked =
    let informed = map (with_posts posted) old
    in let size : length informed ≡ length old = length-map old (with_posts posted)
    in let P : ℕ → List Note → Type 0 =
    λ m d. (x y : MuxWorker) → slice_get old m ≡ Some x → slice_get now m ≡ Some y
    → HasDone F stage servers routes span posted (with_posts posted x) y d
    in let all = choose P (length old) (λ m low.
    let a = there old m low
    in let b = there now m (omega arith)
    in let one = done_one F stage servers routes span posted a.0 b.0 (before m a.0 a.1) (after m b.0 b.1)
    (worked m a.0 b.0 a.1 b.1)
    in (
      one.0,
      λ x y p q.
          subst (λ (z : MuxWorker). HasDone F stage servers routes span posted (with_posts posted z) y one.0)
          (same_Some a.0 x (sym a.1 ∙ p))
          (subst (λ (z : MuxWorker). HasDone F stage servers routes span posted (with_posts posted a.0) z one.0)
          (same_Some b.0 y (sym b.1 ∙ q)) one.1),
    ))
    in (
      all.0,
      record {
        workers = long ∙ sym size;
        count = all.1 ∙ sym size;
        each = λ m a b p q.
            let x = informed_at posted old m a p
            in subst (λ (z : MuxWorker). HasDone F stage servers routes span posted z b (notes_by all.0 m)) x.2
            (all.2 m (slice_get_within old m x.0 x.1) x.0 b x.1 q);
      },
    )

-- THE PHASE

-- what worker 0 did is of the phase
of_phase : (stage : Stage) (servers : List Serving) (posted q : Posted) (leader b : Leader) (after : ℕ)
    (x controller : List Note) → IsLed stage posted leader controller → after ≡ leader.caller.latest
    → Leads stage servers posted q leader b x → AllByRecursion (λ n. is_sync n.event.what ≡ false) x
    → AreOfPhase after x
of_phase stage servers posted q leader b after x controller led is leads none = record {
  kinds = commands_of x controller (all_kinds stage (x ++ controller) (leads.led controller led).each);
  no_sync = none;
  later = subst (λ (k : ℕ). AllByRecursion (λ n. k < clock_of n) x) (sym is) leads.since;
} where
  commands_of : (x y : List Note) → AllByRecursion (λ n. is_command n.event.what ≡ true) (x ++ y)
      → AllByRecursion (λ n. is_command n.event.what ≡ true) x
  commands_of [] y all = tt
  commands_of (n ∷ x) y all = (all.0, commands_of x y all.1)

pub phase_stands : (F : Rules) (stage : Stage) (servers : List Serving) (routes : List (Option MuxId))
    (posted q : Posted) (leader b : Leader) (old now : List MuxWorker) (span : Span)
    (between : IsBetween F stage servers routes posted leader old span.from)
    → ((k m : ℕ) → assigned_mux routes k ≡ Some m → is_some (segment_of stage k) ≡ true)
    → span.after.0 ≡ leader.caller.latest → span.from ≤ span.until
    → ((k : ℕ) → span.from < k → k ≤ span.until → phase_of stage k ≡ between.p)
    → HasLed stage servers posted q leader b → length now ≡ length old → HaveNotStopped now
    → Worked F stage servers routes span posted old now
    → (controller : List Note) × (carriers : List (List Note))
    × IsStanding F stage servers routes q b now between.p (between.p + 1) span.until controller carriers
    × HaveLooked stage controller carriers
phase_stands F stage servers routes posted q leader b old now span between known after order numbers led long none
    worked =
    let standing = between.standing
    in let controller = between.controller
    in let carriers = between.carriers
    in let informed = map (with_posts posted) old
    in let R : Routes = RoutedBy routes
    in let x = led.1.0
    in let leads = led.1.1
    in let at = all_informed R F stage servers routes posted.board between.p between.p span.from posted old controller
    carriers standing.at_work
    in let done = have_done F stage servers routes span posted old now long
    (λ m w here. (standing.at_work.each m w here).stop) none worked
    in let version : last_version posted ≡ leader.published.0 = standing.ready.posted_is.count
    in let apart : AreApart stage span.after.0 (last_version posted) controller carriers =
    subst (λ (k : ℕ). AreApart stage k (last_version posted) controller carriers) (sym after)
    (subst (λ (k : ℕ). AreApart stage leader.caller.latest k controller carriers) (sym version) between.apart)
    in let phase = of_phase stage servers posted q leader b span.after.0 x controller standing.led after leads led.1.2
    in let one = all_at_work_more R F stage servers routes posted.board between.p between.p span posted informed now
    controller x carriers done.0 (λ k m s is seg. is) known numbers order apart phase done.1 at
    in let size : length informed ≡ length old = length-map old (with_posts posted)
    in let muxes = standing.muxes
    in (
      x ++ controller,
      add_notes done.0 carriers,
      record {
        muxes = long ∙ muxes;
        ready = led.0;
        led = leads.led controller standing.led;
        replies = have_more stage servers leader.caller.seats b.caller.seats x controller leads.replies standing.replies;
        placed = each_append (λ n. IsPlaced stage servers n.event.what) x controller leads.placed standing.placed;
        at_work = subst (λ (k : Book). AreAtWork R F stage servers routes k between.p (between.p + 1) span.until now
            (x ++ controller) (add_notes done.0 carriers)) (sym leads.board) one;
      },
      all_looked F stage servers routes span posted informed now controller x carriers done.0 (size ∙ muxes)
          (at.count)
          (λ m w here. (at.each m w here).going.id) apart.sync phase done.1,
    )

-- THE SYNC

-- the greatest clock of all workers
latest_all : (g : Note → ℕ) (carriers : List (List Note)) (workers : List MuxWorker) → length carriers ≡ length workers
    → ((m : ℕ) (w : MuxWorker) → slice_get workers m ≡ Some w
    → w.caller.latest ≡ greatest clock_of (notes_by carriers m))
    → latest_in workers ≡ greatest clock_of (notes_of_all carriers)
latest_all g [] [] count each = refl
latest_all g [] (w ∷ workers) count each = absurd (omega arith)
latest_all g (d ∷ carriers) [] count each = absurd (omega arith)
latest_all g (d ∷ carriers) (w ∷ workers) count each =
    let first = each 0 w refl
    in let rest = latest_all g carriers workers (omega arith) (λ m y at. each (suc m) y at)
    in let sum = greatest_append clock_of d (notes_of_all carriers)
    in omega arith

pub latest_is : (F : Rules) (stage : Stage) (servers : List Serving) (routes : List (Option MuxId)) (posted : Posted)
    (leader : Leader) (workers : List MuxWorker) (p phases until : ℕ) (controller : List Note) (carriers : List (List Note))
    → IsStanding F stage servers routes posted leader workers p phases until controller carriers
    → max leader.caller.latest (latest_in workers) ≡ greatest clock_of (controller ++ notes_of_all carriers)
latest_is F stage servers routes posted leader workers p phases until controller carriers standing =
    let all = latest_all clock_of carriers workers standing.at_work.count
    (λ m w here. (standing.at_work.each m w here).latest)
    in let first = standing.led.latest
    in let sum = greatest_append clock_of controller (notes_of_all carriers)
    in omega arith

pub sync_stands : (F : Rules) (stage : Stage) (servers : List Serving) (routes : List (Option MuxId)) (posted : Posted)
    (leader b : Leader) (workers : List MuxWorker) (p start : ℕ) (controller : List Note) (carriers : List (List Note))
    → IsStanding F stage servers routes posted leader workers p (p + 1) start controller carriers
    → HaveLooked stage controller carriers
    → HasSynced stage servers posted (max leader.caller.latest (latest_in workers)) leader b
    → IsAtPhase stage (leader.next + 1) (p + 1) start → start ≤ length stage.capture.records
    → IsBetween F stage servers routes posted b workers start
sync_stands F stage servers routes posted leader b workers p start controller carriers standing looked synced at within =
    let R : Routes = RoutedBy routes
    in let n : Note = syncing synced.clock leader.next
    in let top = latest_is F stage servers routes posted leader workers p (p + 1) start controller carriers standing
    in let clock : clock_of n ≡ next_clock (greatest clock_of (controller ++ notes_of_all carriers))
    (moment_at (slice_get stage.script.commands n.command)) =
    synced.is_next ∙ ap (λ (k : ℕ). next_clock k (moment_at (slice_get stage.script.commands leader.next))) top
    in let met = sync_met R F stage servers routes posted.board p (p + 1) start workers controller carriers n refl clock
    looked standing.at_work
    in let led = synced.leads.led controller standing.led
    in let next : b.next ≡ leader.next + 1 = synced.next
    in let one : suc p ≡ p + 1 = omega arith
    in let published : newest (control_log stage controller) ≡ b.published.0 =
    led.published
    in record {
      p = p + 1;
      controller = n ∷ controller;
      carriers = carriers;
      standing = record {
        muxes = standing.muxes;
        ready = synced.ready;
        led = led;
        replies = have_more stage servers leader.caller.seats b.caller.seats (n ∷ []) controller synced.leads.replies
            standing.replies;
        placed = (synced.leads.placed.0, standing.placed);
        at_work = subst (λ (k : ℕ). AreAtWork R F stage servers routes posted.board k (p + 1) start workers
            (n ∷ controller) carriers) one met.0;
      };
      apart = subst (λ (k : ℕ). AreApart stage k b.published.0 (n ∷ controller) carriers) (sym synced.latest)
          (subst (λ (k : ℕ). AreApart stage (clock_of n) k (n ∷ controller) carriers) published met.1);
      at_phase = subst (λ (k : ℕ). IsAtPhase stage k (p + 1) start) (sym next) at;
      within = within;
      early = let latest = synced.latest in let bound = synced.bound in omega arith;
    }

-- THE END

pub end_stands : (F : Rules) (stage : Stage) (servers : List Serving) (routes : List (Option MuxId)) (posted : Posted)
    (leader b : Leader) (workers : List MuxWorker) (p phases until : ℕ) (controller : List Note)
    (carriers : List (List Note))
    → IsStanding F stage servers routes posted leader workers p phases until controller carriers
    → HaveLooked stage controller carriers → until ≡ length stage.capture.records
    → length stage.script.commands ≤ leader.next → b ≡ leader
    → IsThrough F stage servers routes posted b workers
end_stands F stage servers routes posted leader b workers p phases until controller carriers standing looked whole all
    same = subst (λ (h : Leader). IsThrough F stage servers routes posted h workers) (sym same) (record {
      p = p;
      phases = phases;
      controller = controller;
      carriers = carriers;
      standing = subst (λ (k : ℕ). IsStanding F stage servers routes posted leader workers p phases k controller carriers)
          whole standing;
      looked = looked;
      done = let next = standing.ready.next in omega arith;
    })

-- WHAT COMES NEXT

-- after a phase that all have done
pub record IsMeeting (F : Rules) (stage : Stage) (servers : List Serving) (routes : List (Option MuxId))
    (posted : Posted) (leader : Leader) (workers : List MuxWorker) (until : ℕ) : Type 0 where
  pub sound : IsSound stage
  pub servers_are : AreServersOf stage servers
  pub steerable : (k m : ℕ) → assigned_mux routes k ≡ Some m → is_some (segment_of stage k) ≡ true
  pub p : ℕ
  pub controller : List Note
  pub carriers : List (List Note)
  pub standing : IsStanding F stage servers routes posted leader workers p (p + 1) until controller carriers
  pub looked : HaveLooked stage controller carriers
  pub within : until ≤ length stage.capture.records
  pub last : length stage.script.commands ≤ leader.next → until ≡ length stage.capture.records
  pub next : leader.next < length stage.script.commands → IsAtPhase stage (leader.next + 1) (p + 1) until

pub met_next : (F : Rules) (stage : Stage) (servers : List Serving) (routes : List (Option MuxId)) (posted : Posted)
    (leader b : Leader) (workers : List MuxWorker) (until : ℕ) (next : Next)
    → IsMeeting F stage servers routes posted leader workers until → HasMet stage leader b workers until next
    → IsNext F stage servers routes posted b workers next
met_next F stage servers routes posted leader b workers until (Coming s) is met =
    let synced = met.1 servers posted is.servers_are is.standing.ready
    in let after = synced.next
    in let room = synced.ready.next
    in subst (λ (k : ℕ). IsBetween F stage servers routes posted b workers k) (sym met.0)
    (sync_stands F stage servers routes posted leader b workers is.p until is.controller is.carriers is.standing is.looked
    synced (is.next (omega arith)) is.within)
met_next F stage servers routes posted leader b workers until End is met =
    end_stands F stage servers routes posted leader b workers is.p (is.p + 1) until is.controller is.carriers is.standing
    is.looked (is.last met.0) met.0 met.1
met_next F stage servers routes posted leader b workers until TooLate is met =
    subst (λ (h : Leader). HasGivenUp F stage servers routes posted h workers) (sym met.0)
    (too_late_to_sync F stage servers routes posted leader workers is.p (is.p + 1) until is.controller is.carriers
    met.1.0 met.1.1 is.sound is.steerable is.within (omega arith) is.standing met.1.2)

pub met_fewer : (F : Rules) (stage : Stage) (servers : List Serving) (routes : List (Option MuxId)) (posted : Posted)
    (leader b : Leader) (workers : List MuxWorker) (until start : ℕ) (next : Next)
    → IsMeeting F stage servers routes posted leader workers until → HasMet stage leader b workers until next
    → start ≤ leader.next
    → left_of next b.next (length stage.script.commands) < suc (length stage.script.commands - start)
met_fewer F stage servers routes posted leader b workers until start (Coming s) is met low =
    let synced = met.1 servers posted is.servers_are is.standing.ready
    in let after = synced.next
    in let room = synced.ready.next
    in omega arith
met_fewer F stage servers routes posted leader b workers until start End is met low = omega arith
met_fewer F stage servers routes posted leader b workers until start TooLate is met low = omega arith

-- a phase that all have done
pub phase_meets : (F : Rules) (stage : Stage) (servers : List Serving) (routes : List (Option MuxId))
    (posted q : Posted) (leader b : Leader) (old now : List MuxWorker) (span : Span) (place : ℕ)
    → IsSound stage → AreServersOf stage servers
    → ((k m : ℕ) → assigned_mux routes k ≡ Some m → is_some (segment_of stage k) ≡ true)
    → (between : IsBetween F stage servers routes posted leader old span.from)
    → span.after.0 ≡ leader.caller.latest → span.from ≤ span.until → span.until ≤ length stage.capture.records
    → ((k : ℕ) → span.from < k → k ≤ span.until → phase_of stage k ≡ between.p)
    → (length stage.script.commands ≤ place → span.until ≡ length stage.capture.records)
    → (place < length stage.script.commands → IsAtPhase stage (place + 1) (between.p + 1) span.until)
    → HasLed stage servers posted q leader b → b.next ≡ place → length now ≡ length old → HaveNotStopped now
    → Worked F stage servers routes span posted old now
    → IsMeeting F stage servers routes q b now span.until
phase_meets F stage servers routes posted q leader b old now span place sound servers_are steerable between after order within
    numbers
    last next led at long none worked =
    let stands = phase_stands F stage servers routes posted q leader b old now span between steerable after order numbers led
    long none worked
    in record {
      sound = sound;
      servers_are = servers_are;
      steerable = steerable;
      p = between.p;
      controller = stands.0;
      carriers = stands.1;
      standing = stands.2;
      looked = stands.3;
      within = within;
      last = λ all. last (omega arith);
      next = λ low. subst (λ (k : ℕ). IsAtPhase stage (k + 1) (between.p + 1) span.until) (sym at) (next (omega arith));
    }

-- what the answer of a call gives gives another
pub if_ok_more : {A E : Type 0} (P Q : A → Type 0) (r : Result A E) → ((x : A) → P x → Q x) → IfOk r P → IfOk r Q
if_ok_more P Q (Ok x) f p = f x p
if_ok_more P Q (Err e) f p = tt

pub led_if_ok : (led : Result (Unit {0}) Stop) (P : Type 0) → led ≡ Ok tt → UnlessMemory led P → P
led_if_ok led P is h = subst (λ (r : Result (Unit {0}) Stop). UnlessMemory r P) is h

pub on_ok : (led : Result (Unit {0}) Stop) (P : Type 0) → led ≡ Ok tt → OnOk led P → P
on_ok led P is h = subst (λ (r : Result (Unit {0}) Stop). OnOk r P) is h
