-- How a phase begins and how it ends.
use Rattle.std.proofs.Common.{◌≡◌, ℕ, ◌+◌, ◌<◌, ◌≤◌, ◌==◌, ◌&&◌, ◌||◌, max, Bool, true, false, cond}
use Rattle.std.proofs.Common.{List, [], ◌∷◌, ◌++◌}
use Rattle.std.proofs.Common.{length, reverse, Option, Some, None, refl, sym, ap, ◌∙◌, subst}
use Rattle.std.proofs.Common.{arith, ltb, leb}
use Rattle.std.specs.Prelude.{IfSome, MatchBool}
use Rattle.std.specs.List.{AllByRecursion}
use Rattle.std.proofs.lemmas.Bool.{eq-eqb, le-leb, lt-leb, and_from, and_parts}
use Rattle.std.proofs.lemmas.List.{reverse-append, length-append}
use Rattle.bm_base.specs.declared.flow.Segment.{Segment}
use Rattle.bm_base.specs.declared.ids.MuxId.{MuxId}
use Rattle.bm_core.specs.declared.events.Event.{Event}
use Rattle.bm_core.specs.declared.events.Stage.{Stage}
use Rattle.bm_core.specs.declared.events.What.{What}
use Rattle.bm_core.specs.declared.events.What.TheVariants.{Publish, Switch, Steer, Lose, Arrive, Close, Retire, Sync}
use Rattle.bm_core.specs.Accounts.{IsRouted, Rules, steers_packet}
use Rattle.bm_core.specs.Past.{is_switch_of, label_of, segment_of, version_at}
use Rattle.bm_core.specs.Threads.{packet_of}
use Rattle.bm_merge.specs.Notes.{Note, events_of, many, switched_since}
use Rattle.bm_merge.specs.Workers.{IsAnswer, HasSending, carries}
use Rattle.bm_merge.proofs.Noting.{each_so}
use Rattle.bm_publish.specs.Posts.{Continues, Posted, last_post, last_version}
use Rattle.bm_mux.specs.Muxes.{HasBegun, MuxState}
use Rattle.bm_mux.specs.Steers.{steering_clock, switch_to}
use Rattle.bm_server.specs.Servings.{Serving}
use Rattle.bm_server.specs.Seats.{Seated}
use Rattle.bm_worker.specs.declared.stop.Stop.{Stop}
use Rattle.bm_worker.specs.declared.stop.Stop.TheVariants.{Memory}
use Rattle.bm_worker.specs.declared.worker.MuxWorker.{MuxWorker}
use Rattle.bm_worker.specs.Inside.Batches.{HasOnlyLooked, HasSeen, IsDoneTo, IsLogged, IsSteerTo, switch_note}
use Rattle.bm_worker.specs.Phases.{AreCopies, HasEnded, IsPhaseNote, IsOlder, IsReady, IsStopOf, IsAssigned, Kept}
use Rattle.bm_worker.specs.Phases.{Task, mux_log, mux_for}
use Rattle.bm_worker.specs.Assigned.{RoutedBy, is_mux, is_assigned, assigned_mux}
use Rattle.bm_worker.proofs.Collecting.{assigned_none, mux_is}
use Rattle.bm_worker.proofs.Copying.{copies_as}
use Rattle.bm_worker.proofs.Going.{kept_looked}
use Rattle.bm_worker.proofs.CallNotes.{gets_none}
use Rattle.bm_worker.proofs.Keeping.{Step, kept_more}
use Rattle.bm_worker.proofs.Phasing.{each_reverse, gets_steerings}
use Rattle.bm_worker.proofs.Steering.{last_posted, own_steering, steerings_home}
use Rattle.bm_worker.proofs.Steps.{same_posts}

-- NOTHING DONE YET

pub kept_none : (F : Rules) (stage : Stage) (servers : List Serving) (task : Task)
    → Kept F stage servers task task.start []
kept_none F stage servers task = record {
  each = tt;
  ordered = tt;
  logged = refl;
  gives = tt;
  replies = gets_none stage servers task.start.caller.seats;
  copies = λ are. are;
  latest = omega arith;
  mux = same_posts task.start task.start refl refl;
  caller = record { number = refl; who_is = refl };
}

-- memory was refused before the first look
pub begin_refused : (F : Rules) (stage : Stage) (servers : List Serving) (task : Task) (next : MuxWorker)
    (stop : Stop) → stop ≡ Memory → HasOnlyLooked task.start next → HasEnded F stage servers task next (Some stop)
begin_refused F stage servers task next stop memory looked = (
  [],
  kept_looked F stage servers task task.start next [] looked (kept_none F stage servers task),
  subst (λ (s : Stop). IsStopOf [] s) (sym memory) tt,
  omega arith,
)

-- THE LOG FROM BEFORE

older_logged : (m : MuxId) (from after : ℕ) (log : List Event) → AllByRecursion (IsOlder m from after) log
    → AllByRecursion (IsLogged m from) log
older_logged m from after [] all = tt
older_logged m from after (e ∷ log) all =
    (record { own = all.0.own; packet = of_what e.what all.0.packet }, older_logged m from after log all.1) where
      of_what : (what : What) → IfSome (packet_of what) (λ k. k ≤ from) → IsSteerTo from what
      of_what (Steer k x) is = is
      of_what (Switch x v) is = tt
      of_what (Publish v) is = tt
      of_what (Lose k hop) is = tt
      of_what (Arrive k hop server verdict) is = tt
      of_what (Close server flow closed) is = tt
      of_what (Retire server h at result) is = tt
      of_what Sync is = tt

not_after : (a b : Bool) → b ≡ false → ◌≡◌ {A = Bool} (a && b) false
not_after true b is = is
not_after false b is = refl

or_none : (a b : Bool) → a ≡ false → b ≡ false → ◌≡◌ {A = Bool} (a || b) false
or_none a b off none = rw off none

-- the mux hasn't looked since the Sync
none_since : (m : MuxId) (from after : ℕ) (log : List Event) → AllByRecursion (IsOlder m from after) log
    → switched_since after m.0 log ≡ false
none_since m from after [] all = refl
none_since m from after (e ∷ log) all =
    or_none (is_switch_of e.what m.0 && leb after e.clock.0) (switched_since after m.0 log)
    (not_after (is_switch_of e.what m.0) (leb after e.clock.0) (lt-leb after e.clock.0 all.0.clock))
    (none_since m from after log all.1)

prefix_version : (a b : Posted) → Continues a b → last_version a ≤ last_version b
prefix_version a b later =
    let e : length (a.clocks ++ later.posts.0) ≡ length b.clocks = ap (λ (l : List ℕ). length l) later.posts.1 in
    let f = length-append a.clocks later.posts.0 in omega (arith, e, f)

-- THE FIRST LOOK

abbrev first_note : Task → MuxWorker → Note
first_note task mid =
    switch_note (mux_for task) mid.mux.seen (reverse task.start.mux.log) (max task.after (last_post mid.mux.seen))

begun_turned : (task : Task) (mid : MuxWorker) → HasBegun task.start.mux task.posted task.after mid.mux
    → reverse mid.mux.log ≡ (first_note task mid).event ∷ reverse task.start.mux.log
begun_turned task mid begun =
    ap (λ (l : List Event). reverse l) begun.log
    ∙ reverse-append task.start.mux.log ((first_note task mid).event ∷ [])

pub begun_log : (old new : MuxState) (posted : Posted) (after : ℕ) → HasBegun old posted after new
    → length new.log ≡ length old.log + 1
begun_log old new posted after begun =
    let e = switch_to old.id new.seen (reverse old.log) (max after (last_post new.seen)) in
    let a : length new.log ≡ length (old.log ++ e ∷ []) = ap (λ (l : List Event). length l) begun.log in
    let b = length-append old.log (e ∷ []) in omega (arith, a, b)

begun_step : (F : Rules) (stage : Stage) (servers : List Serving) (task : Task) (mid : MuxWorker)
    → IsReady stage servers task → HasBegun task.start.mux task.posted task.after mid.mux
    → HasSeen task.start mid → Step F stage servers task task.start mid [] (first_note task mid ∷ [])
begun_step F stage servers task mid ready begun seen_it =
    let m = mux_for task in let past = reverse task.start.mux.log in let seen = mid.mux.seen in
    let n = first_note task mid in
    let turned = begun_turned task mid begun in
    let older = each_reverse (IsOlder m task.from task.after) task.start.mux.log ready.older in
    let logged = older_logged m task.from task.after past older in
    let own = own_steering stage m task.from past logged in
    let log : mux_log stage m.0 (n ∷ []) ≡ n.event ∷ [] =
    ap (λ (l : List Note). events_of l) (steerings_home stage m (n ∷ []) (refl, tt)) in
    let look : MatchBool (switched_since task.after m.0 past) ((version_at past m).0 < last_version seen)
    ((last_version task.posted ≤ last_version seen) × ((version_at past m).0 ≤ last_version seen)) =
    subst (λ (b : Bool). MatchBool b ((version_at past m).0 < last_version seen)
    ((last_version task.posted ≤ last_version seen) × ((version_at past m).0 ≤ last_version seen)))
    (sym (none_since m task.from task.after past older))
    (prefix_version task.posted seen begun.learned, begun.looked.newer) in
    record {
      each = (
        record {
          kind = eq-eqb m.0 m.0 refl;
          seat = refl;
          later = omega arith;
          within = tt;
          assigned = tt;
          has_sending = tt;
          lost = tt;
          drawn = tt;
          placed = tt;
        },
        tt,
      );
      ordered = (tt, tt);
      logged = turned ∙ ap (λ (l : List Event). l ++ past) (sym log);
      gives = subst (λ (l : List Event). Rattle.bm_core.specs.Runs.AtEach
          (λ rest e. Rattle.bm_worker.specs.Phases.IsMuxGiven stage task.after (last_version task.posted) seen.clocks
          (rest ++ past) e.clock.0 e.what) l)
          (sym log)
          ((look, (last_post seen, last_posted seen, (omega (arith, own)))), tt);
      replies = gets_steerings stage servers m (n ∷ []) task.start.caller.seats mid.caller.seats seen_it.seats
          (refl, tt);
      copies = λ are. subst (λ (l : List (List Seated)). AreCopies stage m servers (reverse mid.mux.log) l)
          (sym seen_it.seats)
          (copies_as stage servers m past (reverse mid.mux.log) task.start.caller.seats
          (λ k l is. ap (λ (z : List Event). label_of stage z k) turned ∙ is) are);
      latest =
          let clock : steering_clock (reverse mid.mux.log) ≡ n.event.clock.0 =
          ap (λ (l : List Event). steering_clock l) turned in
          let l = seen_it.latest in omega (arith, clock, l);
      mux = begun.looked.same;
      caller = seen_it.caller;
    }

or_left : (a b : Bool) → a ≡ true → ◌≡◌ {A = Bool} (a || b) true
or_left a b is = rw is refl

pub begin_done : (F : Rules) (stage : Stage) (servers : List Serving) (task : Task) (mid : MuxWorker)
    → IsReady stage servers task → HasBegun task.start.mux task.posted task.after mid.mux
    → HasSeen task.start mid
    → (d : List Note) × IsDoneTo F stage servers task mid task.from d
begin_done F stage servers task mid ready begun seen_it =
    let m = mux_for task in let past = reverse task.start.mux.log in
    let n = first_note task mid in
    let turned = begun_turned task mid begun in
    let older = each_reverse (IsOlder m task.from task.after) task.start.mux.log ready.older in
    let mine : (m.0 == m.0) ≡ true = eq-eqb m.0 m.0 refl in (
      n ∷ [],
      record {
        from = omega arith;
        kept = kept_more F stage servers task task.start mid [] (n ∷ []) (kept_none F stage servers task)
            (begun_step F stage servers task mid ready begun seen_it);
        settled = record { lost = λ k hop c. refl; sent = λ k hop c. omega arith; arrived = λ k hop. refl };
        steered = λ k. ap (λ (b : Bool). cond b 1 0) (sym (assigned_none task.routes m.0 task.from k));
        looked = let one : ◌≡◌ {A = ℕ} (cond (m.0 == m.0) 1 0) 1 = rw mine refl in omega (arith, one);
        learned = begun.learned;
        few = omega arith;
        first = (tt, tt);
        logged = subst (λ (l : List Event). AllByRecursion (IsLogged m task.from) l) (sym turned)
            (record { own = refl; packet = tt }, older_logged m task.from task.after past older);
        switched = subst (λ (l : List Event). switched_since task.after m.0 l ≡ true) (sym turned)
            (or_left ((m.0 == m.0) && leb task.after n.event.clock.0) (switched_since task.after m.0 past)
            (and_from (m.0 == m.0) (leb task.after n.event.clock.0) mine
            (le-leb task.after n.event.clock.0 (omega arith))));
        begun =
            let clock : steering_clock (reverse mid.mux.log) ≡ n.event.clock.0 =
            ap (λ (l : List Event). steering_clock l) turned in
            omega (arith, clock);
      },
    )

-- THE END

-- a steered packet has its mux by the routes
routed : (stage : Stage) (task : Task) (what : What) → carries (mux_for task).0 what ≡ true → IsAssigned task what
    → IsRouted (RoutedBy task.routes) stage what
routed stage task (Steer k x) mine assigned = of_segment (segment_of stage k) where
  here : assigned_mux task.routes k ≡ Some x.0
  here =
      let is : is_mux (assigned_mux task.routes k) (mux_for task).0 ≡ true =
      (and_parts (ltb task.from k && leb k task.until) (is_mux (assigned_mux task.routes k) (mux_for task).0)
      assigned).1 in
      let same : x.0 ≡ (mux_for task).0 = Rattle.std.proofs.lemmas.Bool.eqb-true x.0 (mux_for task).0 mine in
      mux_is (mux_for task).0 (assigned_mux task.routes k) is ∙ ap (λ (j : ℕ). Some j) (sym same)

  of_segment : (o : Option Segment) → IfSome o (λ s. RoutedBy task.routes k s.flow x.0)
  of_segment None = tt
  of_segment (Some s) = here
routed stage task (Switch x v) mine assigned = tt
routed stage task (Publish v) mine assigned = tt
routed stage task (Lose k hop) mine assigned = tt
routed stage task (Arrive k hop server verdict) mine assigned = tt
routed stage task (Close server flow closed) mine assigned = tt
routed stage task (Retire server h at result) mine assigned = tt
routed stage task Sync mine assigned = tt

pub phase_ended : (F : Rules) (stage : Stage) (servers : List Serving) (task : Task) (now : MuxWorker)
    (d : List Note) (next : ℕ) → next ≡ task.until → IsDoneTo F stage servers task now next d
    → HasEnded F stage servers task now None
phase_ended F stage servers task now d next is done = (
  d,
  record {
    kept = done.kept;
    carrier = record {
      kinds = each_so (IsPhaseNote F stage servers task d) (λ n. carries (mux_for task).0 n.event.what ≡ true) d
          (λ n of. of.kind) done.kept.each;
      has_sending = each_so (IsPhaseNote F stage servers task d) (λ n. HasSending d n n.event.what) d (λ n of. of.has_sending)
          done.kept.each;
      answers = each_so (IsPhaseNote F stage servers task d) (IsAnswer (RoutedBy task.routes) F stage) d
          (λ n of. (routed stage task n.event.what of.kind of.assigned, of.drawn)) done.kept.each;
      lost = done.settled.lost;
      sent = done.settled.sent;
      arrived = done.settled.arrived;
    };
    looked = done.looked;
    learned = done.learned;
    steered = λ k. subst (λ (e : ℕ). many (λ n. steers_packet n.event.what k) d
        ≡ cond (is_assigned task.routes (mux_for task).0 task.from e k) 1 0) is (done.steered k);
    few = done.few;
  },
)
