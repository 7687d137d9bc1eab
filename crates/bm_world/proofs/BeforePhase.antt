-- The workers before a phase: each knows what is posted, and may begin.
use Rattle.std.proofs.Common.{◌≡◌, ℕ, zero, suc, ◌+◌, ◌<◌, ◌≤◌, Bool, true, false, cond, List, [], ◌∷◌}
use Rattle.std.proofs.Common.{◌++◌, All, length, map, take, get_or, Option, Some, None, refl, sym, ap, ◌∙◌, subst}
use Rattle.std.proofs.Common.{arith}
use Rattle.std.proofs.Common.{eqb}
use Rattle.std.specs.Prelude.{reverse, slice_get, IfSome, option_map}
use Rattle.std.specs.List.{AllByRecursion}
use Rattle.std.proofs.lemmas.Bool.{eqb-true}
use Rattle.std.proofs.lemmas.List.{length-map, reverse-append, reverse-reverse}
use Rattle.std.proofs.lemmas.Option.{same_Some, slice_get_within, slice_get-get_or}
use Rattle.logbook.specs.Pages.{Book}
use Rattle.bm_base.specs.declared.ids.MuxId.{MuxId}
use Rattle.bm_base.specs.declared.flow.Segment.{Segment}
use Rattle.bm_table.specs.declared.script.Command.{Command}
use Rattle.bm_core.specs.declared.events.Event.{Event}
use Rattle.bm_core.specs.declared.events.Stage.{Stage}
use Rattle.bm_core.specs.declared.events.What.{What}
use Rattle.bm_core.specs.declared.events.What.TheVariants.{Publish, Switch, Steer, Lose, Arrive, Close, Retire, Sync}
use Rattle.bm_core.specs.Accounts.{Routes, Rules, count_of, wants_sync}
use Rattle.bm_core.specs.Past.{segment_of, shard}
use Rattle.bm_core.specs.Runs.{is_by}
use Rattle.bm_core.specs.Runs.Actor.{MuxOf, ShardOf}
use Rattle.bm_core.specs.Stages.{IsSound}
use Rattle.bm_core.specs.Threads.{packet_of}
use Rattle.bm_merge.specs.Notes.{Note, events_of}
use Rattle.bm_merge.specs.Workers.{home_of, home_part, is_home, carries, notes_by}
use Rattle.bm_mux.specs.Muxes.{IsOwn}
use Rattle.bm_publish.specs.Posts.{Posted}
use Rattle.bm_server.specs.Servings.{Serving}
use Rattle.bm_worker.specs.WorkerNotes.{clock_of}
use Rattle.bm_worker.specs.Phases.{mux_log, CanWork, IsOlder}
use Rattle.bm_worker.specs.declared.span.Span.{Span}
use Rattle.bm_worker.specs.declared.worker.MuxWorker.{MuxWorker}
use Rattle.bm_lead.specs.declared.leader.Leader.{Leader}
use Rattle.bm_world.specs.Inside.RunStates.{with_posts, IsBetween}
use Rattle.bm_world.specs.Inside.Returned.{control_log}
use Rattle.bm_world.specs.Inside.Running.{IsAtWork, AreAtWork}

-- KNOWING WHAT IS POSTED CHANGES NOTHING ELSE

pub informed_at : (posted : Posted) (workers : List MuxWorker) (m : ℕ) (y : MuxWorker)
    → slice_get (map (with_posts posted) workers) m ≡ Some y
    → (w : MuxWorker) × (slice_get workers m ≡ Some w) × (with_posts posted w ≡ y)
informed_at posted [] m y here = absurd (cc)
informed_at posted (w ∷ workers) zero y here = (w, refl, same_Some _ _ here)
informed_at posted (w ∷ workers) (suc m) y here = informed_at posted workers m y here

at_work_informed : (R : Routes) (F : Rules) (stage : Stage) (servers : List Serving) (routes : List (Option MuxId))
    (control : List Event) (board : Book) (phases until m : ℕ) (posted : Posted) (w : MuxWorker) (notes : List Note)
    → IsAtWork R F stage servers routes control board phases until m w notes
    → IsAtWork R F stage servers routes control board phases until m (with_posts posted w) notes
at_work_informed R F stage servers routes control board phases until m posted w notes at = record {
  going = at.going;
  carriage = at.carriage;
  latest = at.latest;
  steered = at.steered;
  within = at.within;
  plan = at.plan;
  tries = at.tries;
  steps = at.steps;
  room = at.room;
  stop = at.stop;
}

pub all_informed : (R : Routes) (F : Rules) (stage : Stage) (servers : List Serving) (routes : List (Option MuxId))
    (board : Book) (p phases until : ℕ) (posted : Posted) (workers : List MuxWorker) (controller : List Note)
    (carriers : List (List Note))
    → AreAtWork R F stage servers routes board p phases until workers controller carriers
    → AreAtWork R F stage servers routes board p phases until (map (with_posts posted) workers) controller carriers
all_informed R F stage servers routes board p phases until posted workers controller carriers at = record {
  count = at.count ∙ sym (length-map workers (with_posts posted));
  each = λ m y here.
      let w = informed_at posted workers m y here
      in subst (λ (x : MuxWorker). IsAtWork R F stage servers routes (control_log stage controller) board phases until
      m x (notes_by carriers m)) w.2
      (at_work_informed R F stage servers routes (control_log stage controller) board phases until m posted w.0
      (notes_by carriers m)
      (at.each m w.0 w.1));
  all = at.all;
  same = at.same;
  phased = at.phased;
}

-- OLDER EVENTS

own_mux : (x m : MuxId) → eqb x.0 m.0 ≡ true → x ≡ m
own_mux x m is = let same = eqb-true _ _ is in λ i. record { 0 = same i }

-- what stands in the log of the mux is its own
own_what : (stage : Stage) (id : MuxId) (seat : ℕ) (what : What) → carries id.0 what ≡ true
    → is_by (home_of stage seat what) (MuxOf id.0) ≡ true → IsOwn id what
own_what stage id seat (Switch x v) is home = own_mux x id is
own_what stage id seat (Steer k x) is home = own_mux x id is
own_what stage id seat (Lose k hop) is home = tt
own_what stage id seat (Arrive k hop server verdict) is home = go (segment_of stage k) home where
  go : (o : Option Segment)
      → is_by (option_map (λ (s : Segment). ShardOf server.0 (shard stage s.flow)) o) (MuxOf id.0) ≡ true → ⊥
  go None home = absurd (cc)
  go (Some s) home = absurd (cc)
own_what stage id seat (Publish v) is home = absurd (cc)
own_what stage id seat (Close server flow closed) is home = absurd (cc)
own_what stage id seat (Retire server h moment result) is home = absurd (cc)
own_what stage id seat Sync is home = absurd (cc)

log_step : (stage : Stage) (id : MuxId) (start after : ℕ) (n : Note) (h : List Note) (b : Bool)
    → is_home stage (MuxOf id.0) n ≡ b → carries id.0 n.event.what ≡ true
    → IfSome (packet_of n.event.what) (λ k. k ≤ start) → clock_of n < after
    → AllByRecursion (IsOlder id start after) (events_of h)
    → AllByRecursion (IsOlder id start after) (events_of (cond b (n ∷ h) h))
log_step stage id start after n h true home kind within below old = (
  record { own = own_what stage id n.seat n.event.what kind home; packet = within; clock = below },
  old,
)
log_step stage id start after n h false home kind within below old = old

older_log : (stage : Stage) (id : MuxId) (start after : ℕ) (x : List Note)
    → AllByRecursion (λ n. carries id.0 n.event.what ≡ true) x
    → AllByRecursion (λ n. IfSome (packet_of n.event.what) (λ k. k ≤ start)) x
    → AllByRecursion (λ n. clock_of n < after) x
    → AllByRecursion (IsOlder id start after) (mux_log stage id.0 x)
older_log stage id start after [] kinds within below = tt
older_log stage id start after (n ∷ x) kinds within below =
    log_step stage id start after n (home_part stage (MuxOf id.0) x) (is_home stage (MuxOf id.0) n) refl kinds.0
    within.0 below.0 (older_log stage id start after x kinds.1 within.1 below.1)

-- EACH MAY BEGIN

count_most : (commands : List Command) → count_of wants_sync commands ≤ length commands
count_most [] = omega arith
count_most (c ∷ commands) = go (wants_sync c) (count_most commands) where
  go : (b : Bool) → count_of wants_sync commands ≤ length commands
      → cond b 1 0 + count_of wants_sync commands ≤ suc (length commands)
  go true old = omega arith
  go false old = omega arith

take_most : (n : ℕ) (commands : List Command) → length (take n commands) ≤ length commands
take_most zero commands = omega arith
take_most (suc n) [] = omega arith
take_most (suc n) (c ∷ commands) = let old = take_most n commands in omega arith

-- as many Syncs as there are commands, at most
pub few_syncs : (stage : Stage) (next p : ℕ) → IsSound stage
    → count_of wants_sync (take next stage.script.commands) ≡ p → p ≤ 65536
few_syncs stage next p sound is =
    let a = count_most (take next stage.script.commands)
    in let b = take_most next stage.script.commands
    in let few = sound.script.few_commands
    in omega arith

event_snoc : (P : Event → Type 0) (x : List Event) (e : Event) → AllByRecursion P x → P e
    → AllByRecursion P (x ++ e ∷ [])
event_snoc P [] e all one = (one, tt)
event_snoc P (y ∷ x) e all one = (all.0, event_snoc P x e all.1 one)

each_back : (P : Event → Type 0) (x : List Event) → AllByRecursion P x → AllByRecursion P (reverse x)
each_back P [] all = tt
each_back P (e ∷ x) all =
    subst (λ (l : List Event). AllByRecursion P l) (sym (reverse-append (e ∷ []) x))
    (event_snoc P (reverse x) e (each_back P x all.1) all.0)

-- the worker of mux m may begin
can_one : (F : Rules) (stage : Stage) (servers : List Serving) (routes : List (Option MuxId)) (posted : Posted)
    (leader : Leader) (workers : List MuxWorker) (span : Span) (m : ℕ) (w : MuxWorker) → IsSound stage
    → IsBetween F stage servers routes posted leader workers span.from → span.after.0 ≡ leader.caller.latest
    → span.from ≤ span.until → span.until ≤ length stage.capture.records → slice_get workers m ≡ Some w
    → CanWork stage servers routes span (with_posts posted w)
can_one F stage servers routes posted leader workers span m w sound between after order within here stop =
    let at = between.standing.at_work.each m w here
    in let low = slice_get_within workers m w here
    in let muxes = between.standing.muxes
    in let most = sound.script.setting.muxes.1
    in let id : w.mux.id.0 ≡ m = at.going.id
    in let notes = notes_by between.carriers m
    in let records = sound.capture.few
    in let phases = few_syncs stage leader.next between.p sound between.at_phase.syncs
    in let kinds : AllByRecursion (λ n. carries w.mux.id.0 n.event.what ≡ true) notes =
    subst (λ (k : ℕ). AllByRecursion (λ n. carries k n.event.what ≡ true) notes) (sym id) at.carriage.carrier.kinds
    in let below : AllByRecursion (λ n. clock_of n < span.after.0) notes =
    subst (λ (k : ℕ). AllByRecursion (λ n. clock_of n < k) notes) (sym after) (between.apart.below m)
    in let log : mux_log stage w.mux.id.0 notes ≡ reverse w.mux.log =
    ap (λ (k : ℕ). mux_log stage k notes) id ∙ sym at.going.logged
    in (
      posted,
      refl,
      record {
        until = (order, within);
        after = let early = between.early in omega arith;
        has_seats = at.going.has_seats;
        mux = omega arith;
        number = let number = at.going.number in omega arith;
        posted = sym at.going.board_is;
        plan = at.plan;
        older = subst (λ (l : List Event). AllByRecursion (IsOlder w.mux.id span.from span.after.0) l)
            (reverse-reverse w.mux.log)
            (each_back (IsOlder w.mux.id span.from span.after.0) (reverse w.mux.log)
            (subst (λ (l : List Event). AllByRecursion (IsOlder w.mux.id span.from span.after.0) l) log
            (older_log stage w.mux.id span.from span.after.0 notes kinds at.within below)));
        tries = let tries = at.tries in omega arith;
        steps = let steps = at.steps in omega arith;
        room = let room = at.room in omega arith;
      },
    )

pub can_work : (F : Rules) (stage : Stage) (servers : List Serving) (routes : List (Option MuxId)) (posted : Posted)
    (leader : Leader) (workers : List MuxWorker) (span : Span) → IsSound stage
    → IsBetween F stage servers routes posted leader workers span.from → span.after.0 ≡ leader.caller.latest
    → span.from ≤ span.until → span.until ≤ length stage.capture.records
    → All (CanWork stage servers routes span) (map (with_posts posted) workers)
can_work F stage servers routes posted leader workers span sound between after order within k d low =
    let informed = map (with_posts posted) workers
    in let w = informed_at posted workers k (get_or informed k d) (slice_get-get_or informed k d low)
    in subst (λ (x : MuxWorker). CanWork stage servers routes span x) w.2
    (can_one F stage servers routes posted leader workers span k w.0 sound between after order within w.1)
