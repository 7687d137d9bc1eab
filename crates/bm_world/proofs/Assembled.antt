-- What the workers gave back keeps the promises of a threaded run.
use Rattle.std.proofs.Common.{◌≡◌, ℕ, zero, suc, ◌+◌, ◌<◌, ◌≤◌, Bool, true, false, cond, List, [], ◌∷◌}
use Rattle.std.proofs.Common.{◌++◌, length}
use Rattle.std.proofs.Common.{Option, Some, None, refl, sym, ap, ◌∙◌, subst, arith, eqb, leb, inl, inr}
use Rattle.std.specs.Prelude.{option_map, max, slice_get}
use Rattle.std.specs.List.{AllByRecursion}
use Rattle.std.proofs.lemmas.Bool.{cases_lt, eq-eqb, leb-false}
use Rattle.std.proofs.lemmas.Option.{same_Some, slice_get_within}
use Rattle.bm_table.proofs.Gets.{slice_get-append_left, slice_get-push}
use Rattle.std.proofs.Common.{length-append}
use Rattle.std.proofs.lemmas.Bool.{ne_eqb}
use Rattle.bm_merge.specs.Merges.{IsNextVersion}
use Rattle.bm_base.specs.declared.flow.Segment.{Segment}
use Rattle.bm_core.specs.declared.events.Event.{Event}
use Rattle.bm_core.specs.declared.events.Stage.{Stage}
use Rattle.bm_core.specs.declared.events.What.{What}
use Rattle.bm_core.specs.declared.events.What.TheVariants.{Publish, Switch, Steer, Lose, Arrive, Close, Retire, Sync}
use Rattle.bm_core.specs.Past.{segment_of, shard, newest}
use Rattle.bm_core.specs.Accounts.{Routes, Rules}
use Rattle.bm_core.specs.Runs.{actor_of, is_by, next_clock, AtEach}
use Rattle.bm_core.specs.Runs.Actor.{Controller, MuxOf, ShardOf}
use Rattle.bm_core.specs.Threads.{is_publish_of, publish_clock, sync_clock, last_own}
use Rattle.bm_shard.specs.Books.{Book}
use Rattle.bm_merge.specs.Merges.{Log, named, IsEntry, Agree}
use Rattle.bm_merge.specs.Notes.{Note, NotedLog, events_of, plain, all_notes, until}
use Rattle.bm_merge.specs.Workers.{home_of, is_home, home_part, notes_by, notes_of_all, own_before, looks_since}
use Rattle.bm_merge.specs.Workers.{IsGiven, IsMet, IsInItsPhase, ArePromises}
use Rattle.bm_merge.proofs.Phasing.{met_shared}
use Rattle.bm_merge.proofs.Reaching.{one_if}
use Rattle.bm_world.specs.Inside.Shards.{notes_of}
use Rattle.bm_mux.specs.Muxes.{post_clock}
use Rattle.bm_world.specs.Inside.HandedBack.{AreHandedBack}
use Rattle.bm_world.specs.Inside.Returned.{posted_clocks, control_log, IsMuxGivenBy, IsControlStep}
use Rattle.bm_world.specs.Inside.Returned.{IsBookOfAll}
use Rattle.bm_world.proofs.Homes.{home_is, carried_not_control}
use Rattle.bm_world.proofs.Logs.{mux_logs, shard_logs, logs_of, book_notes, are_seated, own_logs}
use Rattle.bm_world.proofs.InLogs.{left_workers, left_homes, have_seats, left_shared, all_carried, steered_once}
use Rattle.bm_world.proofs.Entries.{at_notes, at_so, control_entries, mux_entries, posts_count}
use Rattle.bm_world.proofs.Booked.{book_entries, book_given, book_actors}

-- ALL LOGS

-- each mux's log, and each shard's
muxes_each : (P : NotedLog → Type 0) (stage : Stage) (carriers some : List (List Note)) (m : ℕ)
    → ((i : ℕ) → notes_by carriers (m + i) ≡ notes_by some i) → (m + length some ≡ length carriers)
    → ((p : ℕ) → p < length carriers
    → P (record { actor = MuxOf p; notes = home_part stage (MuxOf p) (notes_by carriers p) }))
    → AllByRecursion P (mux_logs stage m some)
muxes_each P stage carriers [] m is count each = tt
muxes_each P stage carriers (d ∷ some) m is count each =
    let here : notes_by carriers m ≡ d = ap (λ (k : ℕ). notes_by carriers k) (omega arith) ∙ is 0
    in (
      subst (λ (x : List Note). P (record { actor = MuxOf m; notes = home_part stage (MuxOf m) x })) here
          (each m (omega arith)),
      muxes_each P stage carriers some (suc m)
          (λ i. ap (λ (k : ℕ). notes_by carriers k) (omega arith) ∙ is (suc i)) (omega arith) each,
    )

shards_each : (P : NotedLog → Type 0) (stage : Stage) (controller : List Note) (carriers : List (List Note))
    (books : List Book) (all : AllByRecursion (IsBookOfAll stage controller carriers) books)
    → ((b : Book) (is : IsBookOfAll stage controller carriers b)
    → P (record {
      actor = ShardOf b.shard.server.0 b.shard.number;
      notes = notes_of (book_notes stage controller carriers b is).kept;
    }))
    → AllByRecursion P (shard_logs stage controller carriers books all)
shards_each P stage controller carriers [] all each = tt
shards_each P stage controller carriers (b ∷ books) all each =
    (each b all.0, shards_each P stage controller carriers books all.1 each)

all_append : (P : NotedLog → Type 0) (x y : List NotedLog) → AllByRecursion P x → AllByRecursion P y
    → AllByRecursion P (x ++ y)
all_append P [] y a b = b
all_append P (l ∷ x) y a b = (a.0, all_append P x y a.1 b)

all_plain : (P : Log → Type 0) (x : List NotedLog)
    → AllByRecursion (λ l. P (record { actor = l.actor; events = events_of l.notes })) x → AllByRecursion P (plain x)
all_plain P [] all = tt
all_plain P (l ∷ x) all = (all.0, all_plain P x all.1)

-- what holds of the controller's log, of each mux's and of each shard's holds of all
pub each_log : (P : NotedLog → Type 0) (stage : Stage) (controller : List Note) (carriers : List (List Note))
    (books : List Book) (all : AllByRecursion (IsBookOfAll stage controller carriers) books)
    → P (record { actor = Controller; notes = home_part stage Controller controller })
    → ((p : ℕ) → p < length carriers
    → P (record { actor = MuxOf p; notes = home_part stage (MuxOf p) (notes_by carriers p) }))
    → ((b : Book) (is : IsBookOfAll stage controller carriers b)
    → P (record {
      actor = ShardOf b.shard.server.0 b.shard.number;
      notes = notes_of (book_notes stage controller carriers b is).kept;
    }))
    → AllByRecursion P (logs_of stage controller carriers books all)
each_log P stage controller carriers books all control muxes shards = (
  control,
  all_append P (mux_logs stage 0 carriers) (shard_logs stage controller carriers books all)
      (muxes_each P stage carriers carriers 0 (λ i. ap (λ (k : ℕ). notes_by carriers k) (omega arith)) (omega arith)
      muxes)
      (shards_each P stage controller carriers books all shards),
)

-- AGREEMENT

pub agreed : (R : Routes) (F : Rules) (stage : Stage) (controller : List Note) (carriers : List (List Note))
    (books : List Book) (back : AreHandedBack R F stage controller carriers books)
    → Agree stage (plain (logs_of stage controller carriers books back.left.kept))
agreed R F stage controller carriers books back =
    let logs = plain (logs_of stage controller carriers books back.left.kept)
    in record {
      sound = back.left.sound;
      first = refl;
      actors = own_logs stage controller carriers books back.left.kept back.left.own;
      once = steered_once R F stage controller carriers books back;
      entries = all_plain (λ l. AtEach (IsEntry stage logs l.actor) l.events)
          (logs_of stage controller carriers books back.left.kept)
          (each_log (λ l. AtEach (IsEntry stage logs l.actor) (events_of l.notes)) stage controller carriers books
          back.left.kept (control_entries stage logs controller back.control)
          (mux_entries R F stage controller carriers books back)
          (book_entries R F stage controller carriers books back));
    }

-- WHAT MUXES GIVE

-- the clock of a version's Publish up to this clock
publish_until : (past : List Event) (v post clock : ℕ) → publish_clock past v ≡ post → post ≤ clock
    → publish_clock (until clock past) v ≡ post
publish_until [] v post clock is low = is
publish_until (e ∷ past) v post clock is low =
    go (leb e.clock.0 clock) refl (λ same. publish_until past v post clock same low) where
      go : (b : Bool) → leb e.clock.0 clock ≡ b
          → (publish_clock past v ≡ post → publish_clock (until clock past) v ≡ post)
          → publish_clock (cond b (e ∷ past) (until clock past)) v ≡ post
      go true at old = is
      go false at old = older (is_publish_of e.what v) refl is where
        older : (c : Bool) → is_publish_of e.what v ≡ c → cond c e.clock.0 (publish_clock past v) ≡ post
            → publish_clock (until clock past) v ≡ post
        older true here same = let over : clock < e.clock.0 = leb-false _ _ at in absurd (omega arith)
        older false here same = old same

-- the post of a version has the clock of its Publish
publish_one : (rest : List Event) (stage : Stage) (e : Event) (what : What) (v post : ℕ) → e.what ≡ what
    → IsNextVersion stage rest what → length (posted_clocks rest) ≡ newest rest
    → (post_clock (posted_clocks rest) v ≡ Some post → publish_clock rest v ≡ post)
    → post_clock (posted_clocks (e ∷ rest)) v ≡ Some post → publish_clock (e ∷ rest) v ≡ post
publish_one rest stage e (Publish w) zero post is next count old found =
    let version = next.0
    in let not : eqb w.0 0 ≡ false = ne_eqb _ _ (λ h. absurd (omega arith))
    in rw (is, not) (old found)
publish_one rest stage e (Publish w) (suc v) post is next count old found =
    let version = next.0
    in let here : slice_get (posted_clocks rest ++ e.clock.0 ∷ []) v ≡ Some post = rw is at found
    in elim (cases_lt v (length (posted_clocks rest))) [
      | inl low ↦
          let not : eqb w.0 (suc v) ≡ false = ne_eqb _ _ (λ h. absurd (omega arith))
          in rw (is, not) (old (sym (slice_get-append_left (posted_clocks rest) (e.clock.0 ∷ []) v low) ∙ here))
      | inr high ↦
          let more : length (posted_clocks rest ++ e.clock.0 ∷ []) ≡ length (posted_clocks rest) + 1 =
          length-append (posted_clocks rest) (e.clock.0 ∷ [])
          in let within = slice_get_within (posted_clocks rest ++ e.clock.0 ∷ []) v post here
          in let last : v ≡ length (posted_clocks rest) = omega arith
          in let item : Some e.clock.0 ≡ Some post =
          sym (slice_get-push (posted_clocks rest) e.clock.0)
          ∙ (ap (λ (i : ℕ). slice_get (posted_clocks rest ++ e.clock.0 ∷ []) i) (sym last) ∙ here)
          in let yes : eqb w.0 (suc v) ≡ true = eq-eqb _ _ (omega arith)
          in rw (is, yes) (same_Some _ _ item)
    ]
publish_one rest stage e (Switch m w) v post is next count old found = rw is (old (rw is at found))
publish_one rest stage e (Steer k m) v post is next count old found = rw is (old (rw is at found))
publish_one rest stage e (Lose k hop) v post is next count old found = rw is (old (rw is at found))
publish_one rest stage e (Arrive k hop server verdict) v post is next count old found = rw is (old (rw is at found))
publish_one rest stage e (Close server flow closed) v post is next count old found = rw is (old (rw is at found))
publish_one rest stage e (Retire server h moment result) v post is next count old found = rw is (old (rw is at found))
publish_one rest stage e Sync v post is next count old found = rw is (old (rw is at found))

pub publish_posted : (stage : Stage) (past : List Event) (v post : ℕ) → AtEach (IsControlStep stage) past
    → post_clock (posted_clocks past) v ≡ Some post → publish_clock past v ≡ post
publish_posted stage [] zero post steps found = same_Some _ _ found
publish_posted stage [] (suc v) post steps found = absurd (cc)
publish_posted stage (e ∷ past) v post steps found =
    publish_one past stage e e.what v post refl steps.0.version (posts_count stage past steps.1)
    (publish_posted stage past v post steps.1) found

mux_given_one : (stage : Stage) (logs : List Log) (control : List Event) (rest : List Note) (n : Note) (what : What)
    → n.event.what ≡ what → named logs Controller ≡ control → AtEach (IsControlStep stage) control
    → (m : ℕ) → is_by (home_of stage n.seat what) (MuxOf m) ≡ true
    → IsMuxGivenBy stage control (posted_clocks control) (events_of rest) n.event
    → IsGiven stage logs rest (last_own stage (events_of rest) (actor_of stage what)) n what
mux_given_one stage logs control rest n (Switch x v) is at steps m home gives =
    let given = rw is at gives
    in let post = given.1.0
    in let found : post_clock (posted_clocks control) v.0 ≡ Some post = given.1.1
    in let clock = given.1.2
    in let here : publish_clock (until n.event.clock.0 control) v.0 ≡ post =
    publish_until control v.0 post n.event.clock.0 (publish_posted stage control v.0 post steps found) (omega arith)
    in rw at (
      given.0,
      clock ∙ ap (λ (p : ℕ). next_clock (last_own stage (events_of rest) (Some (MuxOf x.0)))
          (max p (sync_clock (until n.event.clock.0 control)))) (sym here),
    )
mux_given_one stage logs control rest n (Steer k x) is at steps m home gives = rw at (rw is at gives)
mux_given_one stage logs control rest n (Lose k hop) is at steps m home gives = tt
mux_given_one stage logs control rest n (Publish v) is at steps m home gives = tt
mux_given_one stage logs control rest n Sync is at steps m home gives = tt
mux_given_one stage logs control rest n (Arrive k hop server verdict) is at steps m home gives =
    absurd (no (segment_of stage k) home) where
      no : (o : Option Segment)
          → is_by (option_map (λ (s : Segment). ShardOf server.0 (shard stage s.flow)) o) (MuxOf m) ≡ true → ⊥
      no None h = absurd (cc)
      no (Some s) h = absurd (cc)
mux_given_one stage logs control rest n (Close server flow closed) is at steps m home gives = absurd (cc)
mux_given_one stage logs control rest n (Retire server h moment result) is at steps m home gives = absurd (cc)

mux_given : (R : Routes) (F : Rules) (stage : Stage) (controller : List Note) (carriers : List (List Note))
    (books : List Book) (back : AreHandedBack R F stage controller carriers books) (m : ℕ) → m < length carriers
    → AtEach (λ rest n. IsGiven stage (plain (logs_of stage controller carriers books back.left.kept)) rest
    (own_before stage rest n) n n.event.what) (home_part stage (MuxOf m) (notes_by carriers m))
mux_given R F stage controller carriers books back m low =
    let logs = plain (logs_of stage controller carriers books back.left.kept)
    in let home = home_part stage (MuxOf m) (notes_by carriers m)
    in let control = control_log stage controller
    in at_so (λ n. is_home stage (MuxOf m) n ≡ true)
    (λ rest n. IsMuxGivenBy stage control (posted_clocks control) (events_of rest) n.event)
    (λ rest n. IsGiven stage logs rest (own_before stage rest n) n n.event.what) home
    (λ rest n h gives. mux_given_one stage logs control rest n n.event.what refl refl back.control.steps m h gives)
    (home_is stage (MuxOf m) (notes_by carriers m))
    (at_notes (IsMuxGivenBy stage control (posted_clocks control)) home (back.carried m low).gives)

-- THE CONTROLLER'S LOG

control_free : (stage : Stage) (logs : List Log) (rest : List Note) (own : ℕ) (n : Note) (what : What)
    → is_by (home_of stage n.seat what) Controller ≡ true → IsGiven stage logs rest own n what
control_free stage logs rest own n (Publish v) home = tt
control_free stage logs rest own n Sync home = tt
control_free stage logs rest own n (Lose k hop) home = tt
control_free stage logs rest own n (Switch m v) home = absurd (cc)
control_free stage logs rest own n (Steer k m) home = absurd (cc)
control_free stage logs rest own n (Arrive k hop server verdict) home =
    let not = carried_not_control stage 0 n.seat (Arrive k hop server verdict) refl
    in absurd (let bad : true ≡ false = sym home ∙ not in cc)
control_free stage logs rest own n (Close server flow closed) home = absurd (cc)
control_free stage logs rest own n (Retire server h moment result) home = absurd (cc)

pub at_any : (P : Note → Type 0) (Q : List Note → Note → Type 0) (x : List Note)
    → ((rest : List Note) (n : Note) → P n → Q rest n) → AllByRecursion P x → AtEach Q x
at_any P Q [] f ps = tt
at_any P Q (n ∷ x) f ps = (f x n ps.0, at_any P Q x f ps.1)

pub at_change : (P Q : List Note → Note → Type 0) (x : List Note)
    → ((rest : List Note) (n : Note) → P rest n → Q rest n)
    → AtEach P x → AtEach Q x
at_change P Q [] f ps = tt
at_change P Q (n ∷ x) f ps = (f x n ps.0, at_change P Q x f ps.1)

-- no Sync in a mux's log or a shard's
unmet_mux : (stage : Stage) (all : List Note) (rest : List Event) (n : Note) (what : What) (seat m : ℕ)
    → is_by (home_of stage seat what) (MuxOf m) ≡ true → IsMet stage all rest n what
unmet_mux stage all rest n (Publish v) seat m home = tt
unmet_mux stage all rest n (Switch x v) seat m home = tt
unmet_mux stage all rest n (Steer k x) seat m home = tt
unmet_mux stage all rest n (Lose k hop) seat m home = tt
unmet_mux stage all rest n (Arrive k hop server verdict) seat m home = tt
unmet_mux stage all rest n (Close server flow closed) seat m home = tt
unmet_mux stage all rest n (Retire server h moment result) seat m home = tt
unmet_mux stage all rest n Sync seat m home = absurd (cc)

unmet_shard : (stage : Stage) (all : List Note) (rest : List Event) (n : Note) (what : What) (s h : ℕ)
    → is_by (actor_of stage what) (ShardOf s h) ≡ true → IsMet stage all rest n what
unmet_shard stage all rest n (Publish v) s h home = tt
unmet_shard stage all rest n (Switch x v) s h home = tt
unmet_shard stage all rest n (Steer k x) s h home = tt
unmet_shard stage all rest n (Lose k hop) s h home = tt
unmet_shard stage all rest n (Arrive k hop server verdict) s h home = tt
unmet_shard stage all rest n (Close server flow closed) s h home = tt
unmet_shard stage all rest n (Retire server x moment result) s h home = tt
unmet_shard stage all rest n Sync s h home = absurd (cc)

-- TOGETHER

pub handed_back : (R : Routes) (F : Rules) (stage : Stage) (controller : List Note) (carriers : List (List Note))
    (books : List Book) (back : AreHandedBack R F stage controller carriers books)
    → ArePromises R F stage (logs_of stage controller carriers books back.left.kept) controller carriers
handed_back R F stage controller carriers books back =
    let logs = logs_of stage controller carriers books back.left.kept
    in let are = left_workers F stage controller carriers books back.left
    in let shared = left_shared F stage controller carriers books back.left
    in let met : List Note → Note → Type 0 = λ rest n. IsMet stage (all_notes logs) (events_of rest) n n.event.what
    in record {
      agree = agreed R F stage controller carriers books back;
      muxes = back.muxes;
      seated = are_seated stage controller carriers books back.left.kept are;
      seats = have_seats stage controller carriers books back.left.kept are;
      homes = left_homes F stage controller carriers books back.left;
      given = each_log (λ l. AtEach (λ rest n. IsGiven stage (plain logs) rest (own_before stage rest n) n n.event.what)
          l.notes) stage controller carriers books back.left.kept
          (at_any (λ n. is_home stage Controller n ≡ true)
          (λ rest n. IsGiven stage (plain logs) rest (own_before stage rest n) n n.event.what)
          (home_part stage Controller controller)
          (λ rest n h. control_free stage (plain logs) rest (own_before stage rest n) n n.event.what h)
          (home_is stage Controller controller))
          (mux_given R F stage controller carriers books back)
          (book_given R F stage controller carriers books back);
      controls = back.controls;
      carried = λ m low. (back.carried m low).carrier;
      steered = back.steered;
      phases = all_carried (IsInItsPhase stage (plain logs)) carriers (λ m low. (back.carried m low).phases);
      met = each_log (λ l. AtEach met l.notes) stage controller carriers books back.left.kept
          (at_change (λ rest n. IsMet stage (controller ++ notes_of_all carriers) (events_of rest) n n.event.what) met
          (home_part stage Controller controller)
          (λ rest n h. met_shared stage (controller ++ notes_of_all carriers) (all_notes logs) (events_of rest) n
          n.event.what (λ f. sym (shared f)) h) back.met)
          (λ p low. at_any (λ n. is_home stage (MuxOf p) n ≡ true) met (home_part stage (MuxOf p) (notes_by carriers p))
          (λ rest n h. unmet_mux stage (all_notes logs) (events_of rest) n n.event.what n.seat p h)
          (home_is stage (MuxOf p) (notes_by carriers p)))
          (λ b is. at_any (λ n. is_by (actor_of stage n.event.what) (ShardOf b.shard.server.0 b.shard.number) ≡ true)
          met
          (notes_of (book_notes stage controller carriers b is).kept)
          (λ rest n h. unmet_shard stage (all_notes logs) (events_of rest) n n.event.what b.shard.server.0
          b.shard.number h) (book_actors stage controller carriers b is));
      changes = back.changes;
      looked = λ m low.
          let one = back.looked m low
          in let same = shared (λ n. one_if (looks_since m (sync_clock (control_log stage controller)) n))
          in omega arith;
    }
