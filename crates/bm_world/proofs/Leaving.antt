-- What the workers left where one has given up is underway.
use Rattle.std.proofs.Common.{◌≡◌, ℕ, zero, suc, ◌+◌, ◌<◌, ◌≤◌, Bool, true, false, cond, ◌&&◌, ◌||◌}
use Rattle.std.proofs.Common.{List, [], ◌∷◌, ◌++◌, length}
use Rattle.std.proofs.Common.{Option, Some, None, refl, sym, ap, ◌∙◌, subst, arith, eqb, inl, inr}
use Rattle.std.specs.Prelude.{option_map, slice_get}
use Rattle.std.specs.List.{AllByRecursion}
use Rattle.std.proofs.lemmas.Bool.{eq-eqb, eqb-true, and_parts, or_left, or_right}
use Rattle.std.proofs.lemmas.Option.{same_Some}
use Rattle.bm_rows.proofs.Places.{last_cases}
use Rattle.bm_base.specs.declared.flow.Segment.{Segment}
use Rattle.bm_base.specs.declared.label.Hop.{Hop}
use Rattle.bm_base.specs.declared.ids.Moment.{Moment}
use Rattle.bm_core.specs.declared.events.Event.{Event}
use Rattle.bm_core.specs.declared.events.Stage.{Stage}
use Rattle.bm_core.specs.declared.events.What.{What}
use Rattle.bm_core.specs.declared.events.What.TheVariants.{Publish, Switch, Steer, Lose, Sync}
use Rattle.bm_core.specs.declared.events.What.TheVariants.{Arrive as Arrives, Close as Closes, Retire as Retires}
use Rattle.bm_core.specs.Accounts.{Rules, is_sync}
use Rattle.bm_core.specs.Past.{segment_of, shard, sends}
use Rattle.bm_core.specs.declared.events.Local.{Local}
use Rattle.bm_base.specs.declared.flow.Flow.{Flow}
use Rattle.bm_core.specs.Runs.{Actor, actor_of, is_by, next_clock, AtEach}
use Rattle.bm_core.specs.Runs.Actor.{Controller, MuxOf, ShardOf}
use Rattle.bm_core.specs.Threads.{last_own}
use Rattle.bm_shard.specs.Books.{Book, Replays, knows_after, clock_after}
use Rattle.bm_shard.specs.Replies.{what_of}
use Rattle.bm_shard.specs.declared.book.Shard.{Shard}
use Rattle.bm_shard.specs.declared.calls.ShardCall.{ShardCall}
use Rattle.bm_shard.specs.declared.calls.ShardCall.TheVariants.{Arrive, Close, Retire}
use Rattle.bm_shard.specs.declared.calls.ShardEntry.{ShardEntry}
use Rattle.bm_merge.specs.Merges.{some_event}
use Rattle.bm_merge.specs.Notes.{Note, events_of, all_notes, total, many}
use Rattle.bm_merge.specs.Workers.{home_of, is_home, home_part, notes_by, notes_of_all, carries, own_before}
use Rattle.bm_merge.specs.Workers.{AreUnderway, IsBefore, IsCarried, IsClocked}
use Rattle.bm_merge.specs.Workers.{HasSending, is_copyless}
use Rattle.bm_merge.proofs.Noting.{total_append, total_most, each_always}
use Rattle.bm_merge.proofs.Reaching.{one_if}
use Rattle.bm_lead.specs.Commands.{is_publish}
use Rattle.bm_mux.specs.Muxes.{post_clock}
use Rattle.bm_worker.specs.Phases.{IsLossOf}
use Rattle.bm_world.specs.Inside.Shards.{Kept, entries_of, note_of, notes_of}
use Rattle.bm_world.specs.Inside.Returned.{control_log, posted_clocks, IsBookOfAll, IsCopied}
use Rattle.bm_world.specs.Inside.Left.{IsSyncIn, IsMuxClocked, IsSynced, AreLeft}
use Rattle.bm_world.proofs.Homes.{home_is, home_each, carried_not_control}
use Rattle.bm_world.proofs.Logs.{logs_of, book_notes, are_seated, own_logs}
use Rattle.bm_world.proofs.InLogs.{left_homes, left_shared, left_workers, total_of_worker}
use Rattle.bm_world.proofs.Entries.{at_notes, at_so, both}
use Rattle.bm_world.proofs.Booked.{its_actor, book_actors, retire_due}
use Rattle.bm_world.proofs.Assembled.{each_log, at_any}
use Rattle.bm_world.proofs.Sharded.{IsAskedHere, AreAskedHere, shard_clock}

-- THE WORKERS

two : (P Q S : Note → Type 0) (x : List Note) → ((n : Note) → P n → Q n → S n) → AllByRecursion P x
    → AllByRecursion Q x → AllByRecursion S x
two P Q S [] f ps qs = tt
two P Q S (n ∷ x) f ps qs = (f n ps.0 qs.0, two P Q S x f ps.1 qs.1)

-- CLOCKS THAT STAND BEFORE

abbrev at_clock : ℕ → Note → Bool
at_clock c n = eqb n.event.clock.0 c

some_at : (c : ℕ) (x : List Note) → some_event (λ e. eqb e.clock.0 c) (events_of x) ≡ true → 1 ≤ many (at_clock c) x
some_at c [] is = absurd (cc)
some_at c (n ∷ x) is = go (eqb n.event.clock.0 c) is (some_at c x) where
  go : (b : Bool) → (b || some_event (λ e. eqb e.clock.0 c) (events_of x)) ≡ true
      → (some_event (λ e. eqb e.clock.0 c) (events_of x) ≡ true → 1 ≤ many (at_clock c) x)
      → 1 ≤ one_if b + many (at_clock c) x
  go true h old = omega arith
  go false h old = let one = old h in omega arith

pub home_fewer : (f : Note → ℕ) (stage : Stage) (a : Actor) (x : List Note) → total f (home_part stage a x) ≤ total f x
home_fewer f stage a [] = omega arith
home_fewer f stage a (n ∷ x) = go (is_home stage a n) (home_fewer f stage a x) where
  go : (b : Bool) → total f (home_part stage a x) ≤ total f x
      → total f (cond b (n ∷ home_part stage a x) (home_part stage a x)) ≤ f n + total f x
  go true old = omega arith
  go false old = omega arith

-- what stands in the controller's log was done
control_at : (stage : Stage) (controller : List Note) (carriers : List (List Note)) (c : ℕ)
    → some_event (λ e. eqb e.clock.0 c) (control_log stage controller) ≡ true
    → 1 ≤ many (at_clock c) (controller ++ notes_of_all carriers)
control_at stage controller carriers c is =
    let f : Note → ℕ = λ n. one_if (at_clock c n)
    in let one = some_at c (home_part stage Controller controller) is
    in let less = home_fewer f stage Controller controller
    in let sum = total_append f controller (notes_of_all carriers)
    in omega arith

some_weaker : (f g : Event → Bool) (x : List Event) → ((e : Event) → f e ≡ true → g e ≡ true)
    → some_event f x ≡ true → some_event g x ≡ true
some_weaker f g [] so is = absurd (cc)
some_weaker f g (e ∷ x) so is = go (f e) refl is (some_weaker f g x so) where
  go : (b : Bool) → f e ≡ b → (b || some_event f x) ≡ true → (some_event f x ≡ true → some_event g x ≡ true)
      → (g e || some_event g x) ≡ true
  go true at h old = let here = so e at in rw here refl
  go false at h old = or_right _ _ (old h)

posted_some : (past : List Event) (v post : ℕ) → slice_get (posted_clocks past) v ≡ Some post
    → some_event (λ e. eqb e.clock.0 post) past ≡ true
posted_some [] v post found = absurd (cc)
posted_some (e ∷ past) v post found = go (is_publish e.what) found (λ h. posted_some past v post h) where
  go : (b : Bool) → slice_get (cond b (posted_clocks past ++ e.clock.0 ∷ []) (posted_clocks past)) v ≡ Some post
      → (slice_get (posted_clocks past) v ≡ Some post → some_event (λ z. eqb z.clock.0 post) past ≡ true)
      → (eqb e.clock.0 post || some_event (λ z. eqb z.clock.0 post) past) ≡ true
  go false h old = or_right _ _ (old h)
  go true h old = elim (last_cases (posted_clocks past) e.clock.0 post v h) [
    | inl before ↦ or_right _ _ (old before)
    | inr new ↦ or_left _ _ (eq-eqb _ _ new.1)
  ]

post_before : (stage : Stage) (controller : List Note) (carriers : List (List Note)) (clock v post : ℕ)
    → post_clock (posted_clocks (control_log stage controller)) v ≡ Some post → post < clock
    → IsBefore (controller ++ notes_of_all carriers) clock post
post_before stage controller carriers clock zero post found low = inl (sym (same_Some _ _ found))
post_before stage controller carriers clock (suc v) post found low =
    inr (low, control_at stage controller carriers post (posted_some (control_log stage controller) v post found))

sync_before : (stage : Stage) (controller : List Note) (carriers : List (List Note)) (clock sync : ℕ)
    → IsSyncIn (control_log stage controller) sync → sync < clock
    → IsBefore (controller ++ notes_of_all carriers) clock sync
sync_before stage controller carriers clock sync (inl none) low = inl none
sync_before stage controller carriers clock sync (inr some) low =
    inr (
      low,
      control_at stage controller carriers sync
          (some_weaker (λ e. is_sync e.what && eqb e.clock.0 sync) (λ e. eqb e.clock.0 sync)
          (control_log stage controller) (λ e h. (and_parts (is_sync e.what) (eqb e.clock.0 sync) h).1) some),
    )

before_shared : (x y : List Note) (clock c : ℕ) → ((f : Note → ℕ) → total f x ≡ total f y) → IsBefore y clock c
    → IsBefore x clock c
before_shared x y clock c same (inl none) = inl none
before_shared x y clock c same (inr some) =
    inr (some.0, (let s = same (λ n. one_if (at_clock c n)) in let h = some.1 in omega arith))

-- THE CONTROLLER'S LOG

control_clocked : (stage : Stage) (all notes : List Note) (own : ℕ) (n : Note) (what : What)
    → ((f : Note → ℕ) → total f all ≡ total f notes) → is_by (home_of stage n.seat what) Controller ≡ true
    → IsSynced stage notes n what → IsClocked stage all own n what
control_clocked stage all notes own n Sync same home synced =
    (synced.0, before_shared all notes n.event.clock.0 synced.0 same synced.1, synced.2)
control_clocked stage all notes own n (Publish v) same home synced = tt
control_clocked stage all notes own n (Switch m v) same home synced = absurd (cc)
control_clocked stage all notes own n (Steer k m) same home synced = absurd (cc)
control_clocked stage all notes own n (Lose k hop) same home synced = absurd (cc)
control_clocked stage all notes own n (Arrives k hop server verdict) same home synced =
    let not = carried_not_control stage 0 n.seat (Arrives k hop server verdict) refl
    in absurd (let bad : true ≡ false = sym home ∙ not in cc)
control_clocked stage all notes own n (Closes server flow closed) same home synced = absurd (cc)
control_clocked stage all notes own n (Retires server h moment result) same home synced = absurd (cc)

-- THE MUXES' LOGS

copyless_some : (k : ℕ) (hop : Hop) (clock : ℕ) (x : List Note) → 1 ≤ many (is_copyless k hop clock) x
    → 1 ≤ many (at_clock clock) x
copyless_some k hop clock x one =
    let most = total_most (λ n. one_if (is_copyless k hop clock n)) (λ n. one_if (at_clock clock n)) x
    (each_always (λ n. one_if (is_copyless k hop clock n) ≤ one_if (at_clock clock n))
    (λ n. go (sends n.event.what k hop) (eqb n.fate.copies 0) (eqb n.event.clock.0 clock)) x)
    in omega arith where
      go : (a b c : Bool) → one_if (a && (b && c)) ≤ one_if c
      go true true c = omega arith
      go true false true = omega arith
      go true false false = omega arith
      go false b true = omega arith
      go false b false = omega arith

mux_clocked : (stage : Stage) (all controller : List Note) (carriers : List (List Note)) (m : ℕ) (rest : List Event)
    (n : Note) (what : What) → n.event.what ≡ what
    → ((f : Note → ℕ) → total f all ≡ total f (controller ++ notes_of_all carriers))
    → is_by (home_of stage n.seat what) (MuxOf m) ≡ true
    → IsMuxClocked stage (control_log stage controller) (posted_clocks (control_log stage controller)) rest
    n.event.clock.0 what
    → IsLossOf (notes_by carriers m) n.event.clock.0 what
    → IsClocked stage all (last_own stage rest (actor_of stage what)) n what
mux_clocked stage all controller carriers m rest n (Switch x v) is same home clocked loss =
    let post = clocked.0
    in let sync = clocked.1
    in let clock = clocked.4
    in (
      post,
      sync,
      before_shared all (controller ++ notes_of_all carriers) n.event.clock.0 post same
          (post_before stage controller carriers n.event.clock.0 v.0 post clocked.2 (omega arith)),
      before_shared all (controller ++ notes_of_all carriers) n.event.clock.0 sync same
          (sync_before stage controller carriers n.event.clock.0 sync clocked.3 (omega arith)),
      clock,
    )
mux_clocked stage all controller carriers m rest n (Steer k x) is same home clocked loss = clocked
mux_clocked stage all controller carriers m rest n (Lose k hop) is same home clocked loss =
    let sending = loss.0
    in let clock = loss.1
    in let here = copyless_some k hop sending (notes_by carriers m) loss.2
    in let part = total_of_worker (λ y. one_if (at_clock sending y)) carriers m
    in let sum = total_append (λ y. one_if (at_clock sending y)) controller (notes_of_all carriers)
    in let whole = same (λ y. one_if (at_clock sending y))
    in (sending, inr (omega arith, omega arith), omega arith)
mux_clocked stage all controller carriers m rest n (Publish v) is same home clocked loss = tt
mux_clocked stage all controller carriers m rest n Sync is same home clocked loss = absurd (cc)
mux_clocked stage all controller carriers m rest n (Arrives k hop server verdict) is same home clocked loss =
    absurd (no (segment_of stage k) home) where
      no : (o : Option Segment)
          → is_by (option_map (λ (s : Segment). ShardOf server.0 (shard stage s.flow)) o) (MuxOf m) ≡ true → ⊥
      no None h = absurd (cc)
      no (Some s) h = absurd (cc)
mux_clocked stage all controller carriers m rest n (Closes server flow closed) is same home clocked loss = absurd (cc)
mux_clocked stage all controller carriers m rest n (Retires server h moment result) is same home clocked loss =
    absurd (cc)

-- THE SHARDS' LOGS

here_one : (stage : Stage) (carriers : List (List Note)) (about : Shard) (k : Kept) (knows : Flow → Local)
    (clock : Moment)
    (call : ShardCall) → k.entry.event.what ≡ what_of about knows clock call → IsCopied stage carriers about call
    → is_by (actor_of stage k.entry.event.what) (ShardOf about.server.0 about.number) ≡ true
    → IsAskedHere stage about call
here_one stage carriers about k knows clock (Arrive packet tag segment due) what copied mine = (copied.0, copied.1)
here_one stage carriers about k knows clock (Close flow moment) what copied mine =
    eqb-true _ _
    (and_parts (eqb about.server.0 about.server.0) (eqb (shard stage flow) about.number) (rw what at mine)).1
here_one stage carriers about k knows clock (Retire moment result) what copied mine = tt

here_all : (stage : Stage) (carriers : List (List Note)) (about : Shard) (kept : List Kept)
    → Replays about (entries_of kept) → AllByRecursion (λ e. IsCopied stage carriers about e.call) (entries_of kept)
    → AllByRecursion (λ n. is_by (actor_of stage n.event.what) (ShardOf about.server.0 about.number) ≡ true)
    (notes_of kept)
    → AreAskedHere stage about kept
here_all stage carriers about [] replays copied mine = tt
here_all stage carriers about (k ∷ kept) replays copied mine = (
  here_one stage carriers about k (knows_after about (entries_of kept)) (clock_after (entries_of kept) k.entry.call)
      k.entry.call (ap (λ (e : Event). e.what) replays.0) copied.0 mine.0,
  here_all stage carriers about kept replays.1 copied.1 mine.1,
)

shard_one : (stage : Stage) (all : List Note) (about : Shard) (k : Kept) (kept : List Kept) (what : What)
    → k.entry.event.what ≡ what → is_by (actor_of stage what) (ShardOf about.server.0 about.number) ≡ true
    → Replays about (entries_of (k ∷ kept)) → AreAskedHere stage about kept
    → IsClocked stage all (last_own stage (events_of (notes_of kept)) (actor_of stage what)) (note_of k) what
shard_one stage all about k kept (Arrives p hop server verdict) is mine replays here =
    let actor = its_actor (actor_of stage (Arrives p hop server verdict)) (ShardOf about.server.0 about.number) mine
    in shard_clock stage about k kept replays here
    ∙ ap (λ (o : Option Actor). next_clock (last_own stage (events_of (notes_of kept)) o) (note_of k).due) (sym actor)
shard_one stage all about k kept (Closes server flow closed) is mine replays here =
    let actor = its_actor (actor_of stage (Closes server flow closed)) (ShardOf about.server.0 about.number) mine
    in shard_clock stage about k kept replays here
    ∙ ap (λ (o : Option Actor). next_clock (last_own stage (events_of (notes_of kept)) o) (note_of k).due) (sym actor)
shard_one stage all about k kept (Retires server h moment result) is mine replays here =
    let actor = its_actor (actor_of stage (Retires server h moment result)) (ShardOf about.server.0 about.number) mine
    in let due : (note_of k).due ≡ moment.0 =
    retire_due about (knows_after about (entries_of kept)) (clock_after (entries_of kept) k.entry.call) k.entry.call
    server h moment result (sym (ap (λ (e : Event). e.what) replays.0) ∙ is)
    in shard_clock stage about k kept replays here
    ∙ ap (λ (o : Option Actor). next_clock (last_own stage (events_of (notes_of kept)) o) (note_of k).due) (sym actor)
    ∙ ap (λ (d : ℕ). next_clock
    (last_own stage (events_of (notes_of kept)) (actor_of stage (Retires server h moment result))) d) due
shard_one stage all about k kept (Publish v) is mine replays here = tt
shard_one stage all about k kept (Lose p hop) is mine replays here = absurd (cc)
shard_one stage all about k kept Sync is mine replays here = absurd (cc)
shard_one stage all about k kept (Switch m v) is mine replays here = absurd (cc)
shard_one stage all about k kept (Steer p m) is mine replays here = absurd (cc)

shard_all : (stage : Stage) (all : List Note) (about : Shard) (kept : List Kept) → Replays about (entries_of kept)
    → AreAskedHere stage about kept
    → AllByRecursion (λ n. is_by (actor_of stage n.event.what) (ShardOf about.server.0 about.number) ≡ true)
    (notes_of kept)
    → AtEach (λ rest n. IsClocked stage all (own_before stage rest n) n n.event.what) (notes_of kept)
shard_all stage all about [] replays here mine = tt
shard_all stage all about (k ∷ kept) replays here mine = (
  shard_one stage all about k kept k.entry.event.what refl mine.0 replays here.1,
  shard_all stage all about kept replays.1 here.1 mine.1,
)

book_clocked : (stage : Stage) (all controller : List Note) (carriers : List (List Note)) (b : Book)
    (is : IsBookOfAll stage controller carriers b)
    → AtEach (λ rest n. IsClocked stage all (own_before stage rest n) n n.event.what)
    (notes_of (book_notes stage controller carriers b is).kept)
book_clocked stage all controller carriers b is =
    let notes = book_notes stage controller carriers b is
    in let replays : Replays b.shard (entries_of notes.kept) =
    subst (λ (l : List ShardEntry). Replays b.shard l) (sym notes.entries_are) is.replays
    in let mine = book_actors stage controller carriers b is
    in shard_all stage all b.shard notes.kept replays
    (here_all stage carriers b.shard notes.kept replays
    (subst (λ (l : List ShardEntry). AllByRecursion (λ e. IsCopied stage carriers b.shard e.call) l)
    (sym notes.entries_are) is.copied) mine) mine

-- TOGETHER

mux_all : (F : Rules) (stage : Stage) (controller : List Note) (carriers : List (List Note)) (books : List Book)
    (left : AreLeft F stage controller carriers books) (m : ℕ) → m < length carriers
    → AtEach (λ rest n. IsClocked stage (all_notes (logs_of stage controller carriers books left.kept))
    (own_before stage rest n) n n.event.what) (home_part stage (MuxOf m) (notes_by carriers m))
mux_all F stage controller carriers books left m low =
    let all = all_notes (logs_of stage controller carriers books left.kept)
    in let one = left.each m low
    in let control = control_log stage controller
    in let home = home_part stage (MuxOf m) (notes_by carriers m)
    in let L : Note → Type 0 = λ n. IsLossOf (notes_by carriers m) n.event.clock.0 n.event.what
    in at_so (λ n. (is_home stage (MuxOf m) n ≡ true) × L n)
    (λ rest n. IsMuxClocked stage control (posted_clocks control) (events_of rest) n.event.clock.0 n.event.what)
    (λ rest n. IsClocked stage all (own_before stage rest n) n n.event.what) home
    (λ rest n h gives. mux_clocked stage all controller carriers m (events_of rest) n n.event.what refl
    (left_shared F stage controller carriers books left) h.0 gives h.1)
    (both (λ n. is_home stage (MuxOf m) n ≡ true) L home (home_is stage (MuxOf m) (notes_by carriers m))
    (home_each L stage (MuxOf m) (notes_by carriers m) one.losses))
    (at_notes (λ rest e. IsMuxClocked stage control (posted_clocks control) rest e.clock.0 e.what) home one.gives)

pub left_underway : (F : Rules) (stage : Stage) (controller : List Note) (carriers : List (List Note))
    (books : List Book)
    (left : AreLeft F stage controller carriers books)
    → AreUnderway F stage (logs_of stage controller carriers books left.kept) controller carriers
left_underway F stage controller carriers books left =
    let logs = logs_of stage controller carriers books left.kept
    in let all = all_notes logs
    in let are = left_workers F stage controller carriers books left
    in let C : List Note → Note → Type 0 = λ rest n. IsClocked stage all (own_before stage rest n) n n.event.what
    in let S : Note → Type 0 = λ n. IsSynced stage (controller ++ notes_of_all carriers) n n.event.what
    in record {
      sound = left.sound;
      actors = own_logs stage controller carriers books left.kept left.own;
      seated = are_seated stage controller carriers books left.kept are;
      homes = left_homes F stage controller carriers books left;
      clocked = each_log (λ l. AtEach C l.notes) stage controller carriers books left.kept
          (at_any (λ n. (is_home stage Controller n ≡ true) × S n) C (home_part stage Controller controller)
          (λ rest n h. control_clocked stage all (controller ++ notes_of_all carriers) (own_before stage rest n) n
          n.event.what
          (left_shared F stage controller carriers books left) h.0 h.1)
          (both (λ n. is_home stage Controller n ≡ true) S (home_part stage Controller controller)
          (home_is stage Controller controller) (home_each S stage Controller controller left.synced)))
          (mux_all F stage controller carriers books left)
          (book_clocked stage all controller carriers);
      controls = left.controls;
      carried = λ m low. let one = left.each m low
          in two (λ n. carries m n.event.what ≡ true) (λ n. HasSending (notes_by carriers m) n n.event.what)
          (IsCarried m (notes_by carriers m)) (notes_by carriers m) (λ n k o. (k, o)) one.kinds one.has_sending;
      answers = λ m low. (left.each m low).drawn;
    }
