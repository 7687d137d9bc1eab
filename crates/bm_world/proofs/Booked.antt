-- The entries of the shards' books: what their callers give, and their order.
use Rattle.std.proofs.Common.{◌≡◌, ℕ, zero, suc, ◌+◌, ◌≤◌, Bool, true, false, cond, ◌&&◌, List, [], ◌∷◌}
use Rattle.std.proofs.Common.{length}
use Rattle.std.proofs.Common.{Option, Some, None, refl, sym, ap, ◌∙◌, subst, arith, eqb, inl, inr}
use Rattle.std.specs.List.{AllByRecursion}
use Rattle.std.proofs.lemmas.Bool.{cases_lt, eq-eqb, eqb-true, and_parts}
use Rattle.bm_base.specs.declared.ids.ServerId.{ServerId}
use Rattle.bm_base.specs.declared.ids.Moment.{Moment}
use Rattle.bm_base.specs.declared.flow.Flow.{Flow}
use Rattle.bm_core.specs.declared.events.Event.{Event}
use Rattle.bm_core.specs.declared.events.Local.{Local}
use Rattle.bm_core.specs.declared.events.Stage.{Stage}
use Rattle.bm_core.specs.declared.events.What.{What}
use Rattle.bm_core.specs.declared.events.What.TheVariants.{Publish, Switch, Steer, Lose, Sync}
use Rattle.bm_core.specs.declared.events.What.TheVariants.{Arrive as Arrives, Close as Closes, Retire as Retires}
use Rattle.bm_core.specs.Past.{shard, label_of}
use Rattle.bm_base.specs.declared.label.Label.{Label}
use Rattle.bm_core.specs.Accounts.{Routes, Rules}
use Rattle.bm_core.specs.Runs.{Actor, actor_of, is_by, next_clock, AtEach}
use Rattle.bm_core.specs.Runs.Actor.{MuxOf, ShardOf}
use Rattle.bm_core.specs.Threads.{is_command, last_own}
use Rattle.bm_shard.specs.Books.{Book, Replays, knows_after, clock_after}
use Rattle.bm_shard.specs.Replies.{what_of}
use Rattle.bm_shard.specs.Turns.{call_moment}
use Rattle.bm_shard.specs.declared.book.Shard.{Shard}
use Rattle.bm_shard.specs.declared.calls.ShardCall.{ShardCall}
use Rattle.bm_shard.specs.declared.calls.ShardCall.TheVariants.{Arrive, Close, Retire}
use Rattle.bm_shard.specs.declared.calls.ShardEntry.{ShardEntry}
use Rattle.bm_merge.specs.Merges.{Log, named, IsEntry, IsSentBefore}
use Rattle.bm_merge.specs.Notes.{Note, events_of, plain, total, many}
use Rattle.bm_merge.specs.Workers.{home_of, is_home, home_part, seat_part, notes_by, carries, arrives_after, IsGiven}
use Rattle.bm_merge.specs.Workers.{own_before}
use Rattle.bm_merge.proofs.Agreeing.{same_actor-true}
use Rattle.bm_table.specs.declared.plan.Retirement.{Retirement}
use Rattle.bm_merge.proofs.Keeping.{no_notes}
use Rattle.bm_merge.proofs.Reaching.{one_if}
use Rattle.bm_world.specs.Inside.Shards.{Kept, entries_of, note_of, notes_of, IsAsked, AreAsked}
use Rattle.bm_worker.specs.Phases.{mux_log, IsInOrder}
use Rattle.bm_world.specs.Inside.HandedBack.{AreHandedBack}
use Rattle.bm_world.specs.Inside.Returned.{control_log, IsJudgedBy, IsCopied, IsBookOfAll}
use Rattle.bm_world.proofs.Homes.{home_is, home_each}
use Rattle.bm_world.proofs.Logs.{logs_of, book_notes, named_mux}
use Rattle.bm_world.proofs.InLogs.{left_workers, all_sent}
use Rattle.bm_world.proofs.Sharded.{shard_entries, shard_clock, all_asked_here}

-- BY SEATS

own_here : (P : Note → Type 0) (n : Note) (x : List Note) (b : Bool) → b ≡ true
    → AllByRecursion P (cond b (n ∷ seat_part n.seat x) (seat_part n.seat x)) → P n
own_here P n x true is all = all.0
own_here P n x false is all = absurd (cc)

own_below : (P : Note → Type 0) (w : ℕ) (n : Note) (x : List Note) (b : Bool)
    → AllByRecursion P (cond b (n ∷ seat_part w x) (seat_part w x)) → AllByRecursion P (seat_part w x)
own_below P w n x true all = all.1
own_below P w n x false all = all

pub own_seats : (P : ℕ → Note → Type 0) (x : List Note) → ((w : ℕ) → AllByRecursion (P w) (seat_part w x))
    → AllByRecursion (λ n. P n.seat n) x
own_seats P [] all = tt
own_seats P (n ∷ x) all = (
  own_here (P n.seat) n x (eqb n.seat n.seat) (eq-eqb _ _ refl) (all n.seat),
  own_seats P x (λ w. own_below (P w) w n x (eqb n.seat w) (all w)),
)

-- what a note of a worker at a shard has
abbrev IsDoneBy : Stage → List Log → List Event → Actor → ℕ → Note → Type 0
IsDoneBy stage logs control a zero n =
    (is_home stage a n ≡ true) × (is_command n.event.what ≡ true)
    × IsJudgedBy stage control n.event.clock.0 n.event.what
IsDoneBy stage logs control a (suc m) n =
    (is_home stage a n ≡ true) × (carries m n.event.what ≡ true)
    × IsSentBefore logs n.event.clock.0 n.event.what

three : (P Q S : Note → Type 0) (x : List Note) → AllByRecursion P x → AllByRecursion Q x → AllByRecursion S x
    → AllByRecursion (λ n. P n × Q n × S n) x
three P Q S [] a b c = tt
three P Q S (n ∷ x) a b c = ((a.0, b.0, c.0), three P Q S x a.1 b.1 c.1)

done_by : (R : Routes) (F : Rules) (stage : Stage) (controller : List Note) (carriers : List (List Note))
    (books : List Book) (back : AreHandedBack R F stage controller carriers books) (a : Actor) (w : ℕ)
    → AllByRecursion (IsDoneBy stage (plain (logs_of stage controller carriers books back.left.kept))
    (control_log stage controller) a w) (home_part stage a (notes_by (controller ∷ carriers) w))
done_by R F stage controller carriers books back a zero =
    let are = left_workers F stage controller carriers books back.left
    in three (λ n. is_home stage a n ≡ true) (λ n. is_command n.event.what ≡ true)
    (λ n. IsJudgedBy stage (control_log stage controller) n.event.clock.0 n.event.what) (home_part stage a controller)
    (home_is stage a controller) (home_each (λ n. is_command n.event.what ≡ true) stage a controller are.commands)
    (home_each (λ n. IsJudgedBy stage (control_log stage controller) n.event.clock.0 n.event.what) stage a controller
    back.control.judged)
done_by R F stage controller carriers books back a (suc m) =
    let are = left_workers F stage controller carriers books back.left
    in let logs = plain (logs_of stage controller carriers books back.left.kept)
    in elim (cases_lt m (length carriers)) [
      | inl low ↦ three (λ n. is_home stage a n ≡ true) (λ n. carries m n.event.what ≡ true)
          (λ n. IsSentBefore logs n.event.clock.0 n.event.what) (home_part stage a (notes_by carriers m))
          (home_is stage a (notes_by carriers m))
          (home_each (λ n. carries m n.event.what ≡ true) stage a (notes_by carriers m) (are.kinds m))
          (home_each (λ n. IsSentBefore logs n.event.clock.0 n.event.what) stage a (notes_by carriers m)
          (all_sent R F stage controller carriers books back m low))
      | inr high ↦ subst (λ (x : List Note).
          AllByRecursion (IsDoneBy stage logs (control_log stage controller) a (suc m)) (home_part stage a x))
          (sym (no_notes carriers m high)) tt
    ]

-- WHAT THE CALLERS GIVE

labelled_named : (R : Routes) (F : Rules) (stage : Stage) (controller : List Note) (carriers : List (List Note))
    (books : List Book) (back : AreHandedBack R F stage controller carriers books) (packet : ℕ) (label : Label)
    → label_of stage (mux_log stage label.mux.0 (notes_by carriers label.mux.0)) packet ≡ Some label
    → label_of stage (named (plain (logs_of stage controller carriers books back.left.kept)) (MuxOf label.mux.0)) packet
    ≡ Some label
labelled_named R F stage controller carriers books back packet label is =
    elim (cases_lt label.mux.0 (length carriers)) [
      | inl low ↦ subst (λ (l : List Event). label_of stage l packet ≡ Some label)
          (sym (named_mux stage controller carriers books back.left.kept label.mux.0 low)) is
      | inr high ↦
          let none : label_of stage (mux_log stage label.mux.0 []) packet ≡ Some label =
          subst (λ (x : List Note). label_of stage (mux_log stage label.mux.0 x) packet ≡ Some label)
          (no_notes carriers label.mux.0 high) is
          in absurd (cc)
    ]

asked_one : (R : Routes) (F : Rules) (stage : Stage) (controller : List Note) (carriers : List (List Note))
    (books : List Book) (back : AreHandedBack R F stage controller carriers books) (about : Shard) (k : Kept)
    (knows : Flow → Local) (clock : Moment) (call : ShardCall) (w : ℕ) → k.entry.call ≡ call
    → k.entry.event.what ≡ what_of about knows clock call → IsCopied stage carriers about call
    → IsDoneBy stage (plain (logs_of stage controller carriers books back.left.kept)) (control_log stage controller)
    (ShardOf about.server.0 about.number) w (note_of k)
    → IsAsked stage (plain (logs_of stage controller carriers books back.left.kept)) about k.entry.event.clock.0 call
asked_one R F stage controller carriers books back about k knows clock (Arrive packet tag segment due) zero is what
    copied done = absurd (let command = rw what at done.1 in cc)
asked_one R F stage controller carriers books back about k knows clock (Arrive packet tag segment due) (suc m) is what
    copied done =
    let label = copied.2.0
    in record {
      is_segment = copied.0;
      here = copied.1;
      label = label;
      is_label = labelled_named R F stage controller carriers books back packet label copied.2.1;
      tagged = copied.2.2;
      mine = copied.2.3;
      sent = rw what at done.2;
    }
asked_one R F stage controller carriers books back about k knows clock (Close flow moment) w is what copied done =
    closed w done where
      closed : (w : ℕ) → IsDoneBy stage (plain (logs_of stage controller carriers books back.left.kept))
          (control_log stage controller) (ShardOf about.server.0 about.number) w (note_of k)
          → shard stage flow ≡ about.number
      closed zero d = eqb-true _ _ (and_parts (eqb about.server.0 about.server.0) (eqb (shard stage flow) about.number)
          (rw what at d.0)).1
      closed (suc m) d = absurd (let kind = rw what at d.1 in cc)
asked_one R F stage controller carriers books back about k knows clock (Retire moment result) zero is what copied done =
    rw what at done.2
asked_one R F stage controller carriers books back about k knows clock (Retire moment result) (suc m) is what copied
    done =
    absurd (let kind = rw what at done.1 in cc)

asked_all : (R : Routes) (F : Rules) (stage : Stage) (controller : List Note) (carriers : List (List Note))
    (books : List Book) (back : AreHandedBack R F stage controller carriers books) (about : Shard) (kept : List Kept)
    → Replays about (entries_of kept) → AllByRecursion (λ e. IsCopied stage carriers about e.call) (entries_of kept)
    → AllByRecursion (λ n. IsDoneBy stage (plain (logs_of stage controller carriers books back.left.kept))
    (control_log stage controller) (ShardOf about.server.0 about.number) n.seat n) (notes_of kept)
    → AreAsked stage (plain (logs_of stage controller carriers books back.left.kept)) about kept
asked_all R F stage controller carriers books back about [] replays copied done = tt
asked_all R F stage controller carriers books back about (k ∷ kept) replays copied done = (
  asked_one R F stage controller carriers books back about k (knows_after about (entries_of kept))
      (clock_after (entries_of kept) k.entry.call) k.entry.call k.entry.seat refl
      (ap (λ (e : Event). e.what) replays.0) copied.0 done.0,
  asked_all R F stage controller carriers books back about kept replays.1 copied.1 done.1,
)

-- what is known of a book
pub record IsLoggedBook (stage : Stage) (logs : List Log) (about : Shard) (kept : List Kept) : Type 0 where
  pub replays : Replays about (entries_of kept)
  pub asked : AreAsked stage logs about kept

pub logged_book : (R : Routes) (F : Rules) (stage : Stage) (controller : List Note) (carriers : List (List Note))
    (books : List Book) (back : AreHandedBack R F stage controller carriers books) (b : Book)
    (is : IsBookOfAll stage controller carriers b)
    → IsLoggedBook stage (plain (logs_of stage controller carriers books back.left.kept)) b.shard
    (book_notes stage controller carriers b is).kept
logged_book R F stage controller carriers books back b is =
    let about = b.shard
    in let a : Actor = ShardOf about.server.0 about.number
    in let notes = book_notes stage controller carriers b is
    in let logs = plain (logs_of stage controller carriers books back.left.kept)
    in let P : ℕ → Note → Type 0 = IsDoneBy stage logs (control_log stage controller) a
    in let replays : Replays about (entries_of notes.kept) =
    subst (λ (l : List ShardEntry). Replays about l) (sym notes.entries_are) is.replays
    in record {
      replays = replays;
      asked = asked_all R F stage controller carriers books back about notes.kept replays
          (subst (λ (l : List ShardEntry). AllByRecursion (λ e. IsCopied stage carriers about e.call) l)
          (sym notes.entries_are) is.copied)
          (own_seats P (notes_of notes.kept) (λ w. subst (λ (x : List Note). AllByRecursion (P w) x)
          (sym (notes.seats w)) (done_by R F stage controller carriers books back a w)));
    }

pub book_entries : (R : Routes) (F : Rules) (stage : Stage) (controller : List Note) (carriers : List (List Note))
    (books : List Book) (back : AreHandedBack R F stage controller carriers books) (b : Book)
    (is : IsBookOfAll stage controller carriers b)
    → AtEach (IsEntry stage (plain (logs_of stage controller carriers books back.left.kept))
    (ShardOf b.shard.server.0 b.shard.number)) (events_of (notes_of (book_notes stage controller carriers b is).kept))
book_entries R F stage controller carriers books back b is =
    let known = logged_book R F stage controller carriers books back b is
    in shard_entries stage (plain (logs_of stage controller carriers books back.left.kept)) b.shard
    (book_notes stage controller carriers b is).kept is.of known.replays known.asked

-- THE CLOCKS AND THE ORDER AT A SHARD

-- fewer among a part
home_fewer : (f : Note → ℕ) (stage : Stage) (a : Actor) (x : List Note) → total f (home_part stage a x) ≤ total f x
home_fewer f stage a [] = omega arith
home_fewer f stage a (n ∷ x) = go (is_home stage a n) (home_fewer f stage a x) where
  go : (b : Bool) → total f (home_part stage a x) ≤ total f x
      → total f (cond b (n ∷ home_part stage a x) (home_part stage a x)) ≤ f n + total f x
  go true old = omega arith
  go false old = omega arith

order_less : (x y : List Note) (what : What)
    → ((f : Note → ℕ) → total f y ≤ total f x) → IsInOrder x what → IsInOrder y what
order_less x y (Arrives k hop server verdict) less old =
    let few = less (λ n. one_if (arrives_after k n.event.what)) in omega arith
order_less x y (Publish v) less old = tt
order_less x y (Switch m v) less old = tt
order_less x y (Steer k m) less old = tt
order_less x y (Lose k hop) less old = tt
order_less x y (Closes server flow closed) less old = tt
order_less x y (Retires server h moment result) less old = tt
order_less x y Sync less old = tt

home_order : (stage : Stage) (a : Actor) (x : List Note) → AtEach (λ rest n. IsInOrder rest n.event.what) x
    → AtEach (λ rest n. IsInOrder rest n.event.what) (home_part stage a x)
home_order stage a [] each = tt
home_order stage a (n ∷ x) each =
    go (is_home stage a n) (home_order stage a x each.1)
    (order_less x (home_part stage a x) n.event.what (λ f. home_fewer f stage a x) each.0) where
      go : (b : Bool) → AtEach (λ rest y. IsInOrder rest y.event.what) (home_part stage a x)
          → IsInOrder (home_part stage a x) n.event.what
          → AtEach (λ rest y. IsInOrder rest y.event.what) (cond b (n ∷ home_part stage a x) (home_part stage a x))
      go true old here = (here, old)
      go false old here = old

abbrev IsSeatOrder : List Note → ℕ → What → Type 0
IsSeatOrder rest w (Arrives k hop server verdict) =
    many (λ y. eqb y.seat w && arrives_after k y.event.what) rest ≡ 0
IsSeatOrder rest w _ = Unit {0}

seat_many : (test : Note → Bool) (w : ℕ) (x : List Note)
    → many (λ y. eqb y.seat w && test y) x ≡ many test (seat_part w x)
seat_many test w [] = refl
seat_many test w (n ∷ x) = go (eqb n.seat w) (seat_many test w x) where
  go : (b : Bool) → many (λ y. eqb y.seat w && test y) x ≡ many test (seat_part w x)
      → one_if (b && test n) + many (λ y. eqb y.seat w && test y) x
      ≡ many test (cond b (n ∷ seat_part w x) (seat_part w x))
  go true old = omega arith
  go false old = omega arith

seat_order : (rest : List Note) (w : ℕ) (what : What) → IsInOrder (seat_part w rest) what → IsSeatOrder rest w what
seat_order rest w (Arrives k hop server verdict) old = seat_many (λ y. arrives_after k y.event.what) w rest ∙ old
seat_order rest w (Publish v) old = tt
seat_order rest w (Switch m v) old = tt
seat_order rest w (Steer k m) old = tt
seat_order rest w (Lose k hop) old = tt
seat_order rest w (Closes server flow closed) old = tt
seat_order rest w (Retires server h moment result) old = tt
seat_order rest w Sync old = tt

at_here : (P : List Note → Note → Type 0) (n : Note) (x : List Note) (b : Bool) → b ≡ true
    → AtEach P (cond b (n ∷ seat_part n.seat x) (seat_part n.seat x)) → P (seat_part n.seat x) n
at_here P n x true is all = all.0
at_here P n x false is all = absurd (cc)

at_below : (P : List Note → Note → Type 0) (w : ℕ) (n : Note) (x : List Note) (b : Bool)
    → AtEach P (cond b (n ∷ seat_part w x) (seat_part w x)) → AtEach P (seat_part w x)
at_below P w n x true all = all.1
at_below P w n x false all = all

seats_order : (x : List Note) → ((w : ℕ) → AtEach (λ rest n. IsInOrder rest n.event.what) (seat_part w x))
    → AtEach (λ rest n. IsSeatOrder rest n.seat n.event.what) x
seats_order [] each = tt
seats_order (n ∷ x) each = (
  seat_order x n.seat n.event.what
      (at_here (λ rest y. IsInOrder rest y.event.what) n x (eqb n.seat n.seat) (eq-eqb _ _ refl) (each n.seat)),
  seats_order x (λ w. at_below (λ rest y. IsInOrder rest y.event.what) w n x (eqb n.seat w) (each w)),
)

command_order : (rest : List Note) (what : What) → is_command what ≡ true → IsInOrder rest what
command_order rest (Publish v) is = tt
command_order rest (Closes server flow closed) is = tt
command_order rest (Retires server h moment result) is = tt
command_order rest Sync is = tt
command_order rest (Switch m v) is = absurd (cc)
command_order rest (Steer k m) is = absurd (cc)
command_order rest (Lose k hop) is = absurd (cc)
command_order rest (Arrives k hop server verdict) is = absurd (cc)

commands_order : (x : List Note) → AllByRecursion (λ n. is_command n.event.what ≡ true) x
    → AtEach (λ rest n. IsInOrder rest n.event.what) x
commands_order [] all = tt
commands_order (n ∷ x) all = (command_order x n.event.what all.0, commands_order x all.1)

worker_order : (R : Routes) (F : Rules) (stage : Stage) (controller : List Note) (carriers : List (List Note))
    (books : List Book) (back : AreHandedBack R F stage controller carriers books) (w : ℕ)
    → AtEach (λ rest n. IsInOrder rest n.event.what) (notes_by (controller ∷ carriers) w)
worker_order R F stage controller carriers books back zero =
    commands_order controller (left_workers F stage controller carriers books back.left).commands
worker_order R F stage controller carriers books back (suc m) = elim (cases_lt m (length carriers)) [
  | inl low ↦ (back.carried m low).ordered
  | inr high ↦ subst (λ (x : List Note). AtEach (λ rest n. IsInOrder rest n.event.what) x)
      (sym (no_notes carriers m high)) tt
]

-- what a shard gives
pub its_actor : (o : Option Actor) (a : Actor) → is_by o a ≡ true → o ≡ Some a
its_actor None a is = absurd (cc)
its_actor (Some b) a is = ap (λ (x : Actor). Some x) (same_actor-true b a is)

retired_at : What → ℕ
retired_at (Retires server h moment result) = moment.0
retired_at _ = 0

pub retire_due : (about : Shard) (knows : Flow → Local) (clock : Moment) (call : ShardCall) (server : ServerId) (h : ℕ)
    (moment : Moment) (result : Retirement) → what_of about knows clock call ≡ Retires server h moment result
    → (call_moment call).0 ≡ moment.0
unfolding retired_at
retire_due about knows clock (Retire m r) server h moment result is = ap retired_at is
retire_due about knows clock (Arrive packet tag segment due) server h moment result is = absurd (cc)
retire_due about knows clock (Close flow m) server h moment result is = absurd (cc)

given_one : (stage : Stage) (logs : List Log) (about : Shard) (k : Kept) (kept : List Kept) (what : What)
    → k.entry.event.what ≡ what
    → is_by (actor_of stage what) (ShardOf about.server.0 about.number) ≡ true
    → Replays about (entries_of (k ∷ kept)) → AreAsked stage logs about kept
    → IsSeatOrder (notes_of kept) k.entry.seat what
    → IsGiven stage logs (notes_of kept) (last_own stage (events_of (notes_of kept)) (actor_of stage what)) (note_of k)
    what
given_one stage logs about k kept (Arrives p hop server verdict) is mine replays asked order =
    let actor = its_actor (actor_of stage (Arrives p hop server verdict)) (ShardOf about.server.0 about.number) mine
    in (
      shard_clock stage about k kept replays (all_asked_here stage logs about kept asked)
          ∙ ap (λ (o : Option Actor). next_clock (last_own stage (events_of (notes_of kept)) o) (note_of k).due)
          (sym actor),
      order,
    )
given_one stage logs about k kept (Closes server flow closed) is mine replays asked order =
    let actor = its_actor (actor_of stage (Closes server flow closed)) (ShardOf about.server.0 about.number) mine
    in shard_clock stage about k kept replays (all_asked_here stage logs about kept asked)
    ∙ ap (λ (o : Option Actor). next_clock (last_own stage (events_of (notes_of kept)) o) (note_of k).due) (sym actor)
given_one stage logs about k kept (Retires server h moment result) is mine replays asked order =
    let actor = its_actor (actor_of stage (Retires server h moment result)) (ShardOf about.server.0 about.number) mine
    in let due : (note_of k).due ≡ moment.0 =
    retire_due about (knows_after about (entries_of kept)) (clock_after (entries_of kept) k.entry.call) k.entry.call
    server h moment result (sym (ap (λ (e : Event). e.what) replays.0) ∙ is)
    in shard_clock stage about k kept replays (all_asked_here stage logs about kept asked)
    ∙ ap (λ (o : Option Actor). next_clock (last_own stage (events_of (notes_of kept)) o) (note_of k).due) (sym actor)
    ∙ ap (λ (d : ℕ). next_clock
    (last_own stage (events_of (notes_of kept)) (actor_of stage (Retires server h moment result))) d) due
given_one stage logs about k kept (Publish v) is mine replays asked order = tt
given_one stage logs about k kept (Lose p hop) is mine replays asked order = tt
given_one stage logs about k kept Sync is mine replays asked order = tt
given_one stage logs about k kept (Switch m v) is mine replays asked order = absurd (cc)
given_one stage logs about k kept (Steer p m) is mine replays asked order = absurd (cc)

given_all : (stage : Stage) (logs : List Log) (about : Shard) (kept : List Kept) → Replays about (entries_of kept)
    → AreAsked stage logs about kept
    → AllByRecursion (λ n. is_by (actor_of stage n.event.what) (ShardOf about.server.0 about.number) ≡ true)
    (notes_of kept)
    → AtEach (λ rest n. IsSeatOrder rest n.seat n.event.what) (notes_of kept)
    → AtEach (λ rest n. IsGiven stage logs rest (own_before stage rest n) n n.event.what) (notes_of kept)
given_all stage logs about [] replays asked mine order = tt
given_all stage logs about (k ∷ kept) replays asked mine order = (
  given_one stage logs about k kept k.entry.event.what refl mine.0 replays asked.1 order.0,
  given_all stage logs about kept replays.1 asked.1 mine.1 order.1,
)

-- what is in a shard's log is by that shard
pub home_actor : (stage : Stage) (seat s h : ℕ) (what : What) → is_by (home_of stage seat what) (ShardOf s h) ≡ true
    → is_by (actor_of stage what) (ShardOf s h) ≡ true
home_actor stage seat s h (Publish v) is = is
home_actor stage seat s h (Switch m v) is = is
home_actor stage seat s h (Steer k m) is = is
home_actor stage seat s h (Lose k hop) is = absurd (cc)
home_actor stage seat s h (Arrives k hop server verdict) is = is
home_actor stage seat s h (Closes server flow closed) is = is
home_actor stage seat s h (Retires server x moment result) is = is
home_actor stage seat s h Sync is = is

pub all_more : (P Q : Note → Type 0) (x : List Note) → ((n : Note) → P n → Q n) → AllByRecursion P x
    → AllByRecursion Q x
all_more P Q [] f ps = tt
all_more P Q (n ∷ x) f ps = (f n ps.0, all_more P Q x f ps.1)

pub book_actors : (stage : Stage) (controller : List Note) (carriers : List (List Note)) (b : Book)
    (is : IsBookOfAll stage controller carriers b)
    → AllByRecursion (λ n. is_by (actor_of stage n.event.what) (ShardOf b.shard.server.0 b.shard.number) ≡ true)
    (notes_of (book_notes stage controller carriers b is).kept)
book_actors stage controller carriers b is =
    let notes = book_notes stage controller carriers b is
    in let a : Actor = ShardOf b.shard.server.0 b.shard.number
    in let P : Note → Type 0 = λ n. is_by (actor_of stage n.event.what) a ≡ true
    in own_seats (λ w n. P n) (notes_of notes.kept) (λ w. subst (λ (x : List Note). AllByRecursion P x)
    (sym (notes.seats w))
    (all_more (λ n. is_home stage a n ≡ true) P (home_part stage a (notes_by (controller ∷ carriers) w))
    (λ n h. home_actor stage n.seat b.shard.server.0 b.shard.number n.event.what h)
    (home_is stage a (notes_by (controller ∷ carriers) w))))

pub book_given : (R : Routes) (F : Rules) (stage : Stage) (controller : List Note) (carriers : List (List Note))
    (books : List Book) (back : AreHandedBack R F stage controller carriers books) (b : Book)
    (is : IsBookOfAll stage controller carriers b)
    → AtEach (λ rest n. IsGiven stage (plain (logs_of stage controller carriers books back.left.kept)) rest
    (own_before stage rest n) n n.event.what) (notes_of (book_notes stage controller carriers b is).kept)
book_given R F stage controller carriers books back b is =
    let known = logged_book R F stage controller carriers books back b is
    in let notes = book_notes stage controller carriers b is
    in let a : Actor = ShardOf b.shard.server.0 b.shard.number
    in let P : Note → Type 0 = λ n. is_by (actor_of stage n.event.what) a ≡ true
    in given_all stage (plain (logs_of stage controller carriers books back.left.kept)) b.shard notes.kept known.replays
    known.asked
    (book_actors stage controller carriers b is)
    (seats_order (notes_of notes.kept) (λ w. subst (λ (x : List Note). AtEach (λ rest n. IsInOrder rest n.event.what) x)
    (sym (notes.seats w))
    (home_order stage a (notes_by (controller ∷ carriers) w)
    (worker_order R F stage controller carriers books back w))))
