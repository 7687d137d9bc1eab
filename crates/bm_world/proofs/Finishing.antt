-- The servers' books have just what the workers did.
use Rattle.std.proofs.Common.{◌≡◌, ℕ, zero, suc, ◌+◌, ◌<◌, ◌≤◌, Bool, true, false, cond, ◌&&◌, ◌||◌, List, [], ◌∷◌}
use Rattle.std.proofs.Common.{◌++◌, length}
use Rattle.std.proofs.Common.{Some, refl, sym, ap, ◌∙◌, subst, arith, eqb, inl, inr}
use Rattle.std.specs.Prelude.{reverse, slice_get}
use Rattle.std.specs.List.{AllByRecursion}
use Rattle.std.proofs.lemmas.Bool.{cases_lt, eq-eqb, ne_eqb, and_from}
use Rattle.std.proofs.lemmas.Bool.{or_left, or_right, or_parts}
use Rattle.std.proofs.lemmas.Option.{same_Some, slice_get_within}
use Rattle.bm_rows.proofs.Places.{there}
use Rattle.bm_base.specs.declared.ids.ServerId.{ServerId}
use Rattle.bm_base.specs.declared.ids.Moment.{Moment}
use Rattle.bm_base.specs.declared.ids.MuxId.{MuxId}
use Rattle.bm_base.specs.declared.flow.Flow.{Flow}
use Rattle.bm_core.specs.declared.events.Event.{Event}
use Rattle.bm_core.specs.declared.events.Local.{Local}
use Rattle.bm_core.specs.declared.events.Stage.{Stage}
use Rattle.bm_core.specs.Past.{label_of}
use Rattle.bm_core.specs.Runs.Actor.{ShardOf}
use Rattle.bm_core.specs.Threads.{is_command}
use Rattle.bm_shard.specs.Books.{Book, Replays, knows_after, clock_after}
use Rattle.bm_shard.specs.Laws.{IsOf}
use Rattle.bm_shard.specs.Replies.{what_of}
use Rattle.bm_shard.specs.declared.book.Shard.{Shard}
use Rattle.bm_shard.specs.declared.calls.ShardCall.{ShardCall}
use Rattle.bm_shard.specs.declared.calls.ShardCall.TheVariants.{Arrive, Close, Retire}
use Rattle.bm_shard.specs.declared.calls.ShardEntry.{ShardEntry}
use Rattle.bm_merge.specs.Notes.{Note}
use Rattle.bm_merge.specs.Workers.{home_part, notes_by}
use Rattle.bm_merge.proofs.Keeping.{no_notes}
use Rattle.bm_server.specs.Seats.{Answered, Seated, replies_in, seat_of}
use Rattle.bm_server.specs.Servings.{Serving, shard_at}
use Rattle.bm_turnstile.specs.Seen.{AllBelow}
use Rattle.bm_worker.specs.WorkerNotes.{NumbersRise, timed_events, noted, AreServersOf}
use Rattle.bm_worker.proofs.Numbered.{differ}
use Rattle.bm_worker.specs.Phases.{mux_log, IsCopyCall, AreCopies}
use Rattle.bm_worker.specs.SeatCalls.{calls_there}
use Rattle.bm_world.specs.Inside.Shards.{entries_by, AreNoted}
use Rattle.bm_world.specs.Inside.Returned.{IsCopied, IsBookOfAll, has_book, HaveOwnBooks}
use Rattle.bm_world.specs.Inside.Running.{HaveReplies}
use Rattle.bm_world.specs.Inside.Served.{IsBookThere, AreBooksThere}
use Rattle.bm_world.proofs.Homes.{home_each}
use Rattle.bm_world.proofs.Recorded.{replies_noted, reply_one, replies_last, reverse_more, reverse_twice}

-- EACH ENTRY

entry_here : (P : ShardEntry → Type 0) (e : ShardEntry) (x : List ShardEntry) (b : Bool) → b ≡ true
    → AllByRecursion P (cond b (e ∷ entries_by e.seat x) (entries_by e.seat x)) → P e
entry_here P e x true is all = all.0
entry_here P e x false is all = absurd (cc)

entry_below : (P : ShardEntry → Type 0) (w : ℕ) (e : ShardEntry) (x : List ShardEntry) (b : Bool)
    → AllByRecursion P (cond b (e ∷ entries_by w x) (entries_by w x)) → AllByRecursion P (entries_by w x)
entry_below P w e x true all = all.1
entry_below P w e x false all = all

-- what holds of each seat's entries holds of all
entries_each : (P : ShardEntry → Type 0) (x : List ShardEntry) → ((w : ℕ) → AllByRecursion P (entries_by w x))
    → AllByRecursion P x
entries_each P [] all = tt
entries_each P (e ∷ x) all = (
  entry_here P e x (eqb e.seat e.seat) (eq-eqb _ _ refl) (all e.seat),
  entries_each P x (λ w. entry_below P w e x (eqb e.seat w) (all w)),
)

part_each : (P : ShardEntry → Type 0) (w : ℕ) (x : List ShardEntry) → AllByRecursion P x
    → AllByRecursion P (entries_by w x)
part_each P w [] all = tt
part_each P w (e ∷ x) all = go (eqb e.seat w) (part_each P w x all.1) where
  go : (b : Bool) → AllByRecursion P (entries_by w x) → AllByRecursion P (cond b (e ∷ entries_by w x) (entries_by w x))
  go true old = (all.0, old)
  go false old = old

answered_rest : (P : Answered → Type 0) (x y : List Answered) → AllByRecursion P (x ++ y)
    → AllByRecursion P x × AllByRecursion P y
answered_rest P [] y all = (tt, all)
answered_rest P (a ∷ x) y all = let old = answered_rest P x y all.1 in ((all.0, old.0), old.1)

-- what holds of the calls of a seat holds of its entries
calls_each : (Q : ShardCall → Type 0) (about : Shard) (w : ℕ) (x : List ShardEntry)
    → AllByRecursion (λ (a : Answered). Q a.0) (replies_in (Some about) w (reverse x))
    → AllByRecursion (λ (e : ShardEntry). Q e.call) (entries_by w x)
calls_each Q about w [] all = tt
calls_each Q about w (e ∷ x) all =
    let more : replies_in (Some about) w (reverse (e ∷ x)) ≡ _ =
    ap (λ (l : List ShardEntry). replies_in (Some about) w l) (reverse_more e x) ∙ replies_last about w [] (reverse x) e
    in let parts = answered_rest (λ (a : Answered). Q a.0) (replies_in (Some about) w (reverse x)) _
    (subst (λ (l : List Answered). AllByRecursion (λ (a : Answered). Q a.0) l) more all)
    in go (eqb e.seat w) parts.1 (calls_each Q about w x parts.0) where
      go : (b : Bool) → AllByRecursion (λ (a : Answered). Q a.0) (reply_one about w (reverse x) e b)
          → AllByRecursion (λ (y : ShardEntry). Q y.call) (entries_by w x)
          → AllByRecursion (λ (y : ShardEntry). Q y.call) (cond b (e ∷ entries_by w x) (entries_by w x))
      go true here old = (here.0, old)
      go false here old = old

-- no entry is under a number that has no worker
none_above : (w n : ℕ) (x : List ShardEntry) → n ≤ w → AllByRecursion (λ (e : ShardEntry). e.seat < n) x
    → entries_by w x ≡ []
none_above w n [] low below = refl
none_above w n (e ∷ x) low below =
    let not : eqb e.seat w ≡ false = ne_eqb _ _ (λ s. absurd (omega (arith, s, below.0)))
    in rw not (none_above w n x low below.1)

below_each : (n : ℕ) (x : List ShardEntry) → AllBelow seat_of n x → AllByRecursion (λ (e : ShardEntry). e.seat < n) x
below_each n [] below = tt
below_each n (e ∷ x) below = (below.0, below_each n x below.1)

all_snoc : (P : ShardEntry → Type 0) (x : List ShardEntry) (e : ShardEntry) → AllByRecursion P x → P e
    → AllByRecursion P (x ++ e ∷ [])
all_snoc P [] e all p = (p, tt)
all_snoc P (y ∷ x) e all p = (all.0, all_snoc P x e all.1 p)

reverse_each : (P : ShardEntry → Type 0) (x : List ShardEntry) → AllByRecursion P x → AllByRecursion P (reverse x)
reverse_each P [] all = tt
reverse_each P (e ∷ x) all =
    subst (λ (l : List ShardEntry). AllByRecursion P l) (sym (reverse_more e x))
    (all_snoc P (reverse x) e (reverse_each P x all.1) all.0)

-- WORKER 0 MAKES NO COPIES

-- what happens is what the call says
abbrev IsOfCall : Shard → ShardEntry → Type 0
IsOfCall about e = (knows : Flow → Local) × (clock : Moment) × (e.event.what ≡ what_of about knows clock e.call)

all_of_calls : (about : Shard) (x : List ShardEntry) → Replays about x → AllByRecursion (IsOfCall about) x
all_of_calls about [] replays = tt
all_of_calls about (e ∷ x) replays = (
  (knows_after about x, clock_after x e.call, ap (λ (z : Event). z.what) replays.0),
  all_of_calls about x replays.1,
)

no_copy : (stage : Stage) (carriers : List (List Note)) (about : Shard) (e : ShardEntry) (call : ShardCall)
    → e.call ≡ call → is_command e.event.what ≡ true → IsOfCall about e → IsCopied stage carriers about call
no_copy stage carriers about e (Arrive packet tag segment due) is command of_call =
    let what : e.event.what ≡ what_of about of_call.0 of_call.1 (Arrive packet tag segment due) =
    of_call.2 ∙ ap (λ (c : ShardCall). what_of about of_call.0 of_call.1 c) is
    in absurd (let bad = rw what at command in cc)
no_copy stage carriers about e (Close flow moment) is command of_call = tt
no_copy stage carriers about e (Retire moment result) is command of_call = tt

no_copies : (stage : Stage) (carriers : List (List Note)) (about : Shard) (es : List ShardEntry) (ns : List Note)
    → AreNoted es ns → AllByRecursion (λ n. is_command n.event.what ≡ true) ns → AllByRecursion (IsOfCall about) es
    → AllByRecursion (λ (e : ShardEntry). IsCopied stage carriers about e.call) es
no_copies stage carriers about [] [] noted commands of_call = tt
no_copies stage carriers about [] (n ∷ ns) noted commands of_call = absurd noted
no_copies stage carriers about (e ∷ es) [] noted commands of_call = absurd noted
no_copies stage carriers about (e ∷ es) (n ∷ ns) noted commands of_call = (
  no_copy stage carriers about e e.call refl
      (subst (λ (z : Event). is_command z.what ≡ true) noted.0.0 commands.0) of_call.0,
  no_copies stage carriers about es ns noted.1 commands.1 of_call.1,
)

-- A BOOK

copied_of : (stage : Stage) (carriers : List (List Note)) (server : Serving) (h : ℕ) (i : MuxId) (m : ℕ)
    (call : ShardCall)
    → i.0 ≡ m → IsCopyCall stage (mux_log stage m (notes_by carriers m)) i server h call
    → IsCopied stage carriers (shard_at server h) call
copied_of stage carriers server h i m (Arrive packet tag segment due) id is =
    let label = is.2.0
    in let mux : label.mux.0 ≡ m = ap (λ (x : MuxId). x.0) is.2.1 ∙ id
    in (
      is.0,
      is.1,
      (
        label,
        subst (λ (k : ℕ). label_of stage (mux_log stage k (notes_by carriers k)) packet ≡ Some label)
            (sym mux) is.2.2,
        is.2.3,
        is.2.4,
      ),
    )
copied_of stage carriers server h i m (Close flow moment) id is = absurd is
copied_of stage carriers server h i m (Retire moment result) id is = absurd is

-- what is known of the workers at the end of a run
pub record AreDone (stage : Stage) (servers : List Serving) (rows : List (List (List Seated)))
    (controller : List Note) (carriers : List (List Note)) : Type 0 where
  pub servers_are : AreServersOf stage servers
  pub lines : length rows ≡ suc (length carriers)
  pub seats : (s : ℕ) (server : Serving) → slice_get servers s ≡ Some server → server.seats ≡ length rows
  pub commands : AllByRecursion (λ n. is_command n.event.what ≡ true) controller
  pub first : AllByRecursion (λ n. n.seat ≡ 0) controller
  pub others : (m : ℕ) → AllByRecursion (λ n. n.seat ≡ suc m) (notes_by carriers m)
  -- the calls and replies of each worker's seats are what it did
  pub replies : (w : ℕ) (seats : List (List Seated)) → slice_get rows w ≡ Some seats
      → HaveReplies stage servers seats (notes_by (controller ∷ carriers) w)
  -- and the copies have the labels of the mux's log
  pub copies : (m : ℕ) (seats : List (List Seated)) → slice_get rows (suc m) ≡ Some seats
      → (id : MuxId) × (id.0 ≡ m) × AreCopies stage id servers (mux_log stage m (notes_by carriers m)) seats

seat_notes : (stage : Stage) (servers : List Serving) (rows : List (List (List Seated))) (controller : List Note)
    (carriers : List (List Note)) → AreDone stage servers rows controller carriers → (w : ℕ)
    → AllByRecursion (λ n. n.seat ≡ w) (notes_by (controller ∷ carriers) w)
seat_notes stage servers rows controller carriers done zero = done.first
seat_notes stage servers rows controller carriers done (suc m) = done.others m

replies_of_book : (stage : Stage) (servers : List Serving) (rows : List (List (List Seated))) (controller : List Note)
    (carriers : List (List Note)) (s h : ℕ) (server : Serving) (entries : List ShardEntry)
    → AreDone stage servers rows controller carriers → slice_get servers s ≡ Some server
    → Replays (shard_at server h) (reverse entries) → AllBelow seat_of server.seats entries
    → ((i : ℕ) (seats : List (List Seated)) → slice_get rows i ≡ Some seats
    → replies_in (Some (shard_at server h)) i entries ≡ calls_there seats s h) → (w : ℕ)
    → AreNoted (entries_by w (reverse entries))
    (home_part stage (ShardOf server.id.0 h) (notes_by (controller ∷ carriers) w))
replies_of_book stage servers rows controller carriers s h server entries done here replays below replies w =
    elim (cases_lt w (length rows)) [
      | inl low ↦
          let seats = there rows w low
          in replies_noted stage (ShardOf server.id.0 h) (shard_at server h) w entries (notes_by (controller ∷ carriers) w)
          replays
          (home_each (λ n. n.seat ≡ w) stage (ShardOf server.id.0 h) (notes_by (controller ∷ carriers) w)
          (seat_notes stage servers rows controller carriers done w))
          (ap (λ (l : List Answered). timed_events (shard_at server h) l) (replies w seats.0 seats.1)
          ∙ done.replies w seats.0 seats.1 s h server here)
      | inr high ↦
          let none : notes_by (controller ∷ carriers) w ≡ [] = no_notes (controller ∷ carriers) w
          (let l = done.lines in omega arith)
          in let count = done.seats s server here
          in let empty : entries_by w (reverse entries) ≡ [] = none_above w (length rows) (reverse entries) high
          (reverse_each (λ (e : ShardEntry). e.seat < length rows) entries
          (subst (λ (n : ℕ). AllByRecursion (λ (e : ShardEntry). e.seat < n) entries) count
          (below_each server.seats entries below)))
          in subst (λ (l : List ShardEntry). AreNoted l (home_part stage (ShardOf server.id.0 h)
          (notes_by (controller ∷ carriers) w))) (sym empty)
          (subst (λ (d : List Note). AreNoted [] (home_part stage (ShardOf server.id.0 h) d)) (sym none) tt)
    ]

answered_so : (P Q : Answered → Type 0) (x : List Answered) → ((a : Answered) → P a → Q a) → AllByRecursion P x
    → AllByRecursion Q x
answered_so P Q [] f ps = tt
answered_so P Q (a ∷ x) f ps = (f a ps.0, answered_so P Q x f ps.1)

copied_of_book : (stage : Stage) (servers : List Serving) (rows : List (List (List Seated))) (controller : List Note)
    (carriers : List (List Note)) (s h : ℕ) (server : Serving) (entries : List ShardEntry)
    → AreDone stage servers rows controller carriers → slice_get servers s ≡ Some server
    → Replays (shard_at server h) (reverse entries) → AllBelow seat_of server.seats entries
    → ((i : ℕ) (seats : List (List Seated)) → slice_get rows i ≡ Some seats
    → replies_in (Some (shard_at server h)) i entries ≡ calls_there seats s h) → (w : ℕ)
    → AllByRecursion (λ (e : ShardEntry). IsCopied stage carriers (shard_at server h) e.call)
    (entries_by w (reverse entries))
copied_of_book stage servers rows controller carriers s h server entries done here replays below replies zero =
    no_copies stage carriers (shard_at server h) (entries_by 0 (reverse entries))
    (home_part stage (ShardOf server.id.0 h) controller)
    (replies_of_book stage servers rows controller carriers s h server entries done here replays below replies 0)
    (home_each (λ n. is_command n.event.what ≡ true) stage (ShardOf server.id.0 h) controller done.commands)
    (part_each (IsOfCall (shard_at server h)) 0 (reverse entries)
    (all_of_calls (shard_at server h) (reverse entries) replays))
copied_of_book stage servers rows controller carriers s h server entries done here replays below replies (suc m) =
    elim (cases_lt (suc m) (length rows)) [
      | inl low ↦
          let seats = there rows (suc m) low
          in let c = done.copies m seats.0 seats.1
          in let calls = c.2 s h server here
          in let same : replies_in (Some (shard_at server h)) (suc m) (reverse (reverse entries))
          ≡ calls_there seats.0 s h =
          ap (λ (l : List ShardEntry). replies_in (Some (shard_at server h)) (suc m) l) (reverse_twice entries)
          ∙ replies (suc m) seats.0 seats.1
          in calls_each (λ call. IsCopied stage carriers (shard_at server h) call) (shard_at server h) (suc m)
          (reverse entries)
          (answered_so (λ (a : Answered). IsCopyCall stage (mux_log stage m (notes_by carriers m)) c.0 server h a.0)
          (λ (a : Answered). IsCopied stage carriers (shard_at server h) a.0)
          (replies_in (Some (shard_at server h)) (suc m) (reverse (reverse entries)))
          (λ a k. copied_of stage carriers server h c.0 m a.0 c.1 k)
          (subst (λ (l : List Answered). AllByRecursion
          (λ (a : Answered). IsCopyCall stage (mux_log stage m (notes_by carriers m)) c.0 server h a.0) l) (sym same)
          calls))
      | inr high ↦
          let count = done.seats s server here
          in let empty : entries_by (suc m) (reverse entries) ≡ [] =
          none_above (suc m) (length rows) (reverse entries) high
          (reverse_each (λ (e : ShardEntry). e.seat < length rows) entries
          (subst (λ (n : ℕ). AllByRecursion (λ (e : ShardEntry). e.seat < n) entries) count
          (below_each server.seats entries below)))
          in subst (λ (l : List ShardEntry).
          AllByRecursion (λ (e : ShardEntry). IsCopied stage carriers (shard_at server h) e.call) l) (sym empty) tt
    ]

-- each book
pub book_of_all : (stage : Stage) (servers : List Serving) (rows : List (List (List Seated))) (controller : List Note)
    (carriers : List (List Note)) (s h : ℕ) (server : Serving) (book : Book)
    → AreDone stage servers rows controller carriers → slice_get servers s ≡ Some server
    → IsBookThere server rows s h book → IsBookOfAll stage controller carriers book
book_of_all stage servers rows controller carriers s h server book done here is =
    let replays : Replays (shard_at server h) (reverse book.entries) =
    subst (λ (a : Shard). Replays a (reverse book.entries)) is.shard is.replays
    in record {
      of = subst (λ (a : Shard). IsOf stage a) (sym is.shard)
          (record { capacity = done.servers_are.capacity s server here; timeout_is = done.servers_are.timeout s server here });
      replays = is.replays;
      noted = λ w. subst (λ (a : Shard). AreNoted (entries_by w (reverse book.entries))
          (home_part stage (ShardOf a.server.0 a.number) (notes_by (controller ∷ carriers) w))) (sym is.shard)
          (replies_of_book stage servers rows controller carriers s h server book.entries done here replays is.below
          is.replies w);
      copied = subst (λ (a : Shard). AllByRecursion (λ (e : ShardEntry). IsCopied stage carriers a e.call)
          (reverse book.entries)) (sym is.shard)
          (entries_each (λ (e : ShardEntry). IsCopied stage carriers (shard_at server h) e.call) (reverse book.entries)
          (copied_of_book stage servers rows controller carriers s h server book.entries done here replays is.below
          is.replies));
    }

-- ALL BOOKS

-- the servers' books, one after the other
abbrev pub all_books : List (List Book) → List Book
all_books [] = []
all_books (b ∷ books) = b ++ all_books books

has_first : (x y : List Book) (s h : ℕ) → has_book x s h ≡ true → has_book (x ++ y) s h ≡ true
has_first [] y s h is = absurd (cc)
has_first (b ∷ x) y s h is = go (eqb b.shard.server.0 s && eqb b.shard.number h) is (has_first x y s h) where
  go : (c : Bool) → (c || has_book x s h) ≡ true → (has_book x s h ≡ true → has_book (x ++ y) s h ≡ true)
      → (c || has_book (x ++ y) s h) ≡ true
  go true p old = refl
  go false p old = old p

has_second : (x y : List Book) (s h : ℕ) → has_book y s h ≡ true → has_book (x ++ y) s h ≡ true
has_second [] y s h is = is
has_second (b ∷ x) y s h is = or_right _ _ (has_second x y s h is)

has_neither : (x y : List Book) (s h : ℕ) → has_book x s h ≡ false → has_book y s h ≡ false
    → has_book (x ++ y) s h ≡ false
has_neither [] y s h a b = b
has_neither (c ∷ x) y s h a b =
    let parts = or_parts (eqb c.shard.server.0 s && eqb c.shard.number h) (has_book x s h) a
    in rw (parts.0, has_neither x y s h parts.1 b) refl

has_here : (books : List Book) (h : ℕ) (id n : ℕ) (b : Book) → slice_get books h ≡ Some b → b.shard.server.0 ≡ id
    → b.shard.number ≡ n → has_book books id n ≡ true
has_here [] h id n b here s k = absurd (cc)
has_here (c ∷ books) zero id n b here s k =
    let same = same_Some c b here
    in or_left _ _ (and_from _ _ (eq-eqb _ _ (ap (λ (x : Book). x.shard.server.0) same ∙ s))
    (eq-eqb _ _ (ap (λ (x : Book). x.shard.number) same ∙ k)))
has_here (c ∷ books) (suc h) id n b here s k = or_right _ _ (has_here books h id n b here s k)

has_there : (all : List (List Book)) (s : ℕ) (books : List Book) (id n : ℕ) → slice_get all s ≡ Some books
    → has_book books id n ≡ true → has_book (all_books all) id n ≡ true
has_there [] s books id n here has = absurd (cc)
has_there (b ∷ all) zero books id n here has =
    has_first b (all_books all) id n
    (subst (λ (x : List Book). has_book x id n ≡ true) (sym (same_Some b books here)) has)
has_there (b ∷ all) (suc s) books id n here has =
    has_second b (all_books all) id n (has_there all s books id n here has)

-- there is a book for each shard of each server
pub has_shard : (servers : List Serving) (rows : List (List (List Seated))) (all : List (List Book)) (s h : ℕ)
    (server : Serving)
    → length all ≡ length servers
    → ((s : ℕ) (books : List Book) → slice_get all s ≡ Some books → AreBooksThere servers rows s books)
    → slice_get servers s ≡ Some server → h < length server.tables → has_book (all_books all) server.id.0 h ≡ true
has_shard servers rows all s h server count books here low =
    let within = slice_get_within servers s server here
    in let b = there all s (omega arith)
    in let are = books s b.0 b.1
    in let same : are.server ≡ server = same_Some are.server server (sym are.server_at ∙ here)
    in let tables : length are.server.tables ≡ length server.tables = ap (λ (x : Serving). length x.tables) same
    in let long = are.count
    in let book = there b.0 h (omega arith)
    in let shard = (are.each h book.0 book.1).shard
    in has_there all s b.0 server.id.0 h b.1
    (has_here b.0 h server.id.0 h book.0 book.1
    (ap (λ (x : Shard). x.server.0) shard ∙ ap (λ (x : Serving). x.id.0) same) (ap (λ (x : Shard). x.number) shard))

-- no shard has two
other_numbers : (id k h : ℕ) (books : List Book) → h < k
    → ((i : ℕ) (b : Book) → slice_get books i ≡ Some b → (b.shard.server.0 ≡ id) × (b.shard.number ≡ k + i))
    → has_book books id h ≡ false
other_numbers id k h [] low each = refl
other_numbers id k h (b ∷ books) low each =
    let here = each 0 b refl
    in let not : eqb b.shard.number h ≡ false = ne_eqb _ _ (λ e. let n = here.1 in absurd (omega arith))
    in let rest =
    other_numbers id (suc k) h books (omega arith) (λ i c at. let e = each (suc i) c at in (e.0, omega (arith, e.1)))
    in rw (not, rest) (go (eqb b.shard.server.0 id)) where
      go : (c : Bool) → ((c && false) || false) ≡ false
      go true = refl
      go false = refl

other_server : (id other h : ℕ) (books : List Book) → (other ≡ id → ⊥)
    → ((i : ℕ) (b : Book) → slice_get books i ≡ Some b → b.shard.server.0 ≡ other) → has_book books id h ≡ false
other_server id other h [] apart each = refl
other_server id other h (b ∷ books) apart each =
    let not : eqb b.shard.server.0 id ≡ false = ne_eqb _ _ (λ e. apart (sym (each 0 b refl) ∙ e))
    in let rest = other_server id other h books apart (λ i c at. each (suc i) c at)
    in rw (not, rest) refl

no_other : (id h : ℕ) (all : List (List Book))
    → ((s : ℕ) (books : List Book) → slice_get all s ≡ Some books
    → (other : ℕ) × (other ≡ id → ⊥) × ((i : ℕ) (b : Book) → slice_get books i ≡ Some b → b.shard.server.0 ≡ other))
    → has_book (all_books all) id h ≡ false
no_other id h [] each = refl
no_other id h (books ∷ all) each =
    let here = each 0 books refl
    in has_neither books (all_books all) id h (other_server id here.0 h books here.1 here.2)
    (no_other id h all (λ s b at. each (suc s) b at))

own_more : (id k : ℕ) (books more : List Book)
    → ((i : ℕ) (b : Book) → slice_get books i ≡ Some b → (b.shard.server.0 ≡ id) × (b.shard.number ≡ k + i))
    → ((h : ℕ) → has_book more id h ≡ false) → HaveOwnBooks more → HaveOwnBooks (books ++ more)
own_more id k [] more each none own = own
own_more id k (b ∷ books) more each none own =
    let here = each 0 b refl
    in let rest : (i : ℕ) (c : Book) → slice_get books i ≡ Some c → (c.shard.server.0 ≡ id)
    × (c.shard.number ≡ suc k + i) =
    λ i c at. let e = each (suc i) c at in (e.0, omega (arith, e.1))
    in let at : b.shard.number ≡ k = omega (arith, here.1)
    in (
      subst (λ (n : ℕ). has_book (books ++ more) n b.shard.number ≡ false) (sym here.0)
          (subst (λ (n : ℕ). has_book (books ++ more) id n ≡ false) (sym at)
          (has_neither books more id k (other_numbers id (suc k) k books (omega arith) rest) (none k))),
      own_more id (suc k) books more rest none own,
    )

-- the books of the servers from one place on
own_from : (servers : List Serving) (rows : List (List (List Seated))) (m : ℕ) (all : List (List Book))
    → NumbersRise servers
    → ((s : ℕ) (books : List Book) → slice_get all s ≡ Some books → AreBooksThere servers rows (m + s) books)
    → HaveOwnBooks (all_books all)
own_from servers rows m [] rise each = tt
own_from servers rows m (books ∷ all) rise each =
    let here = each 0 books refl
    in own_more here.server.id.0 0 books (all_books all)
    (λ i b at. let shard = (here.each i b at).shard
    in (ap (λ (x : Shard). x.server.0) shard, ap (λ (x : Shard). x.number) shard ∙ omega arith))
    (λ h. no_other here.server.id.0 h all (λ s b at.
    let other = each (suc s) b at
    in (
      other.server.id.0,
      (λ same. absurd (let k = differ servers rise (m + suc s) (m + 0) other.server here.server other.server_at
          here.server_at (id_same other.server.id here.server.id same) in omega arith)),
      (λ i c there. ap (λ (x : Shard). x.server.0) (other.each i c there).shard),
    )))
    (own_from servers rows (suc m) all rise (λ s b at. subst (λ (k : ℕ). AreBooksThere servers rows k b) (omega arith)
    (each (suc s) b at))) where
      id_same : (a b : ServerId) → a.0 ≡ b.0 → a ≡ b
      id_same a b same = λ i. record { 0 = same i }

pub own_books : (servers : List Serving) (rows : List (List (List Seated))) (all : List (List Book))
    → NumbersRise servers
    → ((s : ℕ) (books : List Book) → slice_get all s ≡ Some books → AreBooksThere servers rows s books)
    → HaveOwnBooks (all_books all)
own_books servers rows all rise each =
    own_from servers rows 0 all rise
    (λ s b at. subst (λ (k : ℕ). AreBooksThere servers rows k b) (omega arith) (each s b at))

-- each book is one of all that was done
books_append : (P : Book → Type 0) (x y : List Book) → AllByRecursion P x → AllByRecursion P y
    → AllByRecursion P (x ++ y)
books_append P [] y a b = b
books_append P (c ∷ x) y a b = (a.0, books_append P x y a.1 b)

books_each : (P : Book → Type 0) (x : List Book) → ((i : ℕ) (b : Book) → slice_get x i ≡ Some b → P b)
    → AllByRecursion P x
books_each P [] each = tt
books_each P (b ∷ x) each = (each 0 b refl, books_each P x (λ i c at. each (suc i) c at))

all_books_each : (P : Book → Type 0) (all : List (List Book))
    → ((s : ℕ) (books : List Book) → slice_get all s ≡ Some books → (i : ℕ) (b : Book) → slice_get books i ≡ Some b
    → P b)
    → AllByRecursion P (all_books all)
all_books_each P [] each = tt
all_books_each P (books ∷ all) each =
    books_append P books (all_books all) (books_each P books (each 0 books refl))
    (all_books_each P all (λ s b at. each (suc s) b at))

pub books_of_all : (stage : Stage) (servers : List Serving) (rows : List (List (List Seated))) (controller : List Note)
    (carriers : List (List Note)) (all : List (List Book)) → AreDone stage servers rows controller carriers
    → ((s : ℕ) (books : List Book) → slice_get all s ≡ Some books → AreBooksThere servers rows s books)
    → AllByRecursion (IsBookOfAll stage controller carriers) (all_books all)
books_of_all stage servers rows controller carriers all done each =
    all_books_each (IsBookOfAll stage controller carriers) all (λ s books at h book here.
    let are = each s books at
    in book_of_all stage servers rows controller carriers s h are.server book done are.server_at (are.each h book here))
