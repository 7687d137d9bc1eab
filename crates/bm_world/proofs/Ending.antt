-- At the end of a run its workers and its servers have given back what a threaded run asks for.
use Rattle.std.proofs.Common.{◌≡◌, ℕ, zero, suc, ◌<◌, Bool, true, false, ◌&&◌, List, [], ◌∷◌, ◌++◌}
use Rattle.std.proofs.Common.{length, map}
use Rattle.std.proofs.Common.{Option, Some, None, refl, sym, ap, ◌∙◌, subst, arith, eqb, leb, ltb, inl, inr}
use Rattle.std.specs.Prelude.{slice_get, IfSome, is_some}
use Rattle.std.specs.List.{AllByRecursion}
use Rattle.std.proofs.lemmas.Bool.{cases_lt, cases_eq, eq-eqb, ne_eqb, lt-ltb, le-ltb, le-leb}
use Rattle.std.proofs.lemmas.Bool.{lt-leb}
use Rattle.std.proofs.lemmas.Nat.{mod_below}
use Rattle.std.proofs.lemmas.Option.{same_Some}
use Rattle.std.proofs.lemmas.List.{length-map}
use mathlib.Core.List.{IsPrefix}
use Rattle.logbook.specs.Pages.{Book as Board}
use Rattle.bm_rows.proofs.Places.{there}
use Rattle.bm_base.specs.declared.flow.Segment.{Segment}
use Rattle.bm_base.specs.declared.ids.MuxId.{MuxId}
use Rattle.bm_base.specs.declared.ids.ServerId.{ServerId}
use Rattle.bm_core.specs.declared.events.Event.{Event}
use Rattle.bm_core.specs.declared.events.Stage.{Stage}
use Rattle.bm_core.specs.declared.events.What.{What}
use Rattle.bm_core.specs.declared.events.What.TheVariants.{Publish, Switch, Steer, Lose, Arrive, Close, Retire, Sync}
use Rattle.bm_core.specs.Accounts.{Routes, Rules, steers_packet}
use Rattle.bm_core.specs.Past.{segment_of, shard, newest, steerable}
use Rattle.std.proofs.lemmas.Option.{slice_get_past}
use Rattle.bm_core.specs.Runs.{AtEach}
use Rattle.bm_core.specs.Runs.Actor.{Controller}
use Rattle.bm_core.specs.Stages.{IsSound}
use Rattle.bm_core.specs.Threads.{is_command}
use Rattle.bm_shard.specs.Books.{Book}
use Rattle.bm_merge.specs.Notes.{Note, events_of, many, total}
use Rattle.bm_merge.specs.Workers.{home_part, notes_by, notes_of_all, IsCommanded, IsController, IsMet, IsUnderway, carries}
use Rattle.bm_merge.proofs.Commanding.{all_kinds}
use Rattle.bm_merge.proofs.Noting.{each_append, each_so}
use Rattle.bm_merge.proofs.Phasing.{met_shared}
use Rattle.bm_merge.proofs.Reaching.{one_if}
use Rattle.bm_merge.proofs.Sharing.{notes_upto, sum_seats}
use Rattle.bm_server.specs.Seats.{Seated}
use Rattle.bm_server.specs.Servings.{Serving}
use Rattle.bm_worker.specs.WorkerNotes.{HasServer, AreServersOf}
use Rattle.bm_worker.specs.Phases.{mux_log, IsPlaced, AreCopies}
use Rattle.bm_worker.specs.Assigned.{is_mux, assigned_mux}
use Rattle.bm_worker.specs.declared.worker.MuxWorker.{MuxWorker}
use Rattle.bm_world.specs.Inside.HandedBack.{AreHandedBack}
use Rattle.bm_world.specs.Inside.Returned.{control_log, posted_clocks, IsControl, IsBooked, has_book}
use Rattle.bm_world.specs.Inside.Going.{HaveReplies, IsGoing}
use Rattle.bm_world.specs.Inside.Left.{AreLeft, IsSynced}
use Rattle.bm_world.specs.Inside.Running.{AreAtWork, HaveLooked}
use Rattle.bm_lead.specs.Leads.{IsPlaced as IsLedAt}
use Rattle.bm_world.specs.Inside.Routed.{AreRouted}
use Rattle.bm_world.specs.Inside.Served.{AreBooksThere}
use Rattle.bm_world.specs.Inside.RunStates.{rows_of}
use Rattle.bm_world.proofs.Assembled.{at_change}
use Rattle.bm_world.proofs.GivingUp.{all_synced, left_later}
use Rattle.bm_world.proofs.InLogs.{all_carried, notes_each}
use Rattle.bm_world.proofs.Finishing.{AreDone, all_books, has_shard, own_books, books_of_all}
use Rattle.bm_world.proofs.Growing.{carriage_later}

-- EACH PACKET ONCE

pub seats_same : (g h : ℕ → ℕ) (n : ℕ) → ((w : ℕ) → w < n → g w ≡ h w) → sum_seats g n ≡ sum_seats h n
seats_same g h zero same = refl
seats_same g h (suc n) same =
    let old = seats_same g h n (λ w low. same w (omega arith)) in let here = same n (omega arith) in omega arith

-- the mux is one of n
abbrev pub is_under : Option ℕ → ℕ → Bool
is_under None n = false
is_under (Some m) n = ltb m n

none_if : (t : Bool) → one_if (t && false) ≡ 0
none_if true = refl
none_if false = refl

pub one_mux : (t : Bool) (o : Option ℕ) (n : ℕ) → sum_seats (λ w. one_if (t && is_mux o w)) n
    ≡ one_if (t && is_under o n)
one_mux t None zero = sym (none_if t)
one_mux t None (suc n) = let old = one_mux t None n in let none = none_if t in omega arith
one_mux t (Some m) zero =
    let no : ltb m 0 ≡ false = le-ltb _ _ (omega arith) in rw no (sym (none_if t))
one_mux t (Some m) (suc n) = elim (cases_eq m n) [
  | inl same ↦
      let old = one_mux t (Some m) n
      in let yes : eqb m n ≡ true = eq-eqb _ _ same
      in let before : ltb m n ≡ false = le-ltb _ _ (omega arith)
      in let after : ltb m (suc n) ≡ true = lt-ltb _ _ (omega arith)
      in let none = none_if t
      in let was : sum_seats (λ w. one_if (t && eqb m w)) n ≡ one_if (t && false) = rw before at old
      in rw (yes, after) (omega arith)
  | inr apart ↦
      let old = one_mux t (Some m) n
      in let not : eqb m n ≡ false = ne_eqb _ _ apart
      in let none = none_if t
      in let same : ltb m (suc n) ≡ ltb m n = next_same m n apart
      in rw (not, same) (omega arith)
] where
  next_same : (m n : ℕ) → (m ≡ n → ⊥) → ltb m (suc n) ≡ ltb m n
  next_same m n apart = elim (cases_lt m n) [
    | inl low ↦
        let a : ltb m (suc n) ≡ true = lt-ltb _ _ (omega arith)
        in let b : ltb m n ≡ true = lt-ltb _ _ low
        in a ∙ sym b
    | inr high ↦ elim (cases_lt n m) [
      | inl over ↦
          let a : ltb m (suc n) ≡ false = le-ltb _ _ (omega arith)
          in let b : ltb m n ≡ false = le-ltb _ _ high
          in a ∙ sym b
      | inr under ↦ absurd (apart (omega arith))
    ]
  ]

beyond : (stage : Stage) (k : ℕ) → length stage.capture.records < k → segment_of stage k ≡ None
beyond stage zero high = refl
beyond stage (suc i) high = ap steerable (slice_get_past stage.capture.records i (omega arith))

packet_once : (stage : Stage) (routes : List (Option MuxId)) (k : ℕ) → AreRouted stage routes
    → one_if ((ltb 0 k && leb k (length stage.capture.records))
    && is_under (assigned_mux routes k) stage.script.setting.muxes)
    ≡ one_if (is_some (segment_of stage k))
packet_once stage routes zero routed = refl
packet_once stage routes (suc i) routed = elim (cases_lt (length stage.capture.records) (suc i)) [
  | inl high ↦
      let none = beyond stage (suc i) high
      in let no : leb (suc i) (length stage.capture.records) ≡ false = lt-leb _ _ high
      in let yes : ltb 0 (suc i) ≡ true = lt-ltb _ _ (omega arith)
      in rw (none, no, yes) refl
  | inr low ↦
      let a : ltb 0 (suc i) ≡ true = lt-ltb _ _ (omega arith)
      in let b : leb (suc i) (length stage.capture.records) ≡ true = le-leb _ _ low
      in rw (a, b) (go (assigned_mux routes (suc i)) refl (is_some (segment_of stage (suc i))) refl)
] where
  go : (o : Option ℕ) → assigned_mux routes (suc i) ≡ o → (s : Bool) → is_some (segment_of stage (suc i)) ≡ s
      → one_if ((true && true) && is_under o stage.script.setting.muxes) ≡ one_if s
  go None at true is = absurd (let has = routed.given (suc i) is in let no = rw at at has in cc)
  go None at false is = refl
  go (Some m) at true is =
      let low : ltb m stage.script.setting.muxes ≡ true = lt-ltb _ _ (routed.below (suc i) m at) in rw low refl
  go (Some m) at false is =
      absurd (let has = routed.steerable (suc i) m at in let bad : true ≡ false = sym has ∙ is in cc)

-- WORKER 0'S PLACES

server_booked : (stage : Stage) (servers : List Serving) (rows : List (List (List Seated))) (all : List (List Book))
    (id : ServerId)
    (h : ℕ) → AreServersOf stage servers → length all ≡ length servers
    → ((s : ℕ) (books : List Book) → slice_get all s ≡ Some books → AreBooksThere servers rows s books)
    → HasServer servers id → h < stage.script.setting.shards → has_book (all_books all) id.0 h ≡ true
server_booked stage servers rows all id h servers_are count books has low =
    let server = has.1
    in let shards = servers_are.shards has.0 server has.2
    in subst (λ (i : ServerId). has_book (all_books all) i.0 h ≡ true) has.3
    (has_shard servers rows all has.0 h server count books has.2 (omega arith))

pub led_booked : (stage : Stage) (servers : List Serving) (rows : List (List (List Seated))) (all : List (List Book))
    (what : What)
    → AreServersOf stage servers → length all ≡ length servers → 0 < stage.script.setting.shards
    → ((s : ℕ) (books : List Book) → slice_get all s ≡ Some books → AreBooksThere servers rows s books)
    → is_command what ≡ true → IsLedAt stage servers what → IsBooked stage (all_books all) what
led_booked stage servers rows all (Close server flow closed) servers_are count some books is at =
    server_booked stage servers rows all server (shard stage flow) servers_are count books at
    (mod_below _ stage.script.setting.shards some)
led_booked stage servers rows all (Retire server h moment result) servers_are count some books is at =
    server_booked stage servers rows all server h servers_are count books at.0 at.1
led_booked stage servers rows all (Publish v) servers_are count some books is at = tt
led_booked stage servers rows all Sync servers_are count some books is at = tt
led_booked stage servers rows all (Switch m v) servers_are count some books is at = absurd (cc)
led_booked stage servers rows all (Steer k m) servers_are count some books is at = absurd (cc)
led_booked stage servers rows all (Lose k hop) servers_are count some books is at = absurd (cc)
led_booked stage servers rows all (Arrive k hop server verdict) servers_are count some books is at = absurd (cc)

pub carried_booked : (stage : Stage) (servers : List Serving) (rows : List (List (List Seated)))
    (all : List (List Book)) (what : What)
    → AreServersOf stage servers → length all ≡ length servers → 0 < stage.script.setting.shards
    → ((s : ℕ) (books : List Book) → slice_get all s ≡ Some books → AreBooksThere servers rows s books)
    → is_command what ≡ false → IsPlaced servers what → IsBooked stage (all_books all) what
carried_booked stage servers rows all (Arrive k hop server verdict) servers_are count some books is at =
    go (segment_of stage k) where
      go : (o : Option Segment) → IfSome o (λ s. has_book (all_books all) server.0 (shard stage s.flow) ≡ true)
      go None = tt
      go (Some s) = server_booked stage servers rows all server (shard stage s.flow) servers_are count books at
          (mod_below _ stage.script.setting.shards some)
carried_booked stage servers rows all (Switch m v) servers_are count some books is at = tt
carried_booked stage servers rows all (Steer k m) servers_are count some books is at = tt
carried_booked stage servers rows all (Lose k hop) servers_are count some books is at = tt
carried_booked stage servers rows all (Publish v) servers_are count some books is at = tt
carried_booked stage servers rows all Sync servers_are count some books is at = tt
carried_booked stage servers rows all (Close server flow closed) servers_are count some books is at = absurd (cc)
carried_booked stage servers rows all (Retire server h moment result) servers_are count some books is at = absurd (cc)

pub row_of : (workers : List MuxWorker) (m : ℕ) (seats : List (List Seated))
    → slice_get (map (λ (w : MuxWorker). w.caller.seats) workers) m ≡ Some seats
    → (w : MuxWorker) × (slice_get workers m ≡ Some w) × (w.caller.seats ≡ seats)
row_of [] m seats here = absurd (cc)
row_of (w ∷ workers) zero seats here = (w, refl, same_Some _ _ here)
row_of (w ∷ workers) (suc m) seats here = row_of workers m seats here

pub carried_no_command : (m : ℕ) (what : What) → carries m what ≡ true → is_command what ≡ false
carried_no_command m (Switch x v) h = refl
carried_no_command m (Steer k x) h = refl
carried_no_command m (Arrive k hop server verdict) h = refl
carried_no_command m (Lose k hop) h = refl
carried_no_command m (Publish v) h = absurd (cc)
carried_no_command m (Close server flow closed) h = absurd (cc)
carried_no_command m (Retire server x at result) h = absurd (cc)
carried_no_command m Sync h = absurd (cc)

each_two : (P Q S : Note → Type 0) (x : List Note) → ((n : Note) → P n → Q n → S n) → AllByRecursion P x
    → AllByRecursion Q x → AllByRecursion S x
each_two P Q S [] f ps qs = tt
each_two P Q S (n ∷ x) f ps qs = (f n ps.0 qs.0, each_two P Q S x f ps.1 qs.1)

-- WHETHER A WORKER GAVE UP OR NOT

-- the script asks for all that worker 0 did
underway : (stage : Stage) (x : List Note) → AtEach (IsCommanded stage) x → AtEach (IsUnderway stage) x
underway stage [] each = tt
underway stage (n ∷ x) each = (record { kind = each.0.kind; meant = each.0.meant }, underway stage x each.1)

rows_have : (stage : Stage) (servers : List Serving) (leader : List (List Seated)) (workers : List MuxWorker)
    (controller : List Note) (carriers : List (List Note)) → HaveReplies stage servers leader controller
    → ((m : ℕ) (w : MuxWorker) → slice_get workers m ≡ Some w
    → HaveReplies stage servers w.caller.seats (notes_by carriers m))
    → (w : ℕ) (seats : List (List Seated)) → slice_get (rows_of leader workers) w ≡ Some seats
    → HaveReplies stage servers seats (notes_by (controller ∷ carriers) w)
rows_have stage servers leader workers controller carriers first others zero seats here =
    subst (λ (x : List (List Seated)). HaveReplies stage servers x controller) (same_Some leader seats here) first
rows_have stage servers leader workers controller carriers first others (suc m) seats here =
    let w = row_of workers m seats here
    in subst (λ (x : List (List Seated)). HaveReplies stage servers x (notes_by carriers m)) w.2 (others m w.0 w.1)

-- what the code has once all logs are taken and all seats are back
pub record IsOver (F : Rules) (stage : Stage) (servers : List Serving) (routes : List (Option MuxId)) (board : Board)
    (phases until : ℕ) (workers : List MuxWorker) (leader : List (List Seated)) (controller : List Note)
    (carriers : List (List Note)) (all : List (List Book)) : Type 0 where
  pub sound : IsSound stage
  pub servers_are : AreServersOf stage servers
  pub seats : (s : ℕ) (server : Serving) → slice_get servers s ≡ Some server → server.seats ≡ suc (length workers)
  pub commands : AtEach (IsCommanded stage) controller
  pub first : AllByRecursion (λ n. n.seat ≡ 0) controller
  pub replies : HaveReplies stage servers leader controller
  pub led_at : AllByRecursion (λ n. IsLedAt stage servers n.event.what) controller
  pub count : length carriers ≡ length workers
  pub each : (m : ℕ) (w : MuxWorker) → slice_get workers m ≡ Some w
      → IsGoing F stage servers routes (control_log stage controller) board phases until m w.mux w.caller
      (notes_by carriers m)
  pub synced : AllByRecursion (λ n. IsSynced stage (controller ++ notes_of_all carriers) n n.event.what) controller
  pub shown : (m : ℕ) (w : MuxWorker) → slice_get workers m ≡ Some w
      → IsPrefix w.mux.seen.clocks (posted_clocks (control_log stage controller))
  pub all_books_count : length all ≡ length servers
  pub books : (s : ℕ) (books : List Book) → slice_get all s ≡ Some books
      → AreBooksThere servers (rows_of leader workers) s books

over_done : (F : Rules) (stage : Stage) (servers : List Serving) (routes : List (Option MuxId)) (board : Board)
    (phases until : ℕ) (workers : List MuxWorker) (leader : List (List Seated)) (controller : List Note)
    (carriers : List (List Note)) (all : List (List Book))
    → IsOver F stage servers routes board phases until workers leader controller carriers all
    → AreDone stage servers (rows_of leader workers) controller carriers
over_done F stage servers routes board phases until workers leader controller carriers all over =
    let count = over.count
    in let lines : length (map (λ (w : MuxWorker). w.caller.seats) workers) ≡ length workers =
    length-map workers (λ (w : MuxWorker). w.caller.seats)
    in record {
      servers_are = over.servers_are;
      lines = omega arith;
      seats = λ s server here. (let n = over.seats s server here in omega arith);
      commands = all_kinds stage controller over.commands;
      first = over.first;
      others = notes_each (λ m n. n.seat ≡ suc m) carriers (λ m low.
          let w = there workers m (omega arith) in (over.each m w.0 w.1).left.seats);
      replies = rows_have stage servers leader workers controller carriers over.replies
          (λ m w here. (over.each m w here).replies);
      copies = λ m seats here.
          let w = row_of workers m seats here
          in let at = over.each m w.0 w.1
          in (
            w.0.mux.id,
            at.id,
            subst (λ (y : List (List Seated)). AreCopies stage w.0.mux.id servers
                (mux_log stage m (notes_by carriers m)) y) w.2
                (subst (λ (l : List Event). AreCopies stage w.0.mux.id servers l w.0.caller.seats) at.logged at.copies),
          );
    }

over_booked : (F : Rules) (stage : Stage) (servers : List Serving) (routes : List (Option MuxId)) (board : Board)
    (phases until : ℕ) (workers : List MuxWorker) (leader : List (List Seated)) (controller : List Note)
    (carriers : List (List Note)) (all : List (List Book))
    → IsOver F stage servers routes board phases until workers leader controller carriers all
    → AllByRecursion (λ n. IsBooked stage (all_books all) n.event.what) (controller ++ notes_of_all carriers)
over_booked F stage servers routes board phases until workers leader controller carriers all over =
    let count = over.count
    in let shards = over.sound.script.setting.shards.0
    in let rows = rows_of leader workers
    in let B : Note → Type 0 = λ n. IsBooked stage (all_books all) n.event.what
    in each_append B controller (notes_of_all carriers)
    (each_two (λ n. is_command n.event.what ≡ true) (λ n. IsLedAt stage servers n.event.what) B controller
    (λ n is at. led_booked stage servers rows all n.event.what over.servers_are over.all_books_count (omega arith)
    over.books is at) (all_kinds stage controller over.commands) over.led_at)
    (all_carried B carriers (λ m low.
    let w = there workers m (omega arith)
    in let one = over.each m w.0 w.1
    in each_two (λ n. carries m n.event.what ≡ true) (λ n. IsPlaced servers n.event.what) B (notes_by carriers m)
    (λ n is at. carried_booked stage servers rows all n.event.what over.servers_are over.all_books_count (omega arith)
    over.books (carried_no_command m n.event.what is) at) one.left.kinds one.placed))

pub over_left : (F : Rules) (stage : Stage) (servers : List Serving) (routes : List (Option MuxId)) (board : Board)
    (phases until : ℕ) (workers : List MuxWorker) (leader : List (List Seated)) (controller : List Note)
    (carriers : List (List Note)) (all : List (List Book))
    → IsOver F stage servers routes board phases until workers leader controller carriers all
    → AreLeft F stage controller carriers (all_books all)
over_left F stage servers routes board phases until workers leader controller carriers all over =
    let count = over.count
    in let rows = rows_of leader workers
    in let control = control_log stage controller
    in record {
      sound = over.sound;
      controls = underway stage controller over.commands;
      seats = over.first;
      synced = over.synced;
      each = λ m low.
          let w = there workers m (omega arith)
          in left_later F stage control [] w.0.mux.seen.clocks (posted_clocks control) m (notes_by carriers m)
          (over.shown m w.0 w.1) (over.each m w.0 w.1).left;
      kept = books_of_all stage servers rows controller carriers all
          (over_done F stage servers routes board phases until workers leader controller carriers all over) over.books;
      own = own_books servers rows all over.servers_are.rise over.books;
      booked = over_booked F stage servers routes board phases until workers leader controller carriers all over;
    }

-- TOGETHER

pub record IsEnded (R : Routes) (F : Rules) (stage : Stage) (servers : List Serving) (routes : List (Option MuxId))
    (board : Board) (p phases : ℕ) (workers : List MuxWorker) (leader : List (List Seated)) (controller : List Note)
    (carriers : List (List Note)) : Type 0 where
  pub sound : IsSound stage
  pub servers_are : AreServersOf stage servers
  pub seats : (s : ℕ) (server : Serving) → slice_get servers s ≡ Some server → server.seats ≡ suc (length workers)
  pub routed : AreRouted stage routes
  pub muxes : length workers ≡ stage.script.setting.muxes
  pub controls : IsController stage controller
  pub control : IsControl stage controller
  pub changes : newest (control_log stage controller) ≡ length stage.script.plan.changes
  pub replies : HaveReplies stage servers leader controller
  pub led_at : AllByRecursion (λ n. IsLedAt stage servers n.event.what) controller
  pub at_work : AreAtWork R F stage servers routes board p phases (length stage.capture.records) workers controller
      carriers
  pub looked : HaveLooked stage controller carriers
  -- the muxes were shown what was posted, and nothing else
  pub shown : (m : ℕ) (w : MuxWorker) → slice_get workers m ≡ Some w
      → IsPrefix w.mux.seen.clocks (posted_clocks (control_log stage controller))

all_steered : (R : Routes) (F : Rules) (stage : Stage) (servers : List Serving) (routes : List (Option MuxId))
    (board : Board) (p phases : ℕ) (workers : List MuxWorker) (leader : List (List Seated)) (controller : List Note)
    (carriers : List (List Note)) → IsEnded R F stage servers routes board p phases workers leader controller carriers
    → (k : ℕ) → many (λ n. steers_packet n.event.what k) (notes_of_all carriers) ≡ one_if (is_some (segment_of stage k))
all_steered R F stage servers routes board p phases workers leader controller carriers end k =
    let count = end.at_work.count
    in let muxes = end.muxes
    in let records = length stage.capture.records
    in let sum = notes_upto (λ n. one_if (steers_packet n.event.what k)) carriers
    in let each = seats_same (λ w. total (λ n. one_if (steers_packet n.event.what k)) (notes_by carriers w))
    (λ w. one_if ((ltb 0 k && leb k records) && is_mux (assigned_mux routes k) w)) (length carriers) (λ m low.
    let w = there workers m (omega arith) in (end.at_work.each m w.0 w.1).steered k)
    in let one = one_mux (ltb 0 k && leb k records) (assigned_mux routes k) (length carriers)
    in let whole : length carriers ≡ stage.script.setting.muxes = count ∙ muxes
    in sum ∙ each ∙ one ∙ ap (λ (n : ℕ). one_if ((ltb 0 k && leb k records) && is_under (assigned_mux routes k) n)) whole
    ∙ packet_once stage routes k end.routed

all_tt : (x : List Note) → AllByRecursion (λ (n : Note). Unit {0}) x
all_tt [] = tt
all_tt (n ∷ x) = (tt, all_tt x)

-- what the workers and the books have given back
pub ended : (R : Routes) (F : Rules) (stage : Stage) (servers : List Serving) (routes : List (Option MuxId))
    (board : Board) (p phases : ℕ) (workers : List MuxWorker) (leader : List (List Seated)) (controller : List Note)
    (carriers : List (List Note)) (all : List (List Book))
    → IsEnded R F stage servers routes board p phases workers leader controller carriers → length all ≡ length servers
    → ((s : ℕ) (books : List Book) → slice_get all s ≡ Some books
    → AreBooksThere servers (rows_of leader workers) s books)
    → AreHandedBack R F stage controller carriers (all_books all)
ended R F stage servers routes board p phases workers leader controller carriers all end count books =
    let at = end.at_work
    in let long = at.count
    in let muxes = end.muxes
    in let control = control_log stage controller
    in let over : IsOver F stage servers routes board phases (length stage.capture.records) workers leader controller
    carriers all = record {
      sound = end.sound;
      servers_are = end.servers_are;
      seats = end.seats;
      commands = end.controls.each;
      first = end.control.seats;
      replies = end.replies;
      led_at = end.led_at;
      count = long;
      each = λ m w here. (at.each m w here).going;
      synced = all_synced stage at.all (controller ++ notes_of_all carriers) controller
          (λ f. let s = at.same f in omega arith) at.phased.met;
      shown = end.shown;
      all_books_count = count;
      books = books;
    }
    in record {
      left = over_left F stage servers routes board phases (length stage.capture.records) workers leader controller
          carriers all over;
      muxes = long ∙ muxes;
      controls = end.controls;
      control = end.control;
      carried = λ m low.
          let w = there workers m (omega arith)
          in carriage_later R F stage control [] w.0.mux.seen.clocks (posted_clocks control) m (notes_by carriers m)
          (each_so (λ n. Unit {0}) (λ n. AllByRecursion (λ (z : Event). n.event.clock.0 < z.clock.0) [])
          (notes_by carriers m)
          (λ n t. tt) (all_tt (notes_by carriers m))) (end.shown m w.0 w.1) (at.each m w.0 w.1).carriage;
      steered = all_steered R F stage servers routes board p phases workers leader controller carriers end;
      met = at_change (λ rest n. IsMet stage at.all (events_of rest) n n.event.what)
          (λ rest n. IsMet stage (controller ++ notes_of_all carriers) (events_of rest) n n.event.what)
          (home_part stage Controller controller)
          (λ rest n h. met_shared stage at.all (controller ++ notes_of_all carriers) (events_of rest) n n.event.what
          at.same h)
          at.phased.met;
      changes = end.changes;
      looked = end.looked;
    }
