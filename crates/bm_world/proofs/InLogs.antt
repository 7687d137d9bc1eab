-- What the workers gave back stands in the logs, and nothing else does.
use Rattle.std.proofs.Common.{◌≡◌, ℕ, zero, suc, ◌+◌, ◌<◌, ◌≤◌, Bool, true, false, cond, ◌&&◌, ◌||◌, List, [], ◌∷◌}
use Rattle.std.proofs.Common.{◌++◌, length}
use Rattle.std.proofs.Common.{Option, Some, None, refl, sym, subst, arith, eqb, ltb, inl, inr}
use Rattle.std.specs.Prelude.{IfSome, is_some, ◌-◌, option_map}
use Rattle.std.specs.List.{AllByRecursion}
use Rattle.std.proofs.lemmas.Bool.{cases_lt, eq-eqb, eqb-true, and_parts, and_from, le-leb}
use Rattle.bm_base.specs.declared.label.Hop.{Hop}
use Rattle.bm_base.proofs.Hops.{same_hop_refl}
use Rattle.bm_base.specs.declared.flow.Segment.{Segment}
use Rattle.bm_core.specs.declared.events.Event.{Event}
use Rattle.bm_core.specs.declared.events.Stage.{Stage}
use Rattle.bm_core.specs.declared.events.What.{What}
use Rattle.bm_core.specs.declared.events.What.TheVariants.{Publish, Switch, Steer, Lose, Arrive, Close, Retire, Sync}
use Rattle.bm_core.specs.Past.{segment_of, shard, sends, same_hop}
use Rattle.bm_core.specs.Accounts.{Routes, Rules, count_of, steers_packet, arrives, loses}
use Rattle.bm_core.specs.Runs.Actor.{Controller, MuxOf, ShardOf}
use Rattle.bm_core.specs.Threads.{is_command}
use Rattle.bm_shard.specs.Books.{Book}
use Rattle.bm_merge.specs.Merges.{Log, gathered, some_event, has_actor, IsSentBefore}
use Rattle.bm_merge.specs.Notes.{Note, events_of, plain, all_notes, total, many}
use Rattle.bm_merge.specs.Workers.{home_of, has_log, notes_by, notes_of_all, carries, HaveHomes, HaveSeats}
use Rattle.bm_merge.specs.Workers.{HasSending}
use Rattle.bm_merge.specs.Workers.{IsCarrier, is_lost, is_copyless, has_come, copies_below}
use Rattle.bm_merge.proofs.Keeping.{no_notes}
use Rattle.bm_merge.proofs.Noting.{total_append, total_none, total_most, events_gathered, counts_notes, each_append}
use Rattle.bm_merge.proofs.Noting.{each_always}
use Rattle.bm_merge.proofs.Reaching.{one_if}
use Rattle.bm_merge.proofs.Sharing.{shared, all_by_seat}
use Rattle.bm_core.specs.Runs.{AtEach}
use Rattle.bm_merge.specs.Workers.{IsUnderway}
use Rattle.bm_world.specs.Inside.HandedBack.{AreHandedBack}
use Rattle.bm_world.specs.Inside.Left.{AreLeft, IsSteerable}
use Rattle.bm_world.specs.Inside.Returned.{IsBookOfAll, has_book, IsBooked}
use Rattle.bm_world.proofs.Logs.{logs_of, AreWorkers, are_seated, own_logs, has_mux, has_book_log}

-- THE WORKERS

pub notes_each : (P : ℕ → Note → Type 0) (carriers : List (List Note))
    → ((m : ℕ) → m < length carriers → AllByRecursion (P m) (notes_by carriers m))
    → (m : ℕ) → AllByRecursion (P m) (notes_by carriers m)
notes_each P carriers each m = elim (cases_lt m (length carriers)) [
  | inl low ↦ each m low
  | inr high ↦ subst (λ (x : List Note). AllByRecursion (P m) x) (sym (no_notes carriers m high)) tt
]

pub kinds_of : (stage : Stage) (x : List Note) → AtEach (IsUnderway stage) x
    → AllByRecursion (λ n. is_command n.event.what ≡ true) x
kinds_of stage [] each = tt
kinds_of stage (n ∷ x) each = (each.0.kind, kinds_of stage x each.1)

pub left_workers : (F : Rules) (stage : Stage) (controller : List Note) (carriers : List (List Note)) (books : List Book)
    → AreLeft F stage controller carriers books → AreWorkers controller carriers
left_workers F stage controller carriers books left = record {
  commands = kinds_of stage controller left.controls;
  first = left.seats;
  kinds = notes_each (λ m n. carries m n.event.what ≡ true) carriers (λ m low. (left.each m low).kinds);
  seats = notes_each (λ m n. n.seat ≡ suc m) carriers (λ m low. (left.each m low).seats);
}

-- what holds of what each mux's worker did holds of all
pub all_carried : (P : Note → Type 0) (carriers : List (List Note))
    → ((m : ℕ) → m < length carriers → AllByRecursion P (notes_by carriers m)) → AllByRecursion P (notes_of_all carriers)
all_carried P [] each = tt
all_carried P (d ∷ carriers) each =
    each_append P d (notes_of_all carriers) (each 0 (omega arith))
    (all_carried P carriers (λ m low. each (suc m) (omega arith)))

-- what each of them is
all_together : (P Q S : Note → Type 0) (x : List Note) → ((n : Note) → P n → Q n → S n) → AllByRecursion P x
    → AllByRecursion Q x → AllByRecursion S x
all_together P Q S [] f ps qs = tt
all_together P Q S (n ∷ x) f ps qs = (f n ps.0 qs.0, all_together P Q S x f ps.1 qs.1)

all_first : (P : Note → Type 0) (x y : List Note) → AllByRecursion P (x ++ y) → AllByRecursion P x
all_first P [] y all = tt
all_first P (n ∷ x) y all = (all.0, all_first P x y all.1)

all_rest : (P : Note → Type 0) (x y : List Note) → AllByRecursion P (x ++ y) → AllByRecursion P y
all_rest P [] y all = all
all_rest P (n ∷ x) y all = all_rest P x y all.1

pub all_of_worker : (P : Note → Type 0) (carriers : List (List Note)) (m : ℕ) → AllByRecursion P (notes_of_all carriers)
    → AllByRecursion P (notes_by carriers m)
all_of_worker P [] m all = tt
all_of_worker P (d ∷ carriers) zero all = all_first P d (notes_of_all carriers) all
all_of_worker P (d ∷ carriers) (suc m) all = all_of_worker P carriers m (all_rest P d (notes_of_all carriers) all)

-- a part of the sum
pub total_of_worker : (f : Note → ℕ) (carriers : List (List Note)) (m : ℕ)
    → total f (notes_by carriers m) ≤ total f (notes_of_all carriers)
total_of_worker f [] m = omega arith
total_of_worker f (d ∷ carriers) zero = let a = total_append f d (notes_of_all carriers) in omega arith
total_of_worker f (d ∷ carriers) (suc m) =
    let a = total_append f d (notes_of_all carriers) in let old = total_of_worker f carriers m in omega arith

-- HOMES

has_control : (stage : Stage) (controller : List Note) (carriers : List (List Note)) (books : List Book)
    (all : AllByRecursion (IsBookOfAll stage controller carriers) books)
    → has_actor (plain (logs_of stage controller carriers books all)) Controller ≡ true
has_control stage controller carriers books all = refl

pub command_home : (stage : Stage) (controller : List Note) (carriers : List (List Note)) (books : List Book)
    (all : AllByRecursion (IsBookOfAll stage controller carriers) books) (seat : ℕ) (what : What)
    → is_command what ≡ true → IsBooked stage books what
    → has_log (plain (logs_of stage controller carriers books all)) (home_of stage seat what) ≡ true
command_home stage controller carriers books all seat (Publish v) is booked = refl
command_home stage controller carriers books all seat Sync is booked = refl
command_home stage controller carriers books all seat (Close server flow closed) is booked =
    has_book_log stage controller carriers books all server.0 (shard stage flow) booked
command_home stage controller carriers books all seat (Retire server h moment result) is booked =
    has_book_log stage controller carriers books all server.0 h booked
command_home stage controller carriers books all seat (Switch m v) is booked = absurd (cc)
command_home stage controller carriers books all seat (Steer k m) is booked = absurd (cc)
command_home stage controller carriers books all seat (Lose k hop) is booked = absurd (cc)
command_home stage controller carriers books all seat (Arrive k hop server verdict) is booked = absurd (cc)

arrival_home : (stage : Stage) (logs : List Log) (server : ℕ) (o : Option Segment) → is_some o ≡ true
    → IfSome o (λ s. has_actor logs (ShardOf server (shard stage s.flow)) ≡ true)
    → has_log logs (option_map (λ (s : Segment). ShardOf server (shard stage s.flow)) o) ≡ true
arrival_home stage logs server None is has = absurd (cc)
arrival_home stage logs server (Some s) is has = has

if_some : {A : Type 0} (P Q : A → Type 0) (o : Option A) → ((x : A) → P x → Q x) → IfSome o P → IfSome o Q
if_some P Q None f h = tt
if_some P Q (Some x) f h = f x h

pub carried_home : (stage : Stage) (controller : List Note) (carriers : List (List Note)) (books : List Book)
    (all : AllByRecursion (IsBookOfAll stage controller carriers) books) (m seat : ℕ) (what : What)
    → m < length carriers → carries m what ≡ true → seat ≡ suc m → IsBooked stage books what
    → ((k : ℕ) → 1 ≤ many (λ n. steers_packet n.event.what k) (notes_by carriers m)
    → is_some (segment_of stage k) ≡ true)
    → ((k : ℕ) (hop : Hop) → arrives what k hop ≡ true
    → 1 ≤ many (λ n. steers_packet n.event.what k) (notes_by carriers m))
    → has_log (plain (logs_of stage controller carriers books all)) (home_of stage seat what) ≡ true
carried_home stage controller carriers books all m seat (Switch x v) low is at booked known has_sending =
    subst (λ (p : ℕ). has_actor (plain (logs_of stage controller carriers books all)) (MuxOf p) ≡ true)
    (sym (eqb-true _ _ is)) (has_mux stage controller carriers books all m low)
carried_home stage controller carriers books all m seat (Steer k x) low is at booked known has_sending =
    subst (λ (p : ℕ). has_actor (plain (logs_of stage controller carriers books all)) (MuxOf p) ≡ true)
    (sym (eqb-true _ _ is)) (has_mux stage controller carriers books all m low)
carried_home stage controller carriers books all m seat (Lose k hop) low is at booked known has_sending =
    let here : m ≡ seat - 1 = omega arith
    in subst (λ (p : ℕ). has_actor (plain (logs_of stage controller carriers books all)) (MuxOf p) ≡ true) here
    (has_mux stage controller carriers books all m low)
carried_home stage controller carriers books all m seat (Arrive k hop server verdict) low is at booked known has_sending =
    let mine : arrives (Arrive k hop server verdict) k hop ≡ true = and_from _ _ (eq-eqb _ _ refl) (same_hop_refl hop)
    in arrival_home stage (plain (logs_of stage controller carriers books all)) server.0 (segment_of stage k)
    (known k (has_sending k hop mine))
    (if_some (λ s. has_book books server.0 (shard stage s.flow) ≡ true)
    (λ s. has_actor (plain (logs_of stage controller carriers books all)) (ShardOf server.0 (shard stage s.flow))
    ≡ true)
    (segment_of stage k)
    (λ s has. has_book_log stage controller carriers books all server.0 (shard stage s.flow) has) booked)
carried_home stage controller carriers books all m seat (Publish v) low is at booked known has_sending = absurd (cc)
carried_home stage controller carriers books all m seat (Close server flow closed) low is at booked known has_sending =
    absurd (cc)
carried_home stage controller carriers books all m seat (Retire server h moment result) low is at booked known has_sending =
    absurd (cc)
carried_home stage controller carriers books all m seat Sync low is at booked known has_sending = absurd (cc)

-- AMONG THE NOTES

among_more : (f : Note → Bool) (x : List Note) (n : Note) → 1 ≤ many f x → 1 ≤ many f (n ∷ x)
among_more f x n one = omega arith

each_more : (P Q : Note → Type 0) (x : List Note) → ((n : Note) → P n → Q n) → AllByRecursion P x → AllByRecursion Q x
each_more P Q [] f ps = tt
each_more P Q (n ∷ x) f ps = (f n ps.0, each_more P Q x f ps.1)

abbrev pub IsAmong : List Note → Note → Type 0
IsAmong x n = (f : Note → Bool) → f n ≡ true → 1 ≤ many f x

pub all_among : (x : List Note) → AllByRecursion (IsAmong x) x
all_among [] = tt
all_among (n ∷ x) = (
  (λ f is. rw is (omega arith)),
  each_more (IsAmong x) (IsAmong (n ∷ x)) x (λ y h f is. among_more f x n (h f is)) (all_among x),
)

pub arrives_has_sending : (notes : List Note) (n : Note) (what : What) (k : ℕ) (hop : Hop) → HasSending notes n what
    → arrives what k hop ≡ true → 1 ≤ many (λ y. steers_packet y.event.what k) notes
arrives_has_sending notes n (Arrive packet h server verdict) k hop has_sending is =
    let same : packet ≡ k = eqb-true _ _ (and_parts (eqb packet k) (same_hop h hop) is).0
    in subst (λ (p : ℕ). 1 ≤ many (λ y. steers_packet y.event.what p) notes) same has_sending.0
arrives_has_sending notes n (Publish v) k hop has_sending is = absurd (cc)
arrives_has_sending notes n (Switch m v) k hop has_sending is = absurd (cc)
arrives_has_sending notes n (Steer j m) k hop has_sending is = absurd (cc)
arrives_has_sending notes n (Lose j h) k hop has_sending is = absurd (cc)
arrives_has_sending notes n (Close server flow closed) k hop has_sending is = absurd (cc)
arrives_has_sending notes n (Retire server h moment result) k hop has_sending is = absurd (cc)
arrives_has_sending notes n Sync k hop has_sending is = absurd (cc)

all_four : (A B C D S : Note → Type 0) (x : List Note) → ((n : Note) → A n → B n → C n → D n → S n)
    → AllByRecursion A x → AllByRecursion B x → AllByRecursion C x → AllByRecursion D x → AllByRecursion S x
all_four A B C D S [] f a b c d = tt
all_four A B C D S (n ∷ x) f a b c d = (f n a.0 b.0 c.0 d.0, all_four A B C D S x f a.1 b.1 c.1 d.1)

steers_one : (stage : Stage) (what : What) (k : ℕ) → IsSteerable stage what → steers_packet what k ≡ true
    → is_some (segment_of stage k) ≡ true
steers_one stage (Steer j m) k steerable is =
    let same : j ≡ k = eqb-true _ _ is in subst (λ (i : ℕ). is_some (segment_of stage i) ≡ true) same steerable
steers_one stage (Publish v) k steerable is = absurd (cc)
steers_one stage (Switch m v) k steerable is = absurd (cc)
steers_one stage (Lose j hop) k steerable is = absurd (cc)
steers_one stage (Arrive j hop server verdict) k steerable is = absurd (cc)
steers_one stage (Close server flow closed) k steerable is = absurd (cc)
steers_one stage (Retire server h moment result) k steerable is = absurd (cc)
steers_one stage Sync k steerable is = absurd (cc)

pub steered_known : (stage : Stage) (x : List Note) (k : ℕ) → AllByRecursion (λ n. IsSteerable stage n.event.what) x
    → 1 ≤ many (λ n. steers_packet n.event.what k) x → is_some (segment_of stage k) ≡ true
steered_known stage [] k all one = absurd (omega arith)
steered_known stage (n ∷ x) k all one =
    go (steers_packet n.event.what k) refl one (λ h. steered_known stage x k all.1 h) where
      go : (b : Bool) → steers_packet n.event.what k ≡ b → 1 ≤ one_if b + many (λ y. steers_packet y.event.what k) x
          → (1 ≤ many (λ y. steers_packet y.event.what k) x → is_some (segment_of stage k) ≡ true)
          → is_some (segment_of stage k) ≡ true
      go true is h old = steers_one stage n.event.what k all.0 is
      go false is h old = old (omega arith)

-- each note has its log
pub left_homes : (F : Rules) (stage : Stage) (controller : List Note) (carriers : List (List Note)) (books : List Book)
    (left : AreLeft F stage controller carriers books)
    → HaveHomes stage (logs_of stage controller carriers books left.kept) (notes_of_all (controller ∷ carriers))
left_homes F stage controller carriers books left =
    let logs = logs_of stage controller carriers books left.kept
    in let P : Note → Type 0 = λ n. has_log (plain logs) (home_of stage n.seat n.event.what) ≡ true
    in let are = left_workers F stage controller carriers books left
    in let Q : Note → Type 0 = λ n. IsBooked stage books n.event.what
    in each_append P controller (notes_of_all carriers)
    (all_together (λ n. is_command n.event.what ≡ true) Q P controller
    (λ n is booked. command_home stage controller carriers books left.kept n.seat n.event.what is booked)
    are.commands (all_first Q controller (notes_of_all carriers) left.booked))
    (all_carried P carriers (λ m low.
    let one = left.each m low
    in all_four (λ n. carries m n.event.what ≡ true) (λ n. n.seat ≡ suc m) Q
    (λ n. HasSending (notes_by carriers m) n n.event.what) P (notes_by carriers m)
    (λ n is at booked has_sending.
    carried_home stage controller carriers books left.kept m n.seat n.event.what low is at booked
    (λ k h. steered_known stage (notes_by carriers m) k one.steerable h)
    (λ k hop h. arrives_has_sending (notes_by carriers m) n n.event.what k hop has_sending h))
    one.kinds one.seats (all_of_worker Q carriers m (all_rest Q controller (notes_of_all carriers) left.booked)) one.has_sending))

below_all : (w n : ℕ) (x : List Note) → w < n → AllByRecursion (λ y. y.seat ≡ w) x → AllByRecursion (λ y. y.seat < n) x
below_all w n x low all = each_more (λ y. y.seat ≡ w) (λ y. y.seat < n) x (λ y h. omega arith) all

seats_below : (controller : List Note) (carriers : List (List Note)) → AreWorkers controller carriers → (w : ℕ)
    → AllByRecursion (λ y. y.seat < suc (length carriers)) (notes_by (controller ∷ carriers) w)
seats_below controller carriers are zero =
    below_all 0 (suc (length carriers)) controller (omega arith) are.first
seats_below controller carriers are (suc m) = elim (cases_lt m (length carriers)) [
  | inl low ↦ below_all (suc m) (suc (length carriers)) (notes_by carriers m) (omega arith) (are.seats m)
  | inr high ↦ subst (λ (x : List Note). AllByRecursion (λ y. y.seat < suc (length carriers)) x)
      (sym (no_notes carriers m high)) tt
]

pub have_seats : (stage : Stage) (controller : List Note) (carriers : List (List Note)) (books : List Book)
    (all : AllByRecursion (IsBookOfAll stage controller carriers) books) → AreWorkers controller carriers
    → HaveSeats (suc (length carriers)) (logs_of stage controller carriers books all)
have_seats stage controller carriers books all are =
    all_by_seat (λ w n. n.seat < suc (length carriers)) stage (logs_of stage controller carriers books all)
    (controller ∷ carriers) (are_seated stage controller carriers books all are) (seats_below controller carriers are)

-- all that the workers did is all that the logs have
pub left_shared : (F : Rules) (stage : Stage) (controller : List Note) (carriers : List (List Note)) (books : List Book)
    (left : AreLeft F stage controller carriers books) (f : Note → ℕ)
    → total f (all_notes (logs_of stage controller carriers books left.kept))
    ≡ total f (controller ++ notes_of_all carriers)
left_shared F stage controller carriers books left f =
    let are = left_workers F stage controller carriers books left
    in shared stage (logs_of stage controller carriers books left.kept) (controller ∷ carriers)
    (own_logs stage controller carriers books left.kept left.own)
    (are_seated stage controller carriers books left.kept are)
    (have_seats stage controller carriers books left.kept are)
    (left_homes F stage controller carriers books left) f

-- no packet has two Steers
no_steer : (what : What) (k : ℕ) → is_command what ≡ true → steers_packet what k ≡ false
no_steer (Publish v) k is = refl
no_steer (Close server flow closed) k is = refl
no_steer (Retire server h moment result) k is = refl
no_steer Sync k is = refl
no_steer (Switch m v) k is = absurd (cc)
no_steer (Steer j m) k is = absurd (cc)
no_steer (Lose j h) k is = absurd (cc)
no_steer (Arrive packet h server verdict) k is = absurd (cc)

at_most_one : (b : Bool) → one_if b ≤ 1
at_most_one true = omega arith
at_most_one false = omega arith

pub steered_once : (R : Routes) (F : Rules) (stage : Stage) (controller : List Note) (carriers : List (List Note))
    (books : List Book) (back : AreHandedBack R F stage controller carriers books) (k : ℕ)
    → count_of (λ e. steers_packet e.what k)
    (gathered (plain (logs_of stage controller carriers books back.left.kept))) ≤ 1
steered_once R F stage controller carriers books back k =
    let logs = logs_of stage controller carriers books back.left.kept
    in let f : Note → ℕ = λ n. one_if (steers_packet n.event.what k)
    in let same = counts_notes (λ what. steers_packet what k) (all_notes logs)
    in let sum = left_shared F stage controller carriers books back.left f
    in let parts = total_append f controller (notes_of_all carriers)
    in let none : total f controller ≡ 0 = total_none f controller
    (each_more (λ n. is_command n.event.what ≡ true) (λ n. f n ≡ 0) controller
    (λ n is. let not = no_steer n.event.what k is in rw not refl)
    (left_workers F stage controller carriers books back.left).commands)
    in let whole = back.steered k
    in let most = at_most_one (is_some (segment_of stage k))
    in let few : many (λ n. steers_packet n.event.what k) (all_notes logs) ≤ 1 = omega arith
    in subst (λ (l : List Event). count_of (λ e. steers_packet e.what k) l ≤ 1) (events_gathered logs)
    (omega (arith, same, few))

-- SENDINGS

some_of_many : (g : Event → Bool) (x : List Note) → 1 ≤ many (λ n. g n.event) x → some_event g (events_of x) ≡ true
some_of_many g [] one = absurd (omega arith)
some_of_many g (n ∷ x) one = go (g n.event) one (some_of_many g x) where
  go : (b : Bool) → 1 ≤ one_if b + many (λ y. g y.event) x
      → (1 ≤ many (λ y. g y.event) x → some_event g (events_of x) ≡ true) → (b || some_event g (events_of x)) ≡ true
  go true h old = refl
  go false h old = old (omega arith)

-- what one worker did is in the logs
pub note_logged : (R : Routes) (F : Rules) (stage : Stage) (controller : List Note) (carriers : List (List Note))
    (books : List Book) (back : AreHandedBack R F stage controller carriers books) (m : ℕ) (g : Event → Bool)
    → 1 ≤ many (λ n. g n.event) (notes_by carriers m)
    → some_event g (gathered (plain (logs_of stage controller carriers books back.left.kept))) ≡ true
note_logged R F stage controller carriers books back m g one =
    let logs = logs_of stage controller carriers books back.left.kept
    in let f : Note → ℕ = λ n. one_if (g n.event)
    in let sum = left_shared F stage controller carriers books back.left f
    in let parts = total_append f controller (notes_of_all carriers)
    in let part = total_of_worker f carriers m
    in subst (λ (l : List Event). some_event g l ≡ true) (events_gathered logs)
    (some_of_many g (all_notes logs) (omega arith))

copies_some : (k : ℕ) (hop : Hop) (clock : ℕ) (x : List Note) → 1 ≤ total (copies_below k hop clock) x
    → 1 ≤ many (λ n. sends n.event.what k hop && ltb n.event.clock.0 clock) x
copies_some k hop clock [] one = absurd (omega arith)
copies_some k hop clock (n ∷ x) one =
    go (sends n.event.what k hop && ltb n.event.clock.0 clock) one (copies_some k hop clock x) where
      go : (b : Bool) → 1 ≤ cond b n.fate.copies 0 + total (copies_below k hop clock) x
          → (1 ≤ total (copies_below k hop clock) x
          → 1 ≤ many (λ y. sends y.event.what k hop && ltb y.event.clock.0 clock) x)
          → 1 ≤ one_if b + many (λ y. sends y.event.what k hop && ltb y.event.clock.0 clock) x
      go true h old = omega arith
      go false h old = let more = old (omega arith) in omega arith

copyless_some : (k : ℕ) (hop : Hop) (clock : ℕ) (x : List Note) → 1 ≤ many (is_copyless k hop clock) x
    → 1 ≤ many (λ n. sends n.event.what k hop && eqb n.event.clock.0 clock) x
copyless_some k hop clock x one =
    let most = total_most (λ n. one_if (is_copyless k hop clock n))
    (λ n. one_if (sends n.event.what k hop && eqb n.event.clock.0 clock)) x
    (each_always (λ n. one_if (is_copyless k hop clock n)
    ≤ one_if (sends n.event.what k hop && eqb n.event.clock.0 clock))
    (λ n. go (sends n.event.what k hop) (eqb n.fate.copies 0) (eqb n.event.clock.0 clock)) x)
    in omega arith where
      go : (a b c : Bool) → one_if (a && (b && c)) ≤ one_if (a && c)
      go true true c = omega arith
      go true false c = omega arith
      go false b c = omega arith

-- a copy has its sending at a lower clock in the logs, and a loss has its own
sent_one : (R : Routes) (F : Rules) (stage : Stage) (controller : List Note) (carriers : List (List Note))
    (books : List Book) (back : AreHandedBack R F stage controller carriers books) (m : ℕ)
    → IsCarrier R F stage m (notes_by carriers m) → (n : Note) → IsAmong (notes_by carriers m) n
    → 0 < n.event.clock.0 → (what : What) → n.event.what ≡ what
    → IsSentBefore (plain (logs_of stage controller carriers books back.left.kept)) n.event.clock.0 what
sent_one R F stage controller carriers books back m c n among low (Arrive k hop server verdict) is =
    let mine : arrives n.event.what k hop ≡ true = rw is (and_from _ _ (eq-eqb _ _ refl) (same_hop_refl hop))
    in let come : 1 ≤ many (has_come k hop n.event.clock.0) (notes_by carriers m) =
    among (has_come k hop n.event.clock.0) (and_from _ _ mine (le-leb _ _ (omega arith)))
    in let sent = c.sent k hop n.event.clock.0
    in note_logged R F stage controller carriers books back m
    (λ e. sends e.what k hop && ltb e.clock.0 n.event.clock.0)
    (copies_some k hop n.event.clock.0 (notes_by carriers m) (omega arith))
sent_one R F stage controller carriers books back m c n among low (Lose k hop) is =
    let mine : loses n.event.what k hop ≡ true = rw is (and_from _ _ (eq-eqb _ _ refl) (same_hop_refl hop))
    in let clock = n.event.clock.0 - 1
    in let next : n.event.clock.0 ≡ suc clock = omega arith
    in let lost : 1 ≤ many (is_lost k hop (suc clock)) (notes_by carriers m) =
    among (is_lost k hop (suc clock)) (and_from _ _ mine (eq-eqb _ _ next))
    in let same = c.lost k hop clock
    in (
      clock,
      omega arith,
      note_logged R F stage controller carriers books back m (λ e. sends e.what k hop && eqb e.clock.0 clock)
          (copyless_some k hop clock (notes_by carriers m) (omega arith)),
    )
sent_one R F stage controller carriers books back m c n among low (Publish v) is = tt
sent_one R F stage controller carriers books back m c n among low (Switch x v) is = tt
sent_one R F stage controller carriers books back m c n among low (Steer k x) is = tt
sent_one R F stage controller carriers books back m c n among low (Close server flow closed) is = tt
sent_one R F stage controller carriers books back m c n among low (Retire server h moment result) is = tt
sent_one R F stage controller carriers books back m c n among low Sync is = tt

pub all_sent : (R : Routes) (F : Rules) (stage : Stage) (controller : List Note) (carriers : List (List Note))
    (books : List Book) (back : AreHandedBack R F stage controller carriers books) (m : ℕ) → m < length carriers
    → AllByRecursion (λ n. IsSentBefore (plain (logs_of stage controller carriers books back.left.kept)) n.event.clock.0
    n.event.what) (notes_by carriers m)
all_sent R F stage controller carriers books back m low =
    all_together (IsAmong (notes_by carriers m)) (λ n. 0 < n.event.clock.0)
    (λ n. IsSentBefore (plain (logs_of stage controller carriers books back.left.kept)) n.event.clock.0 n.event.what)
    (notes_by carriers m)
    (λ n among positive. sent_one R F stage controller carriers books back m (back.carried m low).carrier n among
    positive n.event.what refl) (all_among (notes_by carriers m)) (back.carried m low).positive
