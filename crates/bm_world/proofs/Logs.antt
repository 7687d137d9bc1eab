-- The logs of a run: the controller's, those of the muxes, and those of the shards. They have just what the workers
-- did.
use Rattle.std.proofs.Common.{◌≡◌, ℕ, zero, suc, ◌+◌, ◌<◌, Bool, true, false, ◌||◌, List, [], ◌∷◌}
use Rattle.std.proofs.Common.{◌++◌, length}
use Rattle.std.proofs.Common.{refl, sym, ap, ◌∙◌, subst, arith, eqb, inl, inr}
use Rattle.std.specs.Prelude.{reverse}
use Rattle.std.specs.List.{AllByRecursion}
use Rattle.std.proofs.lemmas.Bool.{cases_eq, eq-eqb, ne_eqb, or_parts}
use Rattle.bm_core.specs.declared.events.Stage.{Stage}
use Rattle.bm_core.specs.declared.events.What.TheVariants.{Sync}
use Rattle.bm_core.specs.Runs.{Actor, same_actor}
use Rattle.bm_core.specs.Runs.Actor.{Controller, MuxOf, ShardOf}
use Rattle.bm_core.specs.Threads.{is_command}
use Rattle.bm_shard.specs.Books.{Book}
use Rattle.bm_merge.specs.Merges.{has_actor, HaveOwnLogs, named}
use Rattle.bm_merge.specs.Notes.{Note, NotedLog, events_of, plain}
use Rattle.bm_merge.specs.Workers.{is_home, home_part, seat_part, notes_by, carries, IsSeated, AreSeated}
use Rattle.bm_world.specs.Inside.Shards.{notes_of}
use Rattle.bm_world.specs.Inside.Returned.{IsBookOfAll, has_book, HaveOwnBooks}
use Rattle.bm_world.proofs.Homes.{seat_all, seat_none, home_none, home_each, command_not_mux, carried_not_control}
use Rattle.bm_world.proofs.Homes.{carried_not_other}
use Rattle.bm_world.proofs.Seated.{AreSeatedNotes, seated_notes}

-- THE LOGS

-- the muxes' logs, from that of mux m on
abbrev pub mux_logs : Stage → ℕ → List (List Note) → List NotedLog
mux_logs stage m [] = []
mux_logs stage m (d ∷ carriers) =
    record { actor = MuxOf m; notes = home_part stage (MuxOf m) d } ∷ mux_logs stage (suc m) carriers

-- what stands for a note where there is none
no_note : Note
no_note = record {
  event = record { clock = record { 0 = 0 }; what = Sync };
  fate = record { copies = 0; delay = 0 };
  command = 0;
  due = 0;
  seat = 0;
}

-- the notes of a book
pub book_notes : (stage : Stage) (controller : List Note) (carriers : List (List Note)) (b : Book)
    → IsBookOfAll stage controller carriers b
    → AreSeatedNotes (reverse b.entries)
    (λ w. home_part stage (ShardOf b.shard.server.0 b.shard.number) (notes_by (controller ∷ carriers) w))
book_notes stage controller carriers b is = seated_notes no_note (reverse b.entries) _ is.noted

-- the shards' logs
abbrev pub shard_logs : (stage : Stage) (controller : List Note) (carriers : List (List Note)) (books : List Book)
    → AllByRecursion (IsBookOfAll stage controller carriers) books → List NotedLog
shard_logs stage controller carriers [] all = []
shard_logs stage controller carriers (b ∷ books) all =
    record {
      actor = ShardOf b.shard.server.0 b.shard.number;
      notes = notes_of (book_notes stage controller carriers b all.0).kept;
    }
    ∷ shard_logs stage controller carriers books all.1

-- all logs
abbrev pub logs_of : (stage : Stage) (controller : List Note) (carriers : List (List Note)) (books : List Book)
    → AllByRecursion (IsBookOfAll stage controller carriers) books → List NotedLog
logs_of stage controller carriers books all =
    record { actor = Controller; notes = home_part stage Controller controller }
    ∷ mux_logs stage 0 carriers ++ shard_logs stage controller carriers books all

-- WHO NOTED WHAT

-- the workers' kinds and seats
pub record AreWorkers (controller : List Note) (carriers : List (List Note)) : Type 0 where
  pub commands : AllByRecursion (λ n. is_command n.event.what ≡ true) controller
  pub first : AllByRecursion (λ n. n.seat ≡ 0) controller
  pub kinds : (m : ℕ) → AllByRecursion (λ n. carries m n.event.what ≡ true) (notes_by carriers m)
  pub seats : (m : ℕ) → AllByRecursion (λ n. n.seat ≡ suc m) (notes_by carriers m)

all_two : (P Q S : Note → Type 0) (x : List Note) → ((n : Note) → P n → Q n → S n) → AllByRecursion P x
    → AllByRecursion Q x → AllByRecursion S x
all_two P Q S [] f ps qs = tt
all_two P Q S (n ∷ x) f ps qs = (f n ps.0 qs.0, all_two P Q S x f ps.1 qs.1)

all_one : (P S : Note → Type 0) (x : List Note) → ((n : Note) → P n → S n) → AllByRecursion P x → AllByRecursion S x
all_one P S [] f ps = tt
all_one P S (n ∷ x) f ps = (f n ps.0, all_one P S x f ps.1)

controller_seated : (stage : Stage) (controller : List Note) (carriers : List (List Note))
    → AreWorkers controller carriers
    → IsSeated stage (record { actor = Controller; notes = home_part stage Controller controller })
    (controller ∷ carriers)
controller_seated stage controller carriers are zero =
    seat_all 0 (home_part stage Controller controller)
    (home_each (λ n. n.seat ≡ 0) stage Controller controller are.first)
controller_seated stage controller carriers are (suc m) =
    seat_none (suc m) 0 (home_part stage Controller controller)
    (home_each (λ n. n.seat ≡ 0) stage Controller controller are.first) (λ e. absurd (omega arith))
    ∙ sym (home_none stage Controller (notes_by carriers m)
    (all_one (λ n. carries m n.event.what ≡ true) (λ n. is_home stage Controller n ≡ false) (notes_by carriers m)
    (λ n k. carried_not_control stage m n.seat n.event.what k) (are.kinds m)))

mux_seated : (stage : Stage) (controller : List Note) (carriers : List (List Note)) (p : ℕ)
    → AreWorkers controller carriers
    → IsSeated stage (record { actor = MuxOf p; notes = home_part stage (MuxOf p) (notes_by carriers p) })
    (controller ∷ carriers)
mux_seated stage controller carriers p are zero =
    seat_none 0 (suc p) (home_part stage (MuxOf p) (notes_by carriers p))
    (home_each (λ n. n.seat ≡ suc p) stage (MuxOf p) (notes_by carriers p) (are.seats p)) (λ e. absurd (omega arith))
    ∙ sym (home_none stage (MuxOf p) controller
    (all_one (λ n. is_command n.event.what ≡ true) (λ n. is_home stage (MuxOf p) n ≡ false) controller
    (λ n k. command_not_mux stage p n.seat n.event.what k) are.commands))
mux_seated stage controller carriers p are (suc m) = elim (cases_eq m p) [
  | inl same ↦ subst (λ (q : ℕ). seat_part (suc q) (home_part stage (MuxOf p) (notes_by carriers p))
      ≡ home_part stage (MuxOf p) (notes_by carriers q)) (sym same)
      (seat_all (suc p) (home_part stage (MuxOf p) (notes_by carriers p))
      (home_each (λ n. n.seat ≡ suc p) stage (MuxOf p) (notes_by carriers p) (are.seats p)))
  | inr apart ↦
      seat_none (suc m) (suc p) (home_part stage (MuxOf p) (notes_by carriers p))
      (home_each (λ n. n.seat ≡ suc p) stage (MuxOf p) (notes_by carriers p) (are.seats p))
      (λ e. apart (omega arith))
      ∙ sym (home_none stage (MuxOf p) (notes_by carriers m)
      (all_two (λ n. carries m n.event.what ≡ true) (λ n. n.seat ≡ suc m) (λ n. is_home stage (MuxOf p) n ≡ false)
      (notes_by carriers m) (λ n k s. carried_not_other stage m p n.seat n.event.what k s apart) (are.kinds m)
      (are.seats m)))
]

-- the carriers from one on
abbrev IsTail : List (List Note) → ℕ → List (List Note) → Type 0
IsTail carriers m some = (i : ℕ) → notes_by carriers (m + i) ≡ notes_by some i

tail_next : (carriers : List (List Note)) (m : ℕ) (d : List Note) (some : List (List Note))
    → IsTail carriers m (d ∷ some) → IsTail carriers (suc m) some
tail_next carriers m d some is i = ap (λ (k : ℕ). notes_by carriers k) (omega arith) ∙ is (suc i)

tail_here : (carriers : List (List Note)) (m : ℕ) (d : List Note) (some : List (List Note))
    → IsTail carriers m (d ∷ some) → notes_by carriers m ≡ d
tail_here carriers m d some is = ap (λ (k : ℕ). notes_by carriers k) (omega arith) ∙ is 0

muxes_seated : (stage : Stage) (controller : List Note) (carriers some : List (List Note)) (m : ℕ)
    → AreWorkers controller carriers → IsTail carriers m some
    → AreSeated stage (mux_logs stage m some) (controller ∷ carriers)
muxes_seated stage controller carriers [] m are is = tt
muxes_seated stage controller carriers (d ∷ some) m are is = (
  subst (λ (x : List Note). IsSeated stage (record { actor = MuxOf m; notes = home_part stage (MuxOf m) x })
      (controller ∷ carriers)) (tail_here carriers m d some is) (mux_seated stage controller carriers m are),
  muxes_seated stage controller carriers some (suc m) are (tail_next carriers m d some is),
)

shards_seated : (stage : Stage) (controller : List Note) (carriers : List (List Note)) (books : List Book)
    (all : AllByRecursion (IsBookOfAll stage controller carriers) books)
    → AreSeated stage (shard_logs stage controller carriers books all) (controller ∷ carriers)
shards_seated stage controller carriers [] all = tt
shards_seated stage controller carriers (b ∷ books) all = (
  (book_notes stage controller carriers b all.0).seats,
  shards_seated stage controller carriers books all.1,
)

seated_append : (stage : Stage) (x y : List NotedLog) (workers : List (List Note)) → AreSeated stage x workers
    → AreSeated stage y workers → AreSeated stage (x ++ y) workers
seated_append stage [] y workers a b = b
seated_append stage (l ∷ x) y workers a b = (a.0, seated_append stage x y workers a.1 b)

pub are_seated : (stage : Stage) (controller : List Note) (carriers : List (List Note)) (books : List Book)
    (all : AllByRecursion (IsBookOfAll stage controller carriers) books) → AreWorkers controller carriers
    → AreSeated stage (logs_of stage controller carriers books all) (controller ∷ carriers)
are_seated stage controller carriers books all are = (
  controller_seated stage controller carriers are,
  seated_append stage (mux_logs stage 0 carriers) (shard_logs stage controller carriers books all)
      (controller ∷ carriers)
      (muxes_seated stage controller carriers carriers 0 are (λ i. ap (λ (k : ℕ). notes_by carriers k) (omega arith)))
      (shards_seated stage controller carriers books all),
)

-- EACH ACTOR ONCE

has_append : (x y : List NotedLog) (a : Actor) → has_actor (plain x) a ≡ false → has_actor (plain y) a ≡ false
    → has_actor (plain (x ++ y)) a ≡ false
has_append [] y a p q = q
has_append (l ∷ x) y a p q =
    let parts = or_parts (same_actor l.actor a) (has_actor (plain x) a) p
    in rw (parts.0, has_append x y a parts.1 q) refl

no_controller : (stage : Stage) (m : ℕ) (carriers : List (List Note))
    → has_actor (plain (mux_logs stage m carriers)) Controller ≡ false
no_controller stage m [] = refl
no_controller stage m (d ∷ carriers) = no_controller stage (suc m) carriers

no_lower : (stage : Stage) (m p : ℕ) (carriers : List (List Note)) → p < m
    → has_actor (plain (mux_logs stage m carriers)) (MuxOf p) ≡ false
no_lower stage m p [] low = refl
no_lower stage m p (d ∷ carriers) low =
    let not : eqb m p ≡ false = ne_eqb _ _ (λ e. absurd (omega arith))
    in rw (not, no_lower stage (suc m) p carriers (omega arith)) refl

no_shard_controller : (stage : Stage) (controller : List Note) (carriers : List (List Note)) (books : List Book)
    (all : AllByRecursion (IsBookOfAll stage controller carriers) books)
    → has_actor (plain (shard_logs stage controller carriers books all)) Controller ≡ false
no_shard_controller stage controller carriers [] all = refl
no_shard_controller stage controller carriers (b ∷ books) all =
    no_shard_controller stage controller carriers books all.1

no_shard_mux : (stage : Stage) (controller : List Note) (carriers : List (List Note)) (books : List Book)
    (all : AllByRecursion (IsBookOfAll stage controller carriers) books) (m : ℕ)
    → has_actor (plain (shard_logs stage controller carriers books all)) (MuxOf m) ≡ false
no_shard_mux stage controller carriers [] all m = refl
no_shard_mux stage controller carriers (b ∷ books) all m = no_shard_mux stage controller carriers books all.1 m

-- a shard has a log where it has a book
pub has_shard : (stage : Stage) (controller : List Note) (carriers : List (List Note)) (books : List Book)
    (all : AllByRecursion (IsBookOfAll stage controller carriers) books) (s h : ℕ)
    → has_actor (plain (shard_logs stage controller carriers books all)) (ShardOf s h) ≡ has_book books s h
has_shard stage controller carriers [] all s h = refl
has_shard stage controller carriers (b ∷ books) all s h = rw (has_shard stage controller carriers books all.1 s h) refl

own_shards : (stage : Stage) (controller : List Note) (carriers : List (List Note)) (books : List Book)
    (all : AllByRecursion (IsBookOfAll stage controller carriers) books) → HaveOwnBooks books
    → HaveOwnLogs (plain (shard_logs stage controller carriers books all))
own_shards stage controller carriers [] all own = tt
own_shards stage controller carriers (b ∷ books) all own = (
  has_shard stage controller carriers books all.1 b.shard.server.0 b.shard.number ∙ own.0,
  own_shards stage controller carriers books all.1 own.1,
)

own_muxes : (stage : Stage) (m : ℕ) (carriers : List (List Note)) (y : List NotedLog)
    → ((p : ℕ) → has_actor (plain y) (MuxOf p) ≡ false) → HaveOwnLogs (plain y)
    → HaveOwnLogs (plain (mux_logs stage m carriers ++ y))
own_muxes stage m [] y not own = own
own_muxes stage m (d ∷ carriers) y not own = (
  has_append (mux_logs stage (suc m) carriers) y (MuxOf m) (no_lower stage (suc m) m carriers (omega arith)) (not m),
  own_muxes stage (suc m) carriers y not own,
)

pub own_logs : (stage : Stage) (controller : List Note) (carriers : List (List Note)) (books : List Book)
    (all : AllByRecursion (IsBookOfAll stage controller carriers) books) → HaveOwnBooks books
    → HaveOwnLogs (plain (logs_of stage controller carriers books all))
own_logs stage controller carriers books all own = (
  has_append (mux_logs stage 0 carriers) (shard_logs stage controller carriers books all) Controller
      (no_controller stage 0 carriers) (no_shard_controller stage controller carriers books all),
  own_muxes stage 0 carriers (shard_logs stage controller carriers books all)
      (no_shard_mux stage controller carriers books all) (own_shards stage controller carriers books all own),
)

-- THE NAMED LOGS

named_step : (stage : Stage) (m i : ℕ) (d : List Note) (carriers : List (List Note)) (y : List NotedLog)
    → named (plain (mux_logs stage (suc m) carriers ++ y)) (MuxOf (suc m + i))
    ≡ events_of (home_part stage (MuxOf (suc m + i)) (notes_by carriers i))
    → named (plain (mux_logs stage m (d ∷ carriers) ++ y)) (MuxOf (m + suc i))
    ≡ events_of (home_part stage (MuxOf (m + suc i)) (notes_by carriers i))
named_step stage m i d carriers y old =
    let not : eqb m (m + suc i) ≡ false = ne_eqb _ _ (λ e. absurd (omega arith))
    in let same : suc m + i ≡ m + suc i = omega arith
    in rw not (subst (λ (k : ℕ). named (plain (mux_logs stage (suc m) carriers ++ y)) (MuxOf k)
    ≡ events_of (home_part stage (MuxOf k) (notes_by carriers i))) same old)

named_from : (stage : Stage) (m i : ℕ) (carriers : List (List Note)) (y : List NotedLog) → i < length carriers
    → named (plain (mux_logs stage m carriers ++ y)) (MuxOf (m + i))
    ≡ events_of (home_part stage (MuxOf (m + i)) (notes_by carriers i))
named_from stage m i [] y low = absurd (omega arith)
named_from stage m zero (d ∷ carriers) y low =
    let at : m + 0 ≡ m = omega arith
    in subst (λ (k : ℕ). named (plain (mux_logs stage m (d ∷ carriers) ++ y)) (MuxOf k)
    ≡ events_of (home_part stage (MuxOf k) d)) (sym at) (let is : eqb m m ≡ true = eq-eqb _ _ refl in rw is refl)
named_from stage m (suc i) (d ∷ carriers) y low =
    named_step stage m i d carriers y (named_from stage (suc m) i carriers y (omega arith))

-- that of a mux is what its worker did for it
pub named_mux : (stage : Stage) (controller : List Note) (carriers : List (List Note)) (books : List Book)
    (all : AllByRecursion (IsBookOfAll stage controller carriers) books) (m : ℕ) → m < length carriers
    → named (plain (logs_of stage controller carriers books all)) (MuxOf m)
    ≡ events_of (home_part stage (MuxOf m) (notes_by carriers m))
named_mux stage controller carriers books all m low =
    let at : 0 + m ≡ m = omega arith
    in subst (λ (k : ℕ). named (plain (logs_of stage controller carriers books all)) (MuxOf k)
    ≡ events_of (home_part stage (MuxOf k) (notes_by carriers m))) at
    (named_from stage 0 m carriers (shard_logs stage controller carriers books all) low)

has_first : (x y : List NotedLog) (a : Actor) → has_actor (plain x) a ≡ true → has_actor (plain (x ++ y)) a ≡ true
has_first [] y a p = absurd (cc)
has_first (l ∷ x) y a p = go (same_actor l.actor a) p (has_first x y a) where
  go : (b : Bool) → (b || has_actor (plain x) a) ≡ true
      → (has_actor (plain x) a ≡ true → has_actor (plain (x ++ y)) a ≡ true)
      → (b || has_actor (plain (x ++ y)) a) ≡ true
  go true p old = refl
  go false p old = old p

has_second : (x y : List NotedLog) (a : Actor) → has_actor (plain y) a ≡ true → has_actor (plain (x ++ y)) a ≡ true
has_second [] y a p = p
has_second (l ∷ x) y a p = go (same_actor l.actor a) (has_second x y a p) where
  go : (b : Bool) → has_actor (plain (x ++ y)) a ≡ true → (b || has_actor (plain (x ++ y)) a) ≡ true
  go true p = refl
  go false p = p

has_from : (stage : Stage) (m i : ℕ) (carriers : List (List Note)) → i < length carriers
    → has_actor (plain (mux_logs stage m carriers)) (MuxOf (m + i)) ≡ true
has_from stage m i [] low = absurd (omega arith)
has_from stage m zero (d ∷ carriers) low = let is : eqb m (m + 0) ≡ true = eq-eqb _ _ (omega arith) in rw is refl
has_from stage m (suc i) (d ∷ carriers) low =
    let not : eqb m (m + suc i) ≡ false = ne_eqb _ _ (λ e. absurd (omega arith))
    in let same : suc m + i ≡ m + suc i = omega arith
    in rw not (subst (λ (k : ℕ). has_actor (plain (mux_logs stage (suc m) carriers)) (MuxOf k) ≡ true) same
    (has_from stage (suc m) i carriers (omega arith)))

pub has_mux : (stage : Stage) (controller : List Note) (carriers : List (List Note)) (books : List Book)
    (all : AllByRecursion (IsBookOfAll stage controller carriers) books) (m : ℕ) → m < length carriers
    → has_actor (plain (logs_of stage controller carriers books all)) (MuxOf m) ≡ true
has_mux stage controller carriers books all m low =
    let at : 0 + m ≡ m = omega arith
    in has_first (mux_logs stage 0 carriers) (shard_logs stage controller carriers books all) (MuxOf m)
    (subst (λ (k : ℕ). has_actor (plain (mux_logs stage 0 carriers)) (MuxOf k) ≡ true) at
    (has_from stage 0 m carriers low))

pub has_book_log : (stage : Stage) (controller : List Note) (carriers : List (List Note)) (books : List Book)
    (all : AllByRecursion (IsBookOfAll stage controller carriers) books) (s h : ℕ) → has_book books s h ≡ true
    → has_actor (plain (logs_of stage controller carriers books all)) (ShardOf s h) ≡ true
has_book_log stage controller carriers books all s h is =
    has_second (mux_logs stage 0 carriers) (shard_logs stage controller carriers books all) (ShardOf s h)
    (has_shard stage controller carriers books all s h ∙ is)
