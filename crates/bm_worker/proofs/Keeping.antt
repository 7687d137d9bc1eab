-- The record of a phase goes on with more notes.
use Rattle.std.proofs.Common.{◌≡◌, ℕ, zero, suc, ◌≤◌, max, Bool, true, false, cond, List, []}
use Rattle.std.proofs.Common.{◌∷◌, ◌++◌}
use Rattle.std.proofs.Common.{reverse, slice_get, Some, None, refl, sym, ap, ◌∙◌, subst}
use Rattle.std.proofs.Common.{append_assoc, arith}
use Rattle.std.specs.List.{AllByRecursion}
use mathlib.Core.List.{IsPrefix}
use Rattle.bm_core.specs.declared.events.Event.{Event}
use Rattle.bm_core.specs.declared.events.Stage.{Stage}
use Rattle.bm_core.specs.declared.events.What.{What}
use Rattle.bm_core.specs.declared.events.What.TheVariants.{Publish, Switch, Steer, Lose, Arrive, Close, Retire, Sync}
use Rattle.bm_core.specs.Accounts.{Rules, steers_packet}
use Rattle.bm_core.specs.Runs.{Actor, AtEach}
use Rattle.bm_core.specs.Runs.Actor.{MuxOf}
use Rattle.bm_merge.specs.Notes.{Note, events_of, greatest, many}
use Rattle.bm_merge.specs.Workers.{HasSending, home_part, is_copyless, is_due_at, is_home}
use Rattle.bm_merge.proofs.Noting.{each_append, each_so, events_append, greatest_append, total_append}
use Rattle.bm_publish.specs.Posts.{last_version}
use Rattle.bm_mux.specs.Muxes.{IsSameMux, post_clock}
use Rattle.bm_server.specs.Servings.{Serving}
use Rattle.bm_worker.specs.declared.worker.MuxWorker.{MuxWorker}
use Rattle.bm_worker.specs.WorkerNotes.{GetReplies, IsSameCaller, clock_of}
use Rattle.bm_worker.specs.Phases.{AreCopies, IsPhaseNote, IsInOrder, IsLossOf, IsMuxGiven, Kept, Task, mux_log}
use Rattle.bm_worker.specs.Phases.{mux_for}
use Rattle.bm_worker.proofs.CallNotes.{gets_more}

-- MORE NOTES

pub more_many : (test : Note → Bool) (x d : List Note) → many test d ≤ many test (x ++ d)
more_many test x d = let a = total_append (λ n. cond (test n) 1 0) x d in omega arith

has_sending_more : (x d : List Note) (n : Note) (what : What) → HasSending d n what → HasSending (x ++ d) n what
has_sending_more x d n (Arrive k hop server verdict) is = (
  let a = is.0 in let le = more_many (λ y. steers_packet y.event.what k) x d in omega arith,
  let a = is.1 in let le = more_many (is_due_at k hop n.due) x d in omega arith,
)
has_sending_more x d n (Lose k hop) is = tt
has_sending_more x d n (Publish v) is = tt
has_sending_more x d n (Switch m v) is = tt
has_sending_more x d n (Steer k m) is = tt
has_sending_more x d n (Close server flow closed) is = tt
has_sending_more x d n (Retire server h at result) is = tt
has_sending_more x d n Sync is = tt

lost_more : (x d : List Note) (clock : ℕ) (what : What) → IsLossOf d clock what → IsLossOf (x ++ d) clock what
lost_more x d clock (Lose k hop) is =
    (is.0, is.1, let a = is.2 in let le = more_many (is_copyless k hop is.0) x d in omega arith)
lost_more x d clock (Arrive k hop server verdict) is = tt
lost_more x d clock (Publish v) is = tt
lost_more x d clock (Switch m v) is = tt
lost_more x d clock (Steer k m) is = tt
lost_more x d clock (Close server flow closed) is = tt
lost_more x d clock (Retire server h at result) is = tt
lost_more x d clock Sync is = tt

note_more : (F : Rules) (stage : Stage) (servers : List Serving) (task : Task) (x d : List Note) (n : Note)
    → IsPhaseNote F stage servers task d n → IsPhaseNote F stage servers task (x ++ d) n
note_more F stage servers task x d n is = record {
  kind = is.kind;
  seat = is.seat;
  later = is.later;
  within = is.within;
  assigned = is.assigned;
  has_sending = has_sending_more x d n n.event.what is.has_sending;
  lost = lost_more x d n.event.clock.0 n.event.what is.lost;
  drawn = is.drawn;
  placed = is.placed;
}

pub at_append : {X : Type 0} (P : List X → X → Type 0) (x y : List X) → AtEach (λ rest n. P (rest ++ y) n) x
    → AtEach P y → AtEach P (x ++ y)
at_append P [] y first rest = rest
at_append P (n ∷ x) y first rest = (first.0, at_append P x y first.1 rest)

pub at_so : {X : Type 0} (P Q : List X → X → Type 0) (x : List X) → ((rest : List X) (n : X) → P rest n → Q rest n)
    → AtEach P x → AtEach Q x
at_so P Q [] f all = tt
at_so P Q (n ∷ x) f all = (f x n all.0, at_so P Q x f all.1)

-- THE MUX'S LOG

home_step : (n : Note) (z x y : List Note) (b : Bool) → z ≡ x ++ y → cond b (n ∷ z) z ≡ cond b (n ∷ x) x ++ y
home_step n z x y true e = ap (λ (l : List Note). n ∷ l) e
home_step n z x y false e = e

pub home_append : (stage : Stage) (a : Actor) (x y : List Note) → home_part stage a (x ++ y) ≡ home_part stage a x
    ++ home_part stage a y
home_append stage a [] y = refl
home_append stage a (n ∷ x) y =
    home_step n (home_part stage a (x ++ y)) (home_part stage a x) (home_part stage a y) (is_home stage a n)
    (home_append stage a x y)

pub log_append : (stage : Stage) (m : ℕ) (x y : List Note) → mux_log stage m (x ++ y) ≡ mux_log stage m x
    ++ mux_log stage m y
log_append stage m x y =
    ap events_of (home_append stage (MuxOf m) x y)
    ∙ events_append (home_part stage (MuxOf m) x) (home_part stage (MuxOf m) y)

-- the posts go on
got_more : (xs ys : List ℕ) (i a : ℕ) → slice_get xs i ≡ Some a → slice_get (xs ++ ys) i ≡ Some a
got_more [] ys i a is = absurd (let bad : None ≡ Some a = is in cc)
got_more (x ∷ xs) ys zero a is = is
got_more (x ∷ xs) ys (suc i) a is = got_more xs ys i a is

posted_more : (xs ys : List ℕ) (v a : ℕ) → post_clock xs v ≡ Some a → post_clock (xs ++ ys) v ≡ Some a
posted_more xs ys zero a is = is
posted_more xs ys (suc v) a is = got_more xs ys v a is

pub posted_later : (xs ys : List ℕ) (v a : ℕ) → IsPrefix xs ys → post_clock xs v ≡ Some a → post_clock ys v ≡ Some a
posted_later xs ys v a before is =
    subst (λ (l : List ℕ). post_clock l v ≡ Some a) before.1 (posted_more xs before.0 v a is)

given_later : (stage : Stage) (after first : ℕ) (xs ys : List ℕ) (rest : List Event) (clock : ℕ) (what : What)
    → IsPrefix xs ys
    → IsMuxGiven stage after first xs rest clock what → IsMuxGiven stage after first ys rest clock what
given_later stage after first xs ys rest clock (Switch m v) before is =
    (is.0, (is.1.0, posted_later xs ys v.0 is.1.0 before is.1.1, is.1.2))
given_later stage after first xs ys rest clock (Steer k m) before is = is
given_later stage after first xs ys rest clock (Publish v) before is = tt
given_later stage after first xs ys rest clock (Lose k hop) before is = tt
given_later stage after first xs ys rest clock (Arrive k hop server verdict) before is = tt
given_later stage after first xs ys rest clock (Close server flow closed) before is = tt
given_later stage after first xs ys rest clock (Retire server h at result) before is = tt
given_later stage after first xs ys rest clock Sync before is = tt

-- ONE STEP

pub record Step (F : Rules) (stage : Stage) (servers : List Serving) (task : Task) (now next : MuxWorker)
    (d x : List Note) : Type 0 where
  pub each : AllByRecursion (IsPhaseNote F stage servers task (x ++ d)) x
  pub ordered : AtEach (λ rest n. IsInOrder (rest ++ d) n.event.what) x
  pub logged : reverse next.mux.log ≡ mux_log stage (mux_for task).0 x ++ reverse now.mux.log
  pub gives : AtEach (λ rest e. IsMuxGiven stage task.after (last_version task.posted) next.mux.seen.clocks
      (rest ++ reverse now.mux.log) e.clock.0 e.what) (mux_log stage (mux_for task).0 x)
  pub replies : GetReplies stage servers now.caller.seats next.caller.seats x
  pub copies : AreCopies stage (mux_for task) servers (reverse now.mux.log) now.caller.seats
      → AreCopies stage (mux_for task) servers (reverse next.mux.log) next.caller.seats
  pub latest : next.caller.latest ≡ max now.caller.latest (greatest clock_of x)
  pub mux : IsSameMux now.mux next.mux
  pub caller : IsSameCaller now.caller next.caller

same_mux_on : (task : Task) (now next : MuxWorker) → IsSameMux task.start.mux now.mux → IsSameMux now.mux next.mux
    → IsSameMux task.start.mux next.mux
same_mux_on task now next a b = record {
  id = b.id ∙ a.id;
  later = record {
    board = b.later.board ∙ a.later.board;
    plan = b.later.plan ∙ a.later.plan;
    posts = prefix_on task.start.mux.seen.clocks now.mux.seen.clocks next.mux.seen.clocks a.later.posts b.later.posts;
  };
} where
  prefix_on : (xs ys zs : List ℕ) → IsPrefix xs ys → IsPrefix ys zs → IsPrefix xs zs
  prefix_on xs ys zs p q = (
    p.0 ++ q.0,
    sym (append_assoc xs p.0 q.0) ∙ (ap (λ (l : List ℕ). l ++ q.0) p.1 ∙ q.1),
  )

pub kept_more : (F : Rules) (stage : Stage) (servers : List Serving) (task : Task) (now next : MuxWorker)
    (d x : List Note)
    → Kept F stage servers task now d → Step F stage servers task now next d x
    → Kept F stage servers task next (x ++ d)
kept_more F stage servers task now next d x old step =
    let m = (mux_for task).0 in let past = reverse task.start.mux.log in let first = last_version task.posted in
    record {
      each = each_append (IsPhaseNote F stage servers task (x ++ d)) x d step.each
          (each_so (IsPhaseNote F stage servers task d) (IsPhaseNote F stage servers task (x ++ d)) d
          (λ n is. note_more F stage servers task x d n is) old.each);
      ordered = at_append (λ rest n. IsInOrder rest n.event.what) x d step.ordered old.ordered;
      logged = step.logged ∙ (ap (λ (l : List Event). mux_log stage m x ++ l) old.logged
          ∙ (sym (append_assoc (mux_log stage m x) (mux_log stage m d) past)
          ∙ ap (λ (l : List Event). l ++ past) (sym (log_append stage m x d))));
      gives = subst
          (λ (l : List Event). AtEach
          (λ rest e. IsMuxGiven stage task.after first next.mux.seen.clocks (rest ++ past) e.clock.0 e.what) l)
          (sym (log_append stage m x d))
          (at_append (λ rest e. IsMuxGiven stage task.after first next.mux.seen.clocks (rest ++ past) e.clock.0 e.what)
          (mux_log stage m x) (mux_log stage m d)
          (at_so (λ rest e. IsMuxGiven stage task.after first next.mux.seen.clocks (rest ++ reverse now.mux.log)
          e.clock.0 e.what)
          (λ rest e. IsMuxGiven stage task.after first next.mux.seen.clocks ((rest ++ mux_log stage m d) ++ past)
          e.clock.0 e.what) (mux_log stage m x)
          (λ rest e is. subst
          (λ (l : List Event). IsMuxGiven stage task.after first next.mux.seen.clocks l e.clock.0 e.what)
          (ap (λ (l : List Event). rest ++ l) old.logged ∙ sym (append_assoc rest (mux_log stage m d) past)) is)
          step.gives)
          (at_so (λ rest e. IsMuxGiven stage task.after first now.mux.seen.clocks (rest ++ past) e.clock.0 e.what)
          (λ rest e. IsMuxGiven stage task.after first next.mux.seen.clocks (rest ++ past) e.clock.0 e.what)
          (mux_log stage m d)
          (λ rest e is. given_later stage task.after first now.mux.seen.clocks next.mux.seen.clocks (rest ++ past)
          e.clock.0 e.what
          step.mux.later.posts is) old.gives));
      replies = gets_more stage servers task.start.caller.seats now.caller.seats next.caller.seats d x old.replies
          step.replies;
      copies = λ are. step.copies (old.copies are);
      latest = let one = old.latest in let two = step.latest in let g = greatest_append clock_of x d in omega arith;
      mux = same_mux_on task now next old.mux step.mux;
      caller = record {
        number = step.caller.number ∙ old.caller.number;
        who_is = step.caller.who_is ∙ old.caller.who_is;
      };
    }
