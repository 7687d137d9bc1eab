-- What a mux's worker gives stays the same while the controller's log grows, and what it does in a phase is added.
use Rattle.std.proofs.Common.{◌≡◌, ℕ, zero, suc, ◌<◌, ◌≤◌, Bool, true, false, cond, List, [], ◌∷◌, ◌++◌}
use Rattle.std.proofs.Common.{Option, Some, None, refl, sym, ap, ◌∙◌, subst, arith, leb}
use Rattle.std.specs.Prelude.{IfSome, slice_get}
use Rattle.std.specs.List.{AllByRecursion}
use Rattle.std.proofs.lemmas.Bool.{leb-false}
use Rattle.std.proofs.lemmas.Bool.{lt-leb, le-ltb}
use Rattle.std.proofs.lemmas.Option.{slice_get_within}
use mathlib.Core.List.{IsPrefix}
use Rattle.bm_table.proofs.Gets.{slice_get-append_left}
use Rattle.bm_base.specs.declared.flow.Segment.{Segment}
use Rattle.bm_base.specs.declared.ids.MuxId.{MuxId}
use Rattle.bm_core.specs.declared.events.What.{What}
use Rattle.bm_core.specs.declared.events.What.TheVariants.{Publish, Switch, Steer, Lose, Arrive, Close, Retire, Sync}
use Rattle.bm_core.specs.declared.events.Event.{Event}
use Rattle.bm_core.specs.declared.events.Stage.{Stage}
use Rattle.bm_core.specs.Accounts.{Routes, Rules, IsRouted, counts, is_sync, steers_packet, arrives}
use Rattle.bm_core.specs.Past.{segment_of, newest}
use Rattle.bm_core.specs.Runs.{AtEach}
use Rattle.bm_core.specs.Threads.{sync_clock, newest_before, packet_of, phase_of}
use Rattle.bm_merge.specs.Notes.{Note, events_of, total, until}
use Rattle.bm_merge.specs.Workers.{home_part, IsCarrier, HasSending, is_lost, is_copyless, has_come, copies_below}
use Rattle.bm_merge.specs.Workers.{copies_in, is_due_at, arrives_after, is_home, carries}
use Rattle.bm_core.specs.Runs.Actor.{MuxOf}
use Rattle.bm_merge.specs.Workers.{IsAnswer}
use Rattle.bm_merge.proofs.Noting.{total_append, total_none, each_append, each_so, events_append}
use Rattle.bm_merge.proofs.CopiesLeft.{now_in_phase}
use Rattle.bm_merge.proofs.Reaching.{one_if}
use Rattle.bm_mux.specs.Muxes.{post_clock}
use Rattle.bm_worker.specs.Phases.{mux_log, IsInOrder, IsMuxGiven}
use Rattle.bm_worker.specs.Assigned.{RoutedBy, assigned_mux}
use Rattle.bm_world.specs.Inside.Returned.{IsMuxGivenBy, IsPhasedBy, IsCarriage}
use Rattle.bm_world.proofs.Homes.{home_append}

-- WHAT IS SEEN

pub until_later : (c : ℕ) (y control : List Event) → AllByRecursion (λ e. c < e.clock.0) y
    → until c (y ++ control) ≡ until c control
until_later c [] control later = refl
until_later c (e ∷ y) control later =
    let no : leb e.clock.0 c ≡ false = lt-leb _ _ later.0 in rw no (until_later c y control later.1)

pub sync_until : (control : List Event) (c : ℕ) → sync_clock control ≤ c
    → sync_clock (until c control) ≡ sync_clock control
sync_until [] c low = refl
sync_until (e ∷ control) c low =
    go (leb e.clock.0 c) (is_sync e.what) refl refl low (sync_until control c) where
      go : (a b : Bool) → leb e.clock.0 c ≡ a → is_sync e.what ≡ b → cond b e.clock.0 (sync_clock control) ≤ c
          → (sync_clock control ≤ c → sync_clock (until c control) ≡ sync_clock control)
          → sync_clock (cond a (e ∷ control) (until c control)) ≡ cond b e.clock.0 (sync_clock control)
      go true b x y low old = rw y refl
      go false true x y low old = let over : c < e.clock.0 = leb-false _ _ x in absurd (omega arith)
      go false false x y low old = old low

pub before_until : (control : List Event) (c : ℕ) → sync_clock control ≤ c
    → newest_before (until c control) ≡ newest_before control
before_until [] c low = refl
before_until (e ∷ control) c low =
    go (leb e.clock.0 c) (is_sync e.what) refl refl low (before_until control c) where
      go : (a b : Bool) → leb e.clock.0 c ≡ a → is_sync e.what ≡ b → cond b e.clock.0 (sync_clock control) ≤ c
          → (sync_clock control ≤ c → newest_before (until c control) ≡ newest_before control)
          → newest_before (cond a (e ∷ control) (until c control)) ≡ cond b (newest control) (newest_before control)
      go true b x y low old = rw y refl
      go false true x y low old = let over : c < e.clock.0 = leb-false _ _ x in absurd (omega arith)
      go false false x y low old = old low

-- WHAT IS GIVEN

pub post_more : (x y : List ℕ) (v post : ℕ) → IsPrefix x y → post_clock x v ≡ Some post → post_clock y v ≡ Some post
post_more x y zero post more found = found
post_more x y (suc v) post more found =
    ap (λ (l : List ℕ). slice_get l v) (sym more.1)
    ∙ slice_get-append_left x more.0 v (slice_get_within x v post found) ∙ found

pub shown_more : (stage : Stage) (after first : ℕ) (x y : List ℕ) (rest : List Event) (clock : ℕ) (what : What)
    → IsPrefix x y → IsMuxGiven stage after first x rest clock what → IsMuxGiven stage after first y rest clock what
shown_more stage after first x y rest clock (Switch m v) more given =
    (given.0, (given.1.0, post_more x y v.0 given.1.0 more given.1.1, given.1.2))
shown_more stage after first x y rest clock (Steer k m) more given = given
shown_more stage after first x y rest clock (Lose k hop) more given = tt
shown_more stage after first x y rest clock (Arrive k hop server verdict) more given = tt
shown_more stage after first x y rest clock (Publish v) more given = tt
shown_more stage after first x y rest clock (Close server flow closed) more given = tt
shown_more stage after first x y rest clock (Retire server h moment result) more given = tt
shown_more stage after first x y rest clock Sync more given = tt

given_later : (stage : Stage) (control y : List Event) (posts posts' : List ℕ) (rest : List Event) (e : Event)
    → AllByRecursion (λ z. e.clock.0 < z.clock.0) y → IsPrefix posts posts'
    → IsMuxGivenBy stage control posts rest e → IsMuxGivenBy stage (y ++ control) posts' rest e
given_later stage control y posts posts' rest e later more given =
    let same = until_later e.clock.0 y control later
    in subst (λ (l : List Event). IsMuxGiven stage (sync_clock l) (newest_before l) posts' rest e.clock.0 e.what)
    (sym same)
    (shown_more stage (sync_clock (until e.clock.0 control)) (newest_before (until e.clock.0 control)) posts posts' rest
    e.clock.0 e.what more given)

all_given_later : (stage : Stage) (control y : List Event) (posts posts' : List ℕ) (log : List Event)
    → AllByRecursion (λ e. AllByRecursion (λ z. e.clock.0 < z.clock.0) y) log → IsPrefix posts posts'
    → AtEach (IsMuxGivenBy stage control posts) log → AtEach (IsMuxGivenBy stage (y ++ control) posts') log
all_given_later stage control y posts posts' [] later more given = tt
all_given_later stage control y posts posts' (e ∷ log) later more given = (
  given_later stage control y posts posts' log e later.0 more given.0,
  all_given_later stage control y posts posts' log later.1 more given.1,
)

-- PARTS

step_home : (P : Event → Type 0) (n : Note) (h : List Note) (b : Bool) → P n.event → AllByRecursion P (events_of h)
    → AllByRecursion P (events_of (cond b (n ∷ h) h))
step_home P n h true p old = (p, old)
step_home P n h false p old = old

-- what holds of each note holds of the log
pub log_each : (P : Event → Type 0) (stage : Stage) (m : ℕ) (x : List Note) → AllByRecursion (λ n. P n.event) x
    → AllByRecursion P (mux_log stage m x)
log_each P stage m [] all = tt
log_each P stage m (n ∷ x) all =
    step_home P n (home_part stage (MuxOf m) x) (is_home stage (MuxOf m) n) all.0 (log_each P stage m x all.1)

pub log_append : (stage : Stage) (m : ℕ) (x y : List Note) → mux_log stage m (x ++ y) ≡ mux_log stage m x
    ++ mux_log stage m y
log_append stage m x y =
    ap (λ (h : List Note). events_of h) (home_append stage (MuxOf m) x y)
    ∙ events_append (home_part stage (MuxOf m) x) (home_part stage (MuxOf m) y)

-- THE CONTROLLER GOES ON

if_some : (P Q : ℕ → Type 0) (o : Option ℕ) → ((k : ℕ) → P k → Q k) → IfSome o P → IfSome o Q
if_some P Q None f h = tt
if_some P Q (Some k) f h = f k h

phased_later : (stage : Stage) (control y : List Event) (n : Note) → AllByRecursion (λ z. n.event.clock.0 < z.clock.0) y
    → IsPhasedBy stage control n → IsPhasedBy stage (y ++ control) n
phased_later stage control y n later old =
    let same = until_later n.event.clock.0 y control later
    in if_some (λ k. counts (until n.event.clock.0 control) is_sync ≡ phase_of stage k)
    (λ k. counts (until n.event.clock.0 (y ++ control)) is_sync ≡ phase_of stage k) (packet_of n.event.what)
    (λ k h. ap (λ (l : List Event). counts l is_sync) same ∙ h) old

each_two : (P Q S : Note → Type 0) (x : List Note) → ((n : Note) → P n → Q n → S n) → AllByRecursion P x
    → AllByRecursion Q x → AllByRecursion S x
each_two P Q S [] f ps qs = tt
each_two P Q S (n ∷ x) f ps qs = (f n ps.0 qs.0, each_two P Q S x f ps.1 qs.1)

-- while the controller goes on, and the mux is shown more
pub carriage_later : (R : Routes) (F : Rules) (stage : Stage) (control y : List Event) (posts posts' : List ℕ) (m : ℕ)
    (notes : List Note) → AllByRecursion (λ n. AllByRecursion (λ z. n.event.clock.0 < z.clock.0) y) notes
    → IsPrefix posts posts' → IsCarriage R F stage control posts m notes
    → IsCarriage R F stage (y ++ control) posts' m notes
carriage_later R F stage control y posts posts' m notes later more c = record {
  carrier = c.carrier;
  seats = c.seats;
  positive = c.positive;
  ordered = c.ordered;
  gives = all_given_later stage control y posts posts' (mux_log stage m notes)
      (log_each (λ e. AllByRecursion (λ z. e.clock.0 < z.clock.0) y) stage m notes later) more c.gives;
  phases = each_two (λ n. AllByRecursion (λ z. n.event.clock.0 < z.clock.0) y) (IsPhasedBy stage control)
      (IsPhasedBy stage (y ++ control)) notes (λ n l h. phased_later stage control y n l h) later c.phases;
}

-- CARRIERS TOGETHER

pub has_sending_more : (x y : List Note) (n : Note) (what : What) → ((f : Note → ℕ) → total f y ≤ total f x)
    → HasSending y n what → HasSending x n what
has_sending_more x y n (Arrive k hop server verdict) more has_sending =
    let a = more (λ z. one_if (steers_packet z.event.what k))
    in let b = more (λ z. one_if (is_due_at k hop n.due z))
    in let p = has_sending.0
    in let q = has_sending.1
    in (omega arith, omega arith)
has_sending_more x y n (Publish v) more has_sending = tt
has_sending_more x y n (Switch m v) more has_sending = tt
has_sending_more x y n (Steer k m) more has_sending = tt
has_sending_more x y n (Lose k hop) more has_sending = tt
has_sending_more x y n (Close server flow closed) more has_sending = tt
has_sending_more x y n (Retire server h moment result) more has_sending = tt
has_sending_more x y n Sync more has_sending = tt

pub carrier_append : (R : Routes) (F : Rules) (stage : Stage) (m : ℕ) (x y : List Note) → IsCarrier R F stage m x
    → IsCarrier R F stage m y → IsCarrier R F stage m (x ++ y)
carrier_append R F stage m x y a b = record {
  kinds = each_append (λ n. carries m n.event.what ≡ true) x y a.kinds b.kinds;
  has_sending = each_append (λ n. HasSending (x ++ y) n n.event.what) x y
      (each_so (λ n. HasSending x n n.event.what) (λ n. HasSending (x ++ y) n n.event.what) x
      (λ n h. has_sending_more (x ++ y) x n n.event.what (λ f. let s = total_append f x y in omega arith) h) a.has_sending)
      (each_so (λ n. HasSending y n n.event.what) (λ n. HasSending (x ++ y) n n.event.what) y
      (λ n h. has_sending_more (x ++ y) y n n.event.what (λ f. let s = total_append f x y in omega arith) h) b.has_sending);
  answers = each_append (IsAnswer R F stage) x y a.answers b.answers;
  lost = λ k hop clock.
      let s = total_append (λ n. one_if (is_lost k hop (suc clock) n)) x y
      in let t = total_append (λ n. one_if (is_copyless k hop clock n)) x y
      in let p = a.lost k hop clock
      in let q = b.lost k hop clock
      in omega arith;
  sent = λ k hop clock.
      let s = total_append (λ n. one_if (has_come k hop clock n)) x y
      in let t = total_append (copies_below k hop clock) x y
      in let p = a.sent k hop clock
      in let q = b.sent k hop clock
      in omega arith;
  arrived = λ k hop.
      let s = total_append (λ n. one_if (arrives n.event.what k hop)) x y
      in let t = total_append (copies_in k hop) x y
      in let p = a.arrived k hop
      in let q = b.arrived k hop
      in omega arith;
}

-- the route gave what is kept of it
pub routed_one : (R : Routes) (routes : List (Option MuxId)) (stage : Stage)
    → ((k m : ℕ) (s : Segment) → assigned_mux routes k ≡ Some m → segment_of stage k ≡ Some s → R k s.flow m)
    → (what : What) → IsRouted (RoutedBy routes) stage what → IsRouted R stage what
routed_one R routes stage route (Steer k m) is = go (segment_of stage k) refl is where
  go : (o : Option Segment) → segment_of stage k ≡ o → IfSome o (λ s. assigned_mux routes k ≡ Some m.0)
      → IfSome o (λ s. R k s.flow m.0)
  go None here h = tt
  go (Some s) here h = route k m.0 s h here
routed_one R routes stage route (Publish v) is = tt
routed_one R routes stage route (Switch m v) is = tt
routed_one R routes stage route (Lose k hop) is = tt
routed_one R routes stage route (Arrive k hop server verdict) is = tt
routed_one R routes stage route (Close server flow closed) is = tt
routed_one R routes stage route (Retire server h moment result) is = tt
routed_one R routes stage route Sync is = tt

pub carrier_routed : (R : Routes) (F : Rules) (routes : List (Option MuxId)) (stage : Stage) (m : ℕ) (x : List Note)
    → ((k m : ℕ) (s : Segment) → assigned_mux routes k ≡ Some m → segment_of stage k ≡ Some s → R k s.flow m)
    → IsCarrier (RoutedBy routes) F stage m x → IsCarrier R F stage m x
carrier_routed R F routes stage m x route c = record {
  kinds = c.kinds;
  has_sending = c.has_sending;
  answers = each_so (IsAnswer (RoutedBy routes) F stage) (IsAnswer R F stage) x
      (λ n h. (routed_one R routes stage route n.event.what h.0, h.1)) c.answers;
  lost = c.lost;
  sent = c.sent;
  arrived = c.arrived;
}

-- A PHASE MORE

given_here : (stage : Stage) (control : List Event) (posts : List ℕ) (rest : List Event) (e : Event)
    → sync_clock control ≤ e.clock.0
    → IsMuxGiven stage (sync_clock control) (newest_before control) posts rest e.clock.0 e.what
    → IsMuxGivenBy stage control posts rest e
given_here stage control posts rest e low given =
    let a = sync_until control e.clock.0 low
    in let b = before_until control e.clock.0 low
    in rw (a, b) given

all_given : (stage : Stage) (control : List Event) (posts : List ℕ) (more old : List Event)
    → AllByRecursion (λ e. sync_clock control < e.clock.0) more
    → AtEach (λ rest e. IsMuxGiven stage (sync_clock control) (newest_before control) posts (rest ++ old) e.clock.0
    e.what) more
    → AtEach (IsMuxGivenBy stage control posts) old → AtEach (IsMuxGivenBy stage control posts) (more ++ old)
all_given stage control posts [] old later given before = before
all_given stage control posts (e ∷ more) old later given before = (
  given_here stage control posts (more ++ old) e (omega (arith, later.0)) given.0,
  all_given stage control posts more old later.1 given.1 before,
)

phased_here : (stage : Stage) (control : List Event) (p : ℕ) (n : Note) → counts control is_sync ≡ p
    → sync_clock control < n.event.clock.0 → IfSome (packet_of n.event.what) (λ k. phase_of stage k ≡ p)
    → IsPhasedBy stage control n
phased_here stage control p n syncs later own =
    if_some (λ k. phase_of stage k ≡ p) (λ k. counts (until n.event.clock.0 control) is_sync ≡ phase_of stage k)
    (packet_of n.event.what) (λ k is. now_in_phase control n.event.clock.0 (omega arith) ∙ syncs ∙ sym is) own

-- no later packet before, in either part
order_more : (x y : List Note) (what : What) → IsInOrder x what
    → IfSome (packet_of what) (λ k. AllByRecursion (λ n. arrives_after k n.event.what ≡ false) y)
    → IsInOrder (x ++ y) what
order_more x y (Arrive k hop server verdict) here older =
    let s = total_append (λ n. one_if (arrives_after k n.event.what)) x y
    in let none = total_none (λ n. one_if (arrives_after k n.event.what)) y
    (each_so (λ n. arrives_after k n.event.what ≡ false) (λ n. one_if (arrives_after k n.event.what) ≡ 0) y
    (λ n h. rw h refl) older)
    in omega arith
order_more x y (Publish v) here older = tt
order_more x y (Switch m v) here older = tt
order_more x y (Steer k m) here older = tt
order_more x y (Lose k hop) here older = tt
order_more x y (Close server flow closed) here older = tt
order_more x y (Retire server h moment result) here older = tt
order_more x y Sync here older = tt

arrives_low : (k until : ℕ) (what : What) → until < k → IfSome (packet_of what) (λ j. j ≤ until)
    → arrives_after k what ≡ false
arrives_low k until (Arrive packet hop server verdict) low within = le-ltb _ _ (omega arith)
arrives_low k until (Publish v) low within = refl
arrives_low k until (Switch m v) low within = refl
arrives_low k until (Steer j m) low within = refl
arrives_low k until (Lose j hop) low within = refl
arrives_low k until (Close server flow closed) low within = refl
arrives_low k until (Retire server h moment result) low within = refl
arrives_low k until Sync low within = refl

all_ordered : (before : ℕ) (x y : List Note) → AllByRecursion (λ n. IfSome (packet_of n.event.what) (λ k. before < k)) x
    → AllByRecursion (λ n. IfSome (packet_of n.event.what) (λ k. k ≤ before)) y
    → AtEach (λ rest n. IsInOrder rest n.event.what) x → AtEach (λ rest n. IsInOrder rest n.event.what) y
    → AtEach (λ rest n. IsInOrder rest n.event.what) (x ++ y)
all_ordered before [] y later older a b = b
all_ordered before (n ∷ x) y later older a b = (
  order_more x y n.event.what a.0
      (if_some (λ k. before < k) (λ k. AllByRecursion (λ z. arrives_after k z.event.what ≡ false) y)
      (packet_of n.event.what)
      (λ k low. each_so (λ z. IfSome (packet_of z.event.what) (λ j. j ≤ before))
      (λ z. arrives_after k z.event.what ≡ false) y
      (λ z h. arrives_low k before z.event.what low h) older) later.0),
  all_ordered before x y later.1 older a.1 b,
)

-- what a worker does in a phase, after what it did before
pub carriage_more : (R : Routes) (F : Rules) (stage : Stage) (control : List Event) (posts : List ℕ) (m p before : ℕ)
    (x notes : List Note) → counts control is_sync ≡ p → IsCarrier R F stage m x
    → AllByRecursion (λ n. n.seat ≡ suc m) x → AllByRecursion (λ n. sync_clock control < n.event.clock.0) x
    → AllByRecursion (λ n. IfSome (packet_of n.event.what) (λ k. before < k)) x
    → AllByRecursion (λ n. IfSome (packet_of n.event.what) (λ k. phase_of stage k ≡ p)) x
    → AtEach (λ rest n. IsInOrder rest n.event.what) x
    → AtEach (λ rest e. IsMuxGiven stage (sync_clock control) (newest_before control) posts
    (rest ++ mux_log stage m notes)
    e.clock.0 e.what) (mux_log stage m x)
    → AllByRecursion (λ n. IfSome (packet_of n.event.what) (λ k. k ≤ before)) notes
    → IsCarriage R F stage control posts m notes → IsCarriage R F stage control posts m (x ++ notes)
carriage_more R F stage control posts m p before x notes syncs carrier seats later after own ordered gives older c =
    record {
      carrier = carrier_append R F stage m x notes carrier c.carrier;
      seats = each_append (λ n. n.seat ≡ suc m) x notes seats c.seats;
      positive = each_append (λ n. 0 < n.event.clock.0) x notes
          (each_so (λ n. sync_clock control < n.event.clock.0) (λ n. 0 < n.event.clock.0) x (λ n h. omega arith) later)
          c.positive;
      ordered = all_ordered before x notes after older ordered c.ordered;
      gives = subst (λ (l : List Event). AtEach (IsMuxGivenBy stage control posts) l) (sym (log_append stage m x notes))
          (all_given stage control posts (mux_log stage m x) (mux_log stage m notes)
          (log_each (λ e. sync_clock control < e.clock.0) stage m x later) gives c.gives);
      phases = each_append (IsPhasedBy stage control) x notes
          (each_two (λ n. sync_clock control < n.event.clock.0)
          (λ n. IfSome (packet_of n.event.what) (λ k. phase_of stage k ≡ p)) (IsPhasedBy stage control) x
          (λ n l o. phased_here stage control p n syncs l o) later own) c.phases;
    }
