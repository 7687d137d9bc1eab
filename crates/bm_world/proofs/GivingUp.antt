-- What a mux's worker leaves of a phase in which it gave up, beside what it did before.
use Rattle.std.proofs.Common.{◌≡◌, ℕ, suc, ◌<◌, ◌≤◌, max, Bool, true, false, cond, ◌&&◌}
use Rattle.std.proofs.Common.{List, [], ◌∷◌, ◌++◌}
use Rattle.std.proofs.Common.{Option, Some, None, refl, sym, ◌∙◌, subst, arith, eqb, leb, ltb, inl, inr}
use Rattle.std.specs.Prelude.{is_some, ◌⊎◌, ◌-◌}
use Rattle.std.specs.List.{AllByRecursion}
use Rattle.std.proofs.lemmas.Bool.{cases_lt, eq-eqb, and_parts, and_from, or_left, or_right}
use Rattle.std.proofs.lemmas.Bool.{ltb-true}
use mathlib.Core.List.{IsPrefix}
use Rattle.bm_base.specs.declared.ids.MuxId.{MuxId}
use Rattle.bm_core.specs.declared.events.Event.{Event}
use Rattle.bm_core.specs.declared.events.Stage.{Stage}
use Rattle.bm_core.specs.declared.events.What.{What}
use Rattle.bm_core.specs.declared.events.What.TheVariants.{Publish, Switch, Steer, Lose, Arrive, Close, Retire, Sync}
use Rattle.bm_core.specs.Accounts.{Rules, is_sync}
use Rattle.bm_core.specs.Past.{segment_of}
use Rattle.bm_core.specs.Runs.{AtEach, is_by}
use Rattle.bm_core.specs.Runs.Actor.{Controller}
use Rattle.bm_core.specs.Threads.{sync_clock}
use Rattle.bm_merge.specs.Notes.{Note, events_of, total, many, until, top_clock}
use Rattle.bm_merge.specs.Workers.{home_of, home_part, is_home, carries, is_below, is_copyless}
use Rattle.bm_merge.specs.Workers.{IsBefore, IsDrawn, IsMet, HasSending}
use Rattle.bm_merge.proofs.Noting.{total_append, each_append, each_so}
use Rattle.bm_merge.proofs.Reaching.{one_if}
use Rattle.bm_worker.specs.Phases.{mux_log, IsLossOf, IsMuxGiven}
use Rattle.bm_worker.specs.Assigned.{assigned_mux, is_mux, is_assigned}
use Rattle.bm_world.specs.Inside.Left.{IsSyncIn, IsMuxClocked, IsSteerable, IsLeft, IsSynced}
use Rattle.bm_world.proofs.Growing.{post_more, log_append, has_sending_more}

-- SYNCS THAT THERE ARE

pub sync_some : (control : List Event) → IsSyncIn control (sync_clock control)
sync_some [] = inl refl
sync_some (e ∷ control) = go (is_sync e.what) refl (sync_some control) where
  go : (b : Bool) → is_sync e.what ≡ b → IsSyncIn control (sync_clock control)
      → IsSyncIn (e ∷ control) (cond b e.clock.0 (sync_clock control))
  go true is old = inr (or_left _ _ (and_from _ _ is (eq-eqb _ _ refl)))
  go false is (inl none) = inl none
  go false is (inr some) = inr (or_right _ _ some)

sync_more : (e : Event) (control : List Event) (c : ℕ) → IsSyncIn control c → IsSyncIn (e ∷ control) c
sync_more e control c (inl none) = inl none
sync_more e control c (inr some) = inr (or_right _ _ some)

pub sync_append : (y control : List Event) (c : ℕ) → IsSyncIn control c → IsSyncIn (y ++ control) c
sync_append [] control c is = is
sync_append (e ∷ y) control c is = sync_more e (y ++ control) c (sync_append y control c is)

-- CLOCKS

clocked_of : (stage : Stage) (after first : ℕ) (control : List Event) (posts posts' : List ℕ) (rest : List Event)
    (clock : ℕ)
    (what : What) → IsPrefix posts posts' → IsSyncIn control after
    → IsMuxGiven stage after first posts rest clock what → IsMuxClocked stage control posts' rest clock what
clocked_of stage after first control posts posts' rest clock (Switch m v) more sync given =
    (given.1.0, after, post_more posts posts' v.0 given.1.0 more given.1.1, sync, given.1.2)
clocked_of stage after first control posts posts' rest clock (Steer k m) more sync given = given.2
clocked_of stage after first control posts posts' rest clock (Lose k hop) more sync given = tt
clocked_of stage after first control posts posts' rest clock (Arrive k hop server verdict) more sync given = tt
clocked_of stage after first control posts posts' rest clock (Publish v) more sync given = tt
clocked_of stage after first control posts posts' rest clock (Close server flow closed) more sync given = tt
clocked_of stage after first control posts posts' rest clock (Retire server h moment result) more sync given = tt
clocked_of stage after first control posts posts' rest clock Sync more sync given = tt

clocked_now : (stage : Stage) (after first : ℕ) (control : List Event) (posts posts' : List ℕ) (new old : List Event)
    → IsPrefix posts posts' → IsSyncIn control after
    → AtEach (λ rest e. IsMuxGiven stage after first posts (rest ++ old) e.clock.0 e.what) new
    → AtEach (λ rest e. IsMuxClocked stage control posts' rest e.clock.0 e.what) old
    → AtEach (λ rest e. IsMuxClocked stage control posts' rest e.clock.0 e.what) (new ++ old)
clocked_now stage after first control posts posts' [] old more sync given before = before
clocked_now stage after first control posts posts' (e ∷ new) old more sync given before = (
  clocked_of stage after first control posts posts' (new ++ old) e.clock.0 e.what more sync given.0,
  clocked_now stage after first control posts posts' new old more sync given.1 before,
)

-- WHAT WAS DONE BEFORE

loss_more : (x y : List Note) (clock : ℕ) (what : What) → ((f : Note → ℕ) → total f y ≤ total f x)
    → IsLossOf y clock what → IsLossOf x clock what
loss_more x y clock (Lose k hop) more loss =
    let a = more (λ n. one_if (is_copyless k hop loss.0 n)) in let b = loss.2 in (loss.0, loss.1, omega arith)
loss_more x y clock (Publish v) more loss = tt
loss_more x y clock (Switch m v) more loss = tt
loss_more x y clock (Steer k m) more loss = tt
loss_more x y clock (Arrive k hop server verdict) more loss = tt
loss_more x y clock (Close server flow closed) more loss = tt
loss_more x y clock (Retire server h moment result) more loss = tt
loss_more x y clock Sync more loss = tt

assigned_known : (stage : Stage) (routes : List (Option MuxId)) (m from until k : ℕ)
    → ((k m : ℕ) → assigned_mux routes k ≡ Some m → is_some (segment_of stage k) ≡ true)
    → is_assigned routes m from until k ≡ true → is_some (segment_of stage k) ≡ true
assigned_known stage routes m from until k steerable is =
    go (assigned_mux routes k) refl ((and_parts (ltb from k && leb k until) (is_mux (assigned_mux routes k) m) is).1) where
      go : (o : Option ℕ) → assigned_mux routes k ≡ o → is_mux o m ≡ true → is_some (segment_of stage k) ≡ true
      go None at h = absurd (cc)
      go (Some i) at h = steerable k i at

-- the controller's log and the posts go on
clock_later : (stage : Stage) (control y : List Event) (posts posts' : List ℕ) (rest : List Event) (clock : ℕ)
    (what : What) → IsPrefix posts posts' → IsMuxClocked stage control posts rest clock what
    → IsMuxClocked stage (y ++ control) posts' rest clock what
clock_later stage control y posts posts' rest clock (Switch m v) more c =
    (c.0, c.1, post_more posts posts' v.0 c.0 more c.2, sync_append y control c.1 c.3, c.4)
clock_later stage control y posts posts' rest clock (Steer k m) more c = c
clock_later stage control y posts posts' rest clock (Lose k hop) more c = tt
clock_later stage control y posts posts' rest clock (Arrive k hop server verdict) more c = tt
clock_later stage control y posts posts' rest clock (Publish v) more c = tt
clock_later stage control y posts posts' rest clock (Close server flow closed) more c = tt
clock_later stage control y posts posts' rest clock (Retire server h moment result) more c = tt
clock_later stage control y posts posts' rest clock Sync more c = tt

clocks_later : (stage : Stage) (control y : List Event) (posts posts' : List ℕ) (log : List Event)
    → IsPrefix posts posts' → AtEach (λ rest e. IsMuxClocked stage control posts rest e.clock.0 e.what) log
    → AtEach (λ rest e. IsMuxClocked stage (y ++ control) posts' rest e.clock.0 e.what) log
clocks_later stage control y posts posts' [] more each = tt
clocks_later stage control y posts posts' (e ∷ log) more each = (
  clock_later stage control y posts posts' log e.clock.0 e.what more each.0,
  clocks_later stage control y posts posts' log more each.1,
)

pub left_later : (F : Rules) (stage : Stage) (control y : List Event) (posts posts' : List ℕ) (m : ℕ)
    (notes : List Note) → IsPrefix posts posts' → IsLeft F stage control posts m notes
    → IsLeft F stage (y ++ control) posts' m notes
left_later F stage control y posts posts' m notes more left = record {
  kinds = left.kinds;
  seats = left.seats;
  has_sending = left.has_sending;
  drawn = left.drawn;
  losses = left.losses;
  steerable = left.steerable;
  gives = clocks_later stage control y posts posts' (mux_log stage m notes) more left.gives;
}

pub assigned_steerable : (stage : Stage) (routes : List (Option MuxId)) (m from until : ℕ) (what : What)
    → ((k m : ℕ) → assigned_mux routes k ≡ Some m → is_some (segment_of stage k) ≡ true)
    → ((k : ℕ) (x : MuxId) → what ≡ Steer k x → is_assigned routes m from until k ≡ true) → IsSteerable stage what
assigned_steerable stage routes m from until (Steer k x) known assigned =
    assigned_known stage routes m from until k known (assigned k x refl)
assigned_steerable stage routes m from until (Publish v) known assigned = tt
assigned_steerable stage routes m from until (Switch x v) known assigned = tt
assigned_steerable stage routes m from until (Lose k hop) known assigned = tt
assigned_steerable stage routes m from until (Arrive k hop server verdict) known assigned = tt
assigned_steerable stage routes m from until (Close server flow closed) known assigned = tt
assigned_steerable stage routes m from until (Retire server h moment result) known assigned = tt
assigned_steerable stage routes m from until Sync known assigned = tt

-- with a part of a phase more
pub left_more : (F : Rules) (stage : Stage) (control : List Event) (after first : ℕ) (posts posts' : List ℕ) (m : ℕ)
    (x notes : List Note) → IsPrefix posts posts' → IsSyncIn control after
    → AllByRecursion (λ n. carries m n.event.what ≡ true) x → AllByRecursion (λ n. n.seat ≡ suc m) x
    → AllByRecursion (λ n. HasSending x n n.event.what) x → AllByRecursion (IsDrawn F) x
    → AllByRecursion (λ n. IsLossOf x n.event.clock.0 n.event.what) x
    → AllByRecursion (λ n. IsSteerable stage n.event.what) x
    → AtEach (λ rest e. IsMuxGiven stage after first posts (rest ++ mux_log stage m notes) e.clock.0 e.what)
    (mux_log stage m x)
    → IsLeft F stage control posts' m notes → IsLeft F stage control posts' m (x ++ notes)
left_more F stage control after first posts posts' m x notes more sync kinds seats has_sending drawn losses steerable gives
    left = record {
      kinds = each_append (λ n. carries m n.event.what ≡ true) x notes kinds left.kinds;
      seats = each_append (λ n. n.seat ≡ suc m) x notes seats left.seats;
      has_sending = each_append (λ n. HasSending (x ++ notes) n n.event.what) x notes
          (each_so (λ n. HasSending x n n.event.what) (λ n. HasSending (x ++ notes) n n.event.what) x
          (λ n h. has_sending_more (x ++ notes) x n n.event.what (λ f. let s = total_append f x notes in omega arith) h) has_sending)
          (each_so (λ n. HasSending notes n n.event.what) (λ n. HasSending (x ++ notes) n n.event.what) notes
          (λ n h. has_sending_more (x ++ notes) notes n n.event.what (λ f. let s = total_append f x notes in omega arith) h)
          left.has_sending);
      drawn = each_append (IsDrawn F) x notes drawn left.drawn;
      losses = each_append (λ n. IsLossOf (x ++ notes) n.event.clock.0 n.event.what) x notes
          (each_so (λ n. IsLossOf x n.event.clock.0 n.event.what)
          (λ n. IsLossOf (x ++ notes) n.event.clock.0 n.event.what) x
          (λ n h. loss_more (x ++ notes) x n.event.clock.0 n.event.what
          (λ f. let s = total_append f x notes in omega arith) h) losses)
          (each_so (λ n. IsLossOf notes n.event.clock.0 n.event.what)
          (λ n. IsLossOf (x ++ notes) n.event.clock.0 n.event.what) notes
          (λ n h. loss_more (x ++ notes) notes n.event.clock.0 n.event.what
          (λ f. let s = total_append f x notes in omega arith) h) left.losses);
      steerable = each_append (λ n. IsSteerable stage n.event.what) x notes steerable left.steerable;
      gives = subst (λ (l : List Event). AtEach (λ rest e. IsMuxClocked stage control posts' rest e.clock.0 e.what) l)
          (sym (log_append stage m x notes))
          (clocked_now stage after first control posts posts' (mux_log stage m x) (mux_log stage m notes) more sync
          gives left.gives);
    }

-- SYNCS OF WORKER 0

abbrev IsTop : ℕ → List Note → ℕ → Type 0
IsTop c all t = (t ≡ 0) ⊎ ((t < c) × (1 ≤ many (λ y. eqb y.event.clock.0 t) all))

top_first : (c : ℕ) (n : Note) (all : List Note) (t : ℕ) → n.event.clock.0 < c → t ≡ n.event.clock.0
    → IsTop c (n ∷ all) t
top_first c n all t low same =
    let yes : eqb n.event.clock.0 t ≡ true = eq-eqb _ _ (sym same)
    in inr (omega arith, rw yes (omega arith))

top_rest : (c : ℕ) (n : Note) (all : List Note) (t old : ℕ) → t ≡ old → IsTop c all old → IsTop c (n ∷ all) t
top_rest c n all t old same (inl none) = inl (same ∙ none)
top_rest c n all t old same (inr some) =
    subst (λ (k : ℕ). IsTop c (n ∷ all) k) (sym same) (inr (some.0, (let one = some.1 in omega arith)))

top_before : (c : ℕ) (all : List Note) → IsTop c all (top_clock (is_below c) all)
top_before c [] = inl refl
top_before c (n ∷ all) = go (ltb n.event.clock.0 c) refl (top_before c all) where
  go : (b : Bool) → ltb n.event.clock.0 c ≡ b → IsTop c all (top_clock (is_below c) all)
      → IsTop c (n ∷ all) (max (cond b n.event.clock.0 0) (top_clock (is_below c) all))
  go false is old = top_rest c n all _ (top_clock (is_below c) all) (omega arith) old
  go true is old = elim (cases_lt n.event.clock.0 (top_clock (is_below c) all)) [
    | inl under ↦ top_rest c n all _ (top_clock (is_below c) all) (omega arith) old
    | inr over ↦ top_first c n all _ (ltb-true _ _ is) (omega arith)
  ]

synced_one : (stage : Stage) (all more : List Note) (rest : List Event) (n : Note) (what : What) → n.event.what ≡ what
    → ((f : Note → ℕ) → total f all ≤ total f more) → IsMet stage all rest n what → IsSynced stage more n what
synced_one stage all more rest n Sync is less met = (
  top_clock (is_below n.event.clock.0) all,
  before_of (top_before n.event.clock.0 all),
  met.1,
) where
  before_of : IsTop n.event.clock.0 all (top_clock (is_below n.event.clock.0) all)
      → IsBefore more n.event.clock.0 (top_clock (is_below n.event.clock.0) all)
  before_of (inl none) = inl none
  before_of (inr some) =
      let a = less (λ y. one_if (eqb y.event.clock.0 (top_clock (is_below n.event.clock.0) all)))
      in let b = some.1
      in inr (some.0, omega arith)
synced_one stage all more rest n (Publish v) is less met = tt
synced_one stage all more rest n (Switch m v) is less met = tt
synced_one stage all more rest n (Steer k m) is less met = tt
synced_one stage all more rest n (Lose k hop) is less met = tt
synced_one stage all more rest n (Arrive k hop server verdict) is less met = tt
synced_one stage all more rest n (Close server flow closed) is less met = tt
synced_one stage all more rest n (Retire server h moment result) is less met = tt

pub unsynced : (stage : Stage) (more : List Note) (n : Note) (what : What) → is_sync what ≡ false
    → IsSynced stage more n what
unsynced stage more n Sync not = absurd (cc)
unsynced stage more n (Publish v) not = tt
unsynced stage more n (Switch m v) not = tt
unsynced stage more n (Steer k m) not = tt
unsynced stage more n (Lose k hop) not = tt
unsynced stage more n (Arrive k hop server verdict) not = tt
unsynced stage more n (Close server flow closed) not = tt
unsynced stage more n (Retire server h moment result) not = tt

sync_home : (stage : Stage) (seat : ℕ) (what : What) → is_sync what ≡ true
    → is_by (home_of stage seat what) Controller ≡ true
sync_home stage seat Sync is = refl
sync_home stage seat (Publish v) is = absurd (cc)
sync_home stage seat (Switch m v) is = absurd (cc)
sync_home stage seat (Steer k m) is = absurd (cc)
sync_home stage seat (Lose k hop) is = absurd (cc)
sync_home stage seat (Arrive k hop server verdict) is = absurd (cc)
sync_home stage seat (Close server flow closed) is = absurd (cc)
sync_home stage seat (Retire server h moment result) is = absurd (cc)

-- each Sync came after its phase, so each has its clock from what was done
pub all_synced : (stage : Stage) (all more x : List Note) → ((f : Note → ℕ) → total f all ≤ total f more)
    → AtEach (λ rest n. IsMet stage all (events_of rest) n n.event.what) (home_part stage Controller x)
    → AllByRecursion (λ n. IsSynced stage more n n.event.what) x
all_synced stage all more [] less met = tt
all_synced stage all more (n ∷ x) less met =
    go (is_home stage Controller n) refl (is_sync n.event.what) refl met (λ m. all_synced stage all more x less m) where
      go : (b : Bool) → is_home stage Controller n ≡ b → (s : Bool) → is_sync n.event.what ≡ s
          → AtEach (λ rest y. IsMet stage all (events_of rest) y y.event.what)
          (cond b (n ∷ home_part stage Controller x) (home_part stage Controller x))
          → (AtEach (λ rest y. IsMet stage all (events_of rest) y y.event.what) (home_part stage Controller x)
          → AllByRecursion (λ y. IsSynced stage more y y.event.what) x)
          → IsSynced stage more n n.event.what × AllByRecursion (λ y. IsSynced stage more y y.event.what) x
      go true home s is m old =
          (synced_one stage all more (events_of (home_part stage Controller x)) n n.event.what refl less m.0, old m.1)
      go false home false is m old = (unsynced stage more n n.event.what is, old m)
      go false home true is m old =
          absurd (let yes = sync_home stage n.seat n.event.what is in let bad : true ≡ false = sym yes ∙ home in cc)
