-- How a phase goes on: its first look, its batches, and its end.
use Rattle.std.proofs.Common.{◌≡◌, ℕ, ◌+◌, ◌<◌, ◌≤◌, ◌==◌, ◌&&◌, ◌||◌, Bool, true}
use Rattle.std.proofs.Common.{false, cond, List, [], ◌∷◌, ◌++◌}
use Rattle.std.proofs.Common.{length, reverse, Option, inl, inr, refl, sym, ap, ◌∙◌, subst}
use Rattle.std.proofs.Common.{append_assoc, append-nil, arith, ltb, leb}
use Rattle.std.specs.List.{AllByRecursion}
use Rattle.std.proofs.lemmas.Bool.{cases_lt}
use Rattle.std.proofs.lemmas.Bool.{lt-ltb, le-ltb, le-leb, lt-leb}
use Rattle.std.proofs.lemmas.List.{reverse-append, length-append}
use Rattle.bm_base.specs.declared.fate.Fate.{Fate}
use Rattle.bm_base.specs.declared.ids.MuxId.{MuxId}
use Rattle.bm_base.specs.declared.label.Hop.{Hop}
use Rattle.bm_core.specs.declared.events.Event.{Event}
use Rattle.bm_core.specs.declared.events.Stage.{Stage}
use Rattle.bm_core.specs.declared.events.What.{What}
use Rattle.bm_core.specs.declared.events.What.TheVariants.{Publish, Switch, Steer, Lose, Arrive, Close, Retire, Sync}
use Rattle.bm_core.specs.Accounts.{Rules, count_of, steers_packet}
use Rattle.bm_core.specs.Past.{is_switch_of, label_of, version_at}
use Rattle.bm_core.specs.Runs.{AtEach}
use Rattle.bm_merge.specs.Notes.{Note, events_of, greatest, many, switched_since}
use Rattle.bm_merge.proofs.Noting.{each_append, each_so, events_append, greatest_append, total_append, total_none}
use Rattle.bm_publish.specs.Posts.{Posted, last_post, last_version}
use Rattle.bm_mux.specs.declared.item.MuxItem.{MuxItem}
use Rattle.bm_mux.specs.declared.item.Steered.{Steered}
use Rattle.bm_mux.specs.Muxes.{IsBatch, IsSameMux}
use Rattle.bm_mux.specs.Steers.{at_clock, is_lose, sent, steer_clock, steering_clock, steers, switch_to, switches}
use Rattle.bm_server.specs.Servings.{Serving, shard_at}
use Rattle.bm_server.specs.Seats.{Seated}
use Rattle.bm_worker.specs.declared.worker.MuxWorker.{MuxWorker}
use Rattle.bm_worker.specs.Inside.Batches.{AreDrawn, HasSeen, IsDelivery, IsItemOf}
use Rattle.bm_worker.specs.Inside.Batches.{IsLogged, Rise}
use Rattle.bm_worker.specs.Inside.Batches.{last_packet, last_sent, sent_notes, steering, switch_note, switch_notes}
use Rattle.bm_worker.specs.WorkerNotes.{TimedEvent, GetReplies, clock_of, timed_events}
use Rattle.bm_worker.specs.SeatCalls.{calls_there}
use Rattle.bm_worker.specs.Inside.Pending.{GrowsByLosses}
use Rattle.bm_worker.specs.Phases.{AreCopies, IsPhaseNote, IsMuxGiven}
use Rattle.bm_worker.specs.Phases.{Task, is_steer, mux_log, mux_for}
use Rattle.bm_worker.specs.Assigned.{is_mux, is_assigned, assigned_mux}
use Rattle.bm_worker.proofs.Batching.{sent_notes_are, switch_notes_are}
use Rattle.bm_worker.proofs.Copying.{copies_as}
use Rattle.bm_worker.proofs.Keeping.{Step, at_append, at_so}
use Rattle.bm_worker.proofs.Steering.{AreSteerings, Given, IsSteeringOf, final, final_above, gives_steers}
use Rattle.bm_worker.proofs.Steering.{gives_switch, greatest_sent, label_high}
use Rattle.bm_worker.proofs.Steering.{label_low, sent_events, sent_kinds}
use Rattle.bm_worker.proofs.Steering.{steered_clock}
use Rattle.bm_worker.proofs.Steering.{steerings_home, steerings_noted, steerings_order, steers_above, switch_events}
use Rattle.bm_worker.proofs.Steering.{switch_kinds, switches_above}

-- A BATCH'S LOG

abbrev pub batch_notes : MuxId → Posted → List Event → List MuxItem → List Fate → List Note
batch_notes m seen past items fates =
    sent_notes m (sent m seen (steering_clock (switches m seen past ++ past)) items) fates ++ switch_notes m seen past

reverse_switches : (m : MuxId) (seen : Posted) (past : List Event)
    → reverse (switches m seen past) ≡ switches m seen past
reverse_switches m seen past = of_test (ltb (version_at past m).0 (last_version seen)) where
  of_test : (b : Bool)
      → reverse (cond b (switch_to m seen past (last_post seen) ∷ []) [])
      ≡ cond b (switch_to m seen past (last_post seen) ∷ []) []
  of_test true = refl
  of_test false = refl

pub batch_turned : (m : MuxId) (seen : Posted) (items : List MuxItem) (log log' : List Event) (out out' : List Steered)
    → IsBatch m seen items log log' out out'
    → reverse log' ≡ reverse (steers m (steering_clock (switches m seen (reverse log) ++ reverse log)) items)
    ++ (switches m seen (reverse log) ++ reverse log)
batch_turned m seen items log log' out out' batch =
    let sw = switches m seen (reverse log) in let st = steers m (steering_clock (sw ++ reverse log)) items in
    ap (λ (l : List Event). reverse l) batch.log_is
    ∙ (reverse-append (log ++ sw) st
    ∙ ap (λ (l : List Event). reverse st ++ l)
    (reverse-append log sw ∙ ap (λ (l : List Event). l ++ reverse log) (reverse_switches m seen (reverse log))))

pub batch_kinds : (m : MuxId) (seen : Posted) (past : List Event) (items : List MuxItem) (fates : List Fate)
    → AreSteerings m (batch_notes m seen past items fates)
batch_kinds m seen past items fates =
    each_append (λ (n : Note). IsSteeringOf m n.event.what)
    (sent_notes m (sent m seen (steering_clock (switches m seen past ++ past)) items) fates)
    (switch_notes m seen past) (sent_kinds m (sent m seen (steering_clock (switches m seen past ++ past)) items) fates)
    (switch_kinds m seen past)

batch_log : (F : Rules) (stage : Stage) (m : MuxId) (seen : Posted) (past : List Event) (items : List MuxItem)
    (fates : List Fate) → AreDrawn F items fates
    → mux_log stage m.0 (batch_notes m seen past items fates)
    ≡ reverse (steers m (steering_clock (switches m seen past ++ past)) items) ++ switches m seen past
batch_log F stage m seen past items fates drawn =
    let c = steering_clock (switches m seen past ++ past) in
    ap events_of (steerings_home stage m (batch_notes m seen past items fates) (batch_kinds m seen past items fates))
    ∙ (events_append (sent_notes m (sent m seen c items) fates) (switch_notes m seen past)
    ∙ (λ i. sent_events m seen F c items fates drawn i ++ switch_events m seen past i))

-- what the Switch leaves

pub switch_logged : (m : MuxId) (low : ℕ) (seen : Posted) (past : List Event) → AllByRecursion (IsLogged m low) past
    → AllByRecursion (IsLogged m low) (switches m seen past ++ past)
switch_logged m low seen past all = of_test (ltb (version_at past m).0 (last_version seen)) where
  of_test : (b : Bool)
      → AllByRecursion (IsLogged m low) (cond b (switch_to m seen past (last_post seen) ∷ []) [] ++ past)
  of_test true = (record { own = refl; packet = tt }, all)
  of_test false = all

or_right : (a b : Bool) → b ≡ true → a || b ≡ true
or_right true b is = refl
or_right false b is = is

pub switched_more : (since m : ℕ) (more past : List Event) → switched_since since m past ≡ true
    → switched_since since m (more ++ past) ≡ true
switched_more since m [] past is = is
switched_more since m (e ∷ more) past is =
    or_right (is_switch_of e.what m && leb since e.clock.0) (switched_since since m (more ++ past))
    (switched_more since m more past is)

pub switch_begun : (m : MuxId) (seen : Posted) (past : List Event)
    → steering_clock past ≤ steering_clock (switches m seen past ++ past)
switch_begun m seen past = of_test (ltb (version_at past m).0 (last_version seen)) where
  of_test : (b : Bool)
      → steering_clock past ≤ steering_clock (cond b (switch_to m seen past (last_post seen) ∷ []) [] ++ past)
  of_test true = omega arith
  of_test false = omega arith

switch_greatest : (m : MuxId) (seen : Posted) (past : List Event)
    → greatest clock_of (switch_notes m seen past) ≤ steering_clock (switches m seen past ++ past)
switch_greatest m seen past = of_test (ltb (version_at past m).0 (last_version seen)) where
  of_test : (b : Bool) → greatest clock_of (cond b (switch_note m seen past (last_post seen) ∷ []) [])
      ≤ steering_clock (cond b (switch_to m seen past (last_post seen) ∷ []) [] ++ past)
  of_test true = omega arith
  of_test false = omega arith

-- nothing of it is a call to a shard
pub gets_steerings : (stage : Stage) (servers : List Serving) (m : MuxId) (x : List Note) (a b : List (List Seated))
    → b ≡ a → AreSteerings m x
    → GetReplies stage servers a b x
gets_steerings stage servers m x a b same kinds p h server at =
    let events = timed_events (shard_at server h) (calls_there a p h) in
    ap (λ (l : List (List Seated)). timed_events (shard_at server h) (calls_there l p h)) same
    ∙ (sym (append-nil events) ∙ ap (λ (l : List TimedEvent). events ++ l) (sym (steerings_noted stage m server.id.0 h x kinds)))

-- THE STEP OF A BATCH

final_more : (last : ℕ) (i : MuxItem) (items : List MuxItem) → last < final last (i ∷ items)
final_more last i items = let le = final_above (steer_clock last i) items in omega (arith, le)

pub batch_step : (F : Rules) (stage : Stage) (servers : List Serving) (task : Task) (now next : MuxWorker)
    (d : List Note) (low : ℕ)
    (i : MuxItem) (items : List MuxItem) (fates : List Fate) (out out' : List Steered)
    → now.mux.id ≡ mux_for task → IsSameMux now.mux next.mux
    → IsBatch (mux_for task) next.mux.seen (i ∷ items) now.mux.log next.mux.log out out'
    → HasSeen now next → task.from ≤ low → last_packet low (i ∷ items) ≤ task.until → Rise low (i ∷ items)
    → AllByRecursion (IsItemOf stage task.routes (mux_for task).0) (i ∷ items) → AreDrawn F (i ∷ items) fates
    → AllByRecursion (IsLogged (mux_for task) low) (reverse now.mux.log)
    → switched_since task.after (mux_for task).0 (reverse now.mux.log) ≡ true
    → task.after < steering_clock (reverse now.mux.log)
    → Step F stage servers task now next d
    (batch_notes (mux_for task) next.mux.seen (reverse now.mux.log) (i ∷ items) fates)
batch_step F stage servers task now next d low i items fates out out' id same batch seen_it from until rise each drawn
    logged switched begun =
    let m = mux_for task in let past = reverse now.mux.log in let seen = next.mux.seen in
    let sw = switches m seen past in let c = steering_clock (sw ++ past) in
    let all_items = i ∷ items in
    let st = steers m c all_items in
    let x = batch_notes m seen past all_items fates in
    let s = sent_notes m (sent m seen c all_items) fates in
    let turned = batch_turned m seen all_items now.mux.log next.mux.log out out' batch in
    let log = batch_log F stage m seen past all_items fates drawn in
    let kinds = batch_kinds m seen past all_items fates in
    let posts = next.mux.seen.clocks in let first = last_version task.posted in
    let le_c = switch_begun m seen past in
    record {
      each = each_append (IsPhaseNote F stage servers task (x ++ d)) s (switch_notes m seen past)
          (sent_notes_are F stage servers task seen (x ++ d) c low all_items fates (omega (arith, begun, le_c)) from until
          rise each drawn)
          (switch_notes_are F stage servers task seen (x ++ d) past begun);
      ordered = steerings_order m x d kinds;
      logged = turned ∙ (sym (append_assoc (reverse st) sw past) ∙ ap (λ (l : List Event). l ++ past) (sym log));
      gives = subst (λ (l : List Event). AtEach (Given stage task.after first posts past) l) (sym log)
          (at_append (Given stage task.after first posts past) (reverse st) sw
          (at_so (Given stage task.after first posts (sw ++ past))
          (λ rest e. Given stage task.after first posts past (rest ++ sw) e) (reverse st)
          (λ rest e is. subst (λ (l : List Event). IsMuxGiven stage task.after first posts l e.clock.0 e.what)
          (sym (append_assoc rest sw past)) is)
          (gives_steers stage task.routes m task.after first posts c low all_items (sw ++ past) rise each
          (switch_logged m low seen past logged)
          (switched_more task.after m.0 sw past switched) refl))
          (gives_switch stage m task.after first low seen past logged switched begun));
      replies = gets_steerings stage servers m x now.caller.seats next.caller.seats seen_it.seats kinds;
      copies = λ are. subst (λ (l : List (List Seated)). AreCopies stage m servers (reverse next.mux.log) l)
          (sym seen_it.seats)
          (copies_as stage servers m past (reverse next.mux.log) now.caller.seats
          (λ k l is. let le = label_low stage m low k l past logged is in
          ap (λ (z : List Event). label_of stage z k) turned
          ∙ (label_high stage low k (reverse st) (sw ++ past) le (steers_above m c low low all_items (omega arith) rise)
          ∙ (label_high stage low k sw past le (switches_above m low seen past) ∙ is))) are);
      latest =
          let clock : steering_clock (reverse next.mux.log) ≡ final c all_items =
          ap (λ (l : List Event). steering_clock l) turned ∙ steered_clock m c all_items (sw ++ past) refl in
          let g = greatest_sent F m seen c all_items fates drawn in let h = switch_greatest m seen past in
          let a = greatest_append clock_of s (switch_notes m seen past) in let lt = final_more c i items in
          let l = seen_it.latest in omega (arith, clock, g, h, a, lt, l);
      mux = same;
      caller = seen_it.caller;
    }

-- WHAT A BATCH LEAVES OF THE LOG

pub event_plus : (P : Event → Type 0) (xs ys : List Event) → AllByRecursion P xs → AllByRecursion P ys
    → AllByRecursion P (xs ++ ys)
event_plus P [] ys a b = b
event_plus P (x ∷ xs) ys a b = (a.0, event_plus P xs ys a.1 b)

event_snoc : (P : Event → Type 0) (xs : List Event) (e : Event) → AllByRecursion P xs → P e
    → AllByRecursion P (xs ++ e ∷ [])
event_snoc P xs e all is = event_plus P xs (e ∷ []) all (is, tt)

rise_to : (low : ℕ) (items : List MuxItem) → Rise low items → low ≤ last_packet low items
rise_to low [] rise = omega arith
rise_to low (i ∷ items) rise = let old = rise_to i.packet items rise.1 in let lt = rise.0 in omega (arith, old, lt)

pub steers_logged : (m : MuxId) (last low top : ℕ) (items : List MuxItem) → Rise low items → last_packet low items ≤ top
    → AllByRecursion (IsLogged m top) (reverse (steers m last items))
steers_logged m last low top [] rise le = tt
steers_logged m last low top (i ∷ items) rise le =
    let e = at_clock (steer_clock last i) (Steer i.packet m) in let es = steers m (steer_clock last i) items in
    subst (λ (l : List Event). AllByRecursion (IsLogged m top) l) (sym (reverse-append (e ∷ []) es))
    (event_snoc (IsLogged m top) (reverse es) e (steers_logged m (steer_clock last i) i.packet top items rise.1 le)
    (record { own = refl; packet = (let old = rise_to i.packet items rise.1 in omega (arith, old, le)) }))

pub lost_logged : (m : MuxId) (top : ℕ) (more : List Event) → AllByRecursion (λ (e : Event). is_lose e.what ≡ true) more
    → AllByRecursion (IsLogged m top) more
lost_logged m top [] all = tt
lost_logged m top (e ∷ more) all = (of_what e.what all.0, lost_logged m top more all.1) where
  of_what : (what : What) → is_lose what ≡ true → IsLogged m top (record e { what = what })
  of_what (Lose k hop) is = record { own = tt; packet = tt }
  of_what (Publish v) is = absurd (cc)
  of_what (Switch x v) is = absurd (cc)
  of_what (Steer k x) is = absurd (cc)
  of_what (Arrive k hop server verdict) is = absurd (cc)
  of_what (Close server flow closed) is = absurd (cc)
  of_what (Retire server h at result) is = absurd (cc)
  of_what Sync is = absurd (cc)

pub each_reverse : (P : Event → Type 0) (xs : List Event) → AllByRecursion P xs → AllByRecursion P (reverse xs)
each_reverse P [] all = tt
each_reverse P (x ∷ xs) all =
    subst (λ (l : List Event). AllByRecursion P l) (sym (reverse-append (x ∷ []) xs))
    (event_snoc P (reverse xs) x (each_reverse P xs all.1) all.0)

-- losses leave the mux's clock
pub lost_clock : (more past : List Event) → AllByRecursion (λ (e : Event). is_lose e.what ≡ true) more
    → steering_clock (more ++ past) ≡ steering_clock past
lost_clock [] past all = refl
lost_clock (e ∷ more) past all =
    ap (λ (b : Bool). cond b (steering_clock (more ++ past)) e.clock.0) all.0 ∙ lost_clock more past all.1

pub lost_turned : (n : ℕ) (a b : List Event) (grows : GrowsByLosses n a b) → reverse b ≡ reverse grows.0 ++ reverse a
lost_turned n a b grows = ap (λ (l : List Event). reverse l) grows.1 ∙ reverse-append a grows.0

-- COUNTS

pub sent_many : (F : Rules) (m : MuxId) (seen : Posted) (k last : ℕ) (items : List MuxItem) (fates : List Fate)
    → AreDrawn F items fates
    → many (λ n. steers_packet n.event.what k) (sent_notes m (sent m seen last items) fates)
    ≡ count_of (λ (i : MuxItem). i.packet == k) items
sent_many F m seen k last [] [] drawn = refl
sent_many F m seen k last [] (f ∷ fates) drawn = absurd drawn
sent_many F m seen k last (i ∷ items) [] drawn = absurd drawn
sent_many F m seen k last (i ∷ items) (f ∷ fates) drawn =
    let next = steer_clock last i in let s = sent_notes m (sent m seen next items) fates in
    let n = steering (record { 0 = next }) i.packet m f (m.0 + 1) in
    let old = sent_many F m seen k next items fates drawn.3 in
    let a = total_append (λ n. cond (steers_packet n.event.what k) 1 0) s (n ∷ []) in omega (arith, old, a)

pub sent_steers : (F : Rules) (m : MuxId) (seen : Posted) (last : ℕ) (items : List MuxItem) (fates : List Fate)
    → AreDrawn F items fates
    → (many (λ n. is_steer n.event.what) (sent_notes m (sent m seen last items) fates) ≡ length items)
    × (length (sent_notes m (sent m seen last items) fates) ≡ length items)
sent_steers F m seen last [] [] drawn = (refl, refl)
sent_steers F m seen last [] (f ∷ fates) drawn = absurd drawn
sent_steers F m seen last (i ∷ items) [] drawn = absurd drawn
sent_steers F m seen last (i ∷ items) (f ∷ fates) drawn =
    let next = steer_clock last i in let s = sent_notes m (sent m seen next items) fates in
    let n = steering (record { 0 = next }) i.packet m f (m.0 + 1) in
    let old = sent_steers F m seen next items fates drawn.3 in let one = old.0 in let two = old.1 in
    let a = total_append (λ n. cond (is_steer n.event.what) 1 0) s (n ∷ []) in let b = length-append s (n ∷ []) in
    (omega (arith, one, a), omega (arith, two, b))

-- a delivery is no Steer
pub delivery_none : (test : What → Bool)
    → ((k : ℕ) (hop : Hop) (server : _) (verdict : _) → test (Arrive k hop server verdict) ≡ false)
    → ((k : ℕ) (hop : Hop) → test (Lose k hop) ≡ false) → (y : List Note)
    → AllByRecursion (λ n. IsDelivery n.event.what) y
    → many (λ n. test n.event.what) y ≡ 0
delivery_none test arrive lose y all =
    total_none (λ n. cond (test n.event.what) 1 0) y
    (each_so (λ n. IsDelivery n.event.what) (λ n. ◌≡◌ {A = ℕ} (cond (test n.event.what) 1 0) 0) y
    (λ n is. of_what n.event.what is) all) where
      of_what : (what : What) → IsDelivery what → ◌≡◌ {A = ℕ} (cond (test what) 1 0) 0
      of_what (Arrive k hop server verdict) is = rw (arrive k hop server verdict) refl
      of_what (Lose k hop) is = rw (lose k hop) refl
      of_what (Publish v) is = absurd is
      of_what (Switch x v) is = absurd is
      of_what (Steer k x) is = absurd is
      of_what (Close server flow closed) is = absurd is
      of_what (Retire server h at result) is = absurd is
      of_what Sync is = absurd is

-- HOW FAR

pub last_of_sent : (m : MuxId) (seen : Posted) (last low : ℕ) (items : List MuxItem)
    → last_sent low (sent m seen last items) ≡ last_packet low items
last_of_sent m seen last low [] = refl
last_of_sent m seen last low (i ∷ items) = last_of_sent m seen (steer_clock last i) i.packet items

pub assigned_split : (routes : List (Option MuxId)) (m from low end k : ℕ) → from ≤ low → low ≤ end
    → ◌≡◌ {A = ℕ} (cond (is_assigned routes m from end k) 1 0)
    (cond (is_assigned routes m low end k) 1 0 + cond (is_assigned routes m from low k) 1 0)
assigned_split routes m from low end k a b = elim (cases_lt low k) [
  | inl past ↦ rw (lt-ltb from k (omega (arith, a, past)), lt-ltb low k past, lt-leb k low past)
      (more (leb k end && is_mux (assigned_mux routes k) m))
  | inr before ↦ rw (le-ltb low k before, le-leb k low before, le-leb k end (omega (arith, before, b)))
      (less (ltb from k))
] where
  more : (t : Bool) → ◌≡◌ {A = ℕ} (cond t 1 0) (cond t 1 0 + 0)
  more t = omega arith

  less : (t : Bool)
      → ◌≡◌ {A = ℕ} (cond ((t && true) && is_mux (assigned_mux routes k) m) 1 0)
      (0 + cond ((t && true) && is_mux (assigned_mux routes k) m) 1 0)
  less t = omega arith
