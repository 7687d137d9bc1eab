-- A batch: from one place of a phase to the next.
use Rattle.std.proofs.Common.{◌≡◌, ◌≢◌, ℕ, zero, suc, ◌+◌, ◌*◌, ◌^◌, ◌<◌, ◌≤◌, ◌==◌, ◌&&◌, Bool, true, false, cond}
use Rattle.std.proofs.Common.{List, [], ◌∷◌, ◌++◌}
use Rattle.std.proofs.Common.{length, reverse, map, slice_get, Option, Some, Result, Ok, Err, refl, sym, ap, ◌∙◌, subst}
use Rattle.std.proofs.Common.{append_assoc, arith, ltb, leb}
use Rattle.std.specs.Prelude.{All, IsErrAnd, MatchResult}
use Rattle.std.specs.List.{AllByRecursion}
use Rattle.std.proofs.lemmas.List.{length-append}
use Rattle.std.proofs.lemmas.List.Elements.{All-cons, All-nil}
use Rattle.bm_base.specs.declared.capture.Record.{Record}
use Rattle.bm_base.specs.declared.fate.Fate.{Fate}
use Rattle.bm_base.specs.declared.ids.MuxId.{MuxId}
use Rattle.bm_base.specs.declared.ids.Version.{Version}
use Rattle.bm_base.specs.Captures.{AreRising}
use Rattle.bm_core.specs.declared.events.Event.{Event}
use Rattle.bm_core.specs.declared.events.Stage.{Stage}
use Rattle.bm_core.specs.declared.events.What.{What}
use Rattle.bm_core.specs.declared.events.What.TheVariants.{Publish, Switch, Steer, Lose, Arrive, Close, Retire, Sync}
use Rattle.bm_core.specs.Accounts.{Rules, arrives, count_of, loses, steers_packet}
use Rattle.bm_core.specs.Past.{is_switch_of, sends, version_at}
use Rattle.bm_core.specs.Stages.{IsSound}
use Rattle.bm_core.specs.Threads.{moment_in, record_moment}
use Rattle.bm_merge.specs.Notes.{Note, many, switched_since, total}
use Rattle.bm_merge.proofs.Noting.{each_append, each_so, total_append, total_none}
use Rattle.bm_publish.specs.Posts.{Continues, Posted, last_post, last_version}
use Rattle.bm_mux.specs.declared.item.MuxItem.{MuxItem}
use Rattle.bm_mux.specs.declared.item.Steered.{Steered}
use Rattle.bm_mux.specs.Muxes.{HasSteered, IsBatch, IsItem, MuxState}
use Rattle.bm_mux.specs.Steers.{sent, steer_clock, steering_clock, steers, switch_to, switches}
use Rattle.bm_server.specs.Servings.{Serving}
use Rattle.bm_turnstile.specs.Sittings.{who}
use Rattle.bm_worker.specs.declared.stop.Stop.{Stop}
use Rattle.bm_worker.specs.declared.stop.Stop.TheVariants.{Memory}
use Rattle.bm_worker.specs.declared.worker.MuxWorker.{MuxWorker}
use Rattle.bm_worker.specs.Inside.Batches.{AreCollected, AreDrawn, HaveSendings, AreSettled, CarriesTo, Delivers, GrowsBy}
use Rattle.bm_worker.specs.Inside.Batches.{HasOnlyLooked, HasSeen}
use Rattle.bm_worker.specs.Inside.Batches.{IsDelivery, IsDoneTo, IsItemOf, IsLogged, IsSent, CompletesAll}
use Rattle.bm_worker.specs.Inside.Batches.{last_packet, last_sent, sent_notes, switch_note, switch_notes}
use Rattle.bm_worker.specs.WorkerNotes.{AreServersOf}
use Rattle.bm_worker.specs.Inside.Pending.{GrowsByLosses, IsUpTo, comes, comes_by, copyless_at, gives, gives_by, lost_at}
use Rattle.bm_worker.specs.Phases.{AreCopies, AreFew, HasEnded, IsStopOf, Kept, Task, is_steer, mux_for}
use Rattle.bm_worker.specs.Callers.{CallerState}
use Rattle.bm_worker.specs.SeatCalls.{calls_there}
use Rattle.bm_worker.specs.Assigned.{is_assigned}
use Rattle.bm_worker.proofs.Batching.{all_sent, batch_version, sent_has_sending}
use Rattle.bm_worker.proofs.Carrying.{ended}
use Rattle.bm_worker.proofs.Copying.{copies_stay}
use Rattle.bm_worker.proofs.Delivering.{ups_to_more}
use Rattle.bm_worker.proofs.CallNotes.{gets_no_call}
use Rattle.bm_worker.proofs.Keeping.{kept_more, more_many}
use Rattle.bm_worker.proofs.Phasing.{batch_kinds, batch_notes, batch_step, batch_turned, delivery_none, each_reverse}
use Rattle.bm_worker.proofs.Phasing.{event_plus, last_of_sent, lost_clock, lost_logged, lost_turned, sent_many}
use Rattle.bm_worker.proofs.Phasing.{assigned_split, sent_steers, steers_logged, switch_begun, switch_logged}
use Rattle.bm_worker.proofs.Phasing.{switched_more}
use Rattle.bm_worker.proofs.Steering.{AreSteerings, IsSteeringOf, final, final_above, logged_more, steered_clock}
use Rattle.bm_worker.proofs.Steering.{steering_up_to}

-- SUMS

-- of what is 0 for a Steer and a Switch
pub steering_none : (m : MuxId) (g : What → Note → ℕ) → ((k : ℕ) (x : MuxId) (n : Note) → g (Steer k x) n ≡ 0)
    → ((x : MuxId) (v : Version) (n : Note) → g (Switch x v) n ≡ 0) → (x : List Note) → AreSteerings m x
    → total (λ n. g n.event.what n) x ≡ 0
steering_none m g steer switch x all =
    total_none (λ n. g n.event.what n) x
    (each_so (λ n. IsSteeringOf m n.event.what) (λ n. g n.event.what n ≡ 0) x (λ n is. of_what n n.event.what is) all)
  where
    of_what : (n : Note) (what : What) → IsSteeringOf m what → g what n ≡ 0
    of_what n (Steer k y) is = steer k y n
    of_what n (Switch y v) is = switch y v n
    of_what n (Publish v) is = absurd is
    of_what n (Lose k hop) is = absurd is
    of_what n (Arrive k hop server verdict) is = absurd is
    of_what n (Close server flow closed) is = absurd is
    of_what n (Retire server h at result) is = absurd is
    of_what n Sync is = absurd is

-- of what is 0 for a Switch
pub switch_none : (m : MuxId) (seen : Posted) (past : List Event) (g : What → Note → ℕ)
    → ((x : MuxId) (v : Version) (n : Note) → g (Switch x v) n ≡ 0)
    → total (λ n. g n.event.what n) (switch_notes m seen past) ≡ 0
switch_none m seen past g none = of_test (ltb (version_at past m).0 (last_version seen)) where
  of_test : (b : Bool)
      → total (λ n. g n.event.what n) (cond b (switch_note m seen past (last_post seen) ∷ []) []) ≡ 0
  of_test true =
      ap (λ (z : ℕ). z + 0) (none m (record { 0 = last_version seen }) (switch_note m seen past (last_post seen)))
  of_test false = refl

switch_few : (m : MuxId) (seen : Posted) (past : List Event) → length (switch_notes m seen past) ≤ 1
switch_few m seen past = of_test (ltb (version_at past m).0 (last_version seen)) where
  of_test : (b : Bool) → length (cond b (switch_note m seen past (last_post seen) ∷ []) []) ≤ 1
  of_test true = omega arith
  of_test false = omega arith

-- what was steered is completed, and so is all that was before
batch_settled : (m : MuxId) (seen : Posted) (past : List Event) (s d y : List Note)
    → AreSteerings m (s ++ switch_notes m seen past)
    → CompletesAll s y → AreSettled d → AreSettled (y ++ ((s ++ switch_notes m seen past) ++ d))
batch_settled m seen past s d y kinds completes old =
    let sw = switch_notes m seen past in
    record {
      lost = λ k hop c.
          let a = total_append (lost_at k hop c) y ((s ++ sw) ++ d) in
          let b = total_append (lost_at k hop c) (s ++ sw) d in
          let e = total_append (copyless_at k hop c) y ((s ++ sw) ++ d) in
          let f = total_append (copyless_at k hop c) (s ++ sw) d in
          let g = total_append (copyless_at k hop c) s sw in
          let none : total (lost_at k hop c) (s ++ sw) ≡ 0 =
          steering_none m (λ w n. cond (loses w k hop && n.event.clock.0 == suc c) 1 0) (λ j x n. refl) (λ x v n. refl)
          (s ++ sw) kinds in
          let no : total (copyless_at k hop c) sw ≡ 0 =
          switch_none m seen past
          (λ w n. cond (sends w k hop && (n.fate.copies == 0 && n.event.clock.0 == c)) 1 0) (λ x v n. refl) in
          let one = completes.lost k hop c in let two = old.lost k hop c in
          omega (arith, a, b, e, f, g, none, no, one, two);
      sent = λ k hop c.
          let a = total_append (comes_by k hop c) y ((s ++ sw) ++ d) in
          let b = total_append (comes_by k hop c) (s ++ sw) d in
          let e = total_append (gives_by k hop c) y ((s ++ sw) ++ d) in
          let f = total_append (gives_by k hop c) (s ++ sw) d in
          let g = total_append (gives_by k hop c) s sw in
          let none : total (comes_by k hop c) (s ++ sw) ≡ 0 =
          steering_none m (λ w n. cond (arrives w k hop && leb n.event.clock.0 c) 1 0) (λ j x n. refl) (λ x v n. refl)
          (s ++ sw) kinds in
          let no : total (gives_by k hop c) sw ≡ 0 =
          switch_none m seen past (λ w n. cond (sends w k hop && ltb n.event.clock.0 c) n.fate.copies 0)
          (λ x v n. refl) in
          let one = completes.sent k hop c in let two = old.sent k hop c in
          omega (arith, a, b, e, f, g, none, no, one, two);
      arrived = λ k hop.
          let a = total_append (comes k hop) y ((s ++ sw) ++ d) in
          let b = total_append (comes k hop) (s ++ sw) d in
          let e = total_append (gives k hop) y ((s ++ sw) ++ d) in
          let f = total_append (gives k hop) (s ++ sw) d in
          let g = total_append (gives k hop) s sw in
          let none : total (comes k hop) (s ++ sw) ≡ 0 =
          steering_none m (λ w n. cond (arrives w k hop) 1 0) (λ j x n. refl) (λ x v n. refl) (s ++ sw) kinds in
          let no : total (gives k hop) sw ≡ 0 =
          switch_none m seen past (λ w n. cond (sends w k hop) n.fate.copies 0) (λ x v n. refl) in
          let one = completes.arrived k hop in let two = old.arrived k hop in
          omega (arith, a, b, e, f, g, none, no, one, two);
    }

-- COUNTS

sent_length : (m : MuxId) (seen : Posted) (last : ℕ) (items : List MuxItem)
    → length (sent m seen last items) ≡ length items
sent_length m seen last [] = refl
sent_length m seen last (i ∷ items) = let old = sent_length m seen (steer_clock last i) items in omega (arith, old)

batch_few : (F : Rules) (m : MuxId) (seen : Posted) (past : List Event) (items : List MuxItem) (fates : List Fate)
    (y d : List Note) → AreDrawn F items fates → 1 ≤ length items → length y ≤ 39 * length items
    → AllByRecursion (λ n. IsDelivery n.event.what) y → AreFew d
    → AreFew (y ++ (batch_notes m seen past items fates ++ d))
batch_few F m seen past items fates y d drawn some short deliveries few =
    let s = sent_notes m (sent m seen (steering_clock (switches m seen past ++ past)) items) fates in
    let sw = switch_notes m seen past in
    let a = length-append y ((s ++ sw) ++ d) in let b = length-append (s ++ sw) d in let e = length-append s sw in
    let most = switch_few m seen past in
    let st = sent_steers F m seen (steering_clock (switches m seen past ++ past)) items fates drawn in
    let one = st.0 in let two = st.1 in
    let p = total_append (λ n. cond (is_steer n.event.what) 1 0) y ((s ++ sw) ++ d) in
    let q = total_append (λ n. cond (is_steer n.event.what) 1 0) (s ++ sw) d in
    let t = total_append (λ n. cond (is_steer n.event.what) 1 0) s sw in
    omega (arith, a, b, e, most, one, two, p, q, t, some, short, few)

batch_steered : (F : Rules) (routes : List _) (m : MuxId) (seen : Posted) (past : List Event) (from low end : ℕ)
    (items : List MuxItem) (fates : List Fate) (y d : List Note) (k : ℕ) → AreDrawn F items fates → from ≤ low
    → low ≤ end
    → count_of (λ (i : MuxItem). i.packet == k) items ≡ cond (is_assigned routes m.0 low end k) 1 0
    → many (λ n. steers_packet n.event.what k) d ≡ cond (is_assigned routes m.0 from low k) 1 0
    → AllByRecursion (λ n. IsDelivery n.event.what) y
    → many (λ n. steers_packet n.event.what k) (y ++ (batch_notes m seen past items fates ++ d))
    ≡ cond (is_assigned routes m.0 from end k) 1 0
batch_steered F routes m seen past from low end items fates y d k drawn le up once old deliveries =
    let s = sent_notes m (sent m seen (steering_clock (switches m seen past ++ past)) items) fates in
    let sw = switch_notes m seen past in
    let one = sent_many F m seen k (steering_clock (switches m seen past ++ past)) items fates drawn in
    let none = delivery_none (λ w. steers_packet w k) (λ j hop server verdict. refl) (λ j hop. refl) y deliveries in
    let no : total (λ n. cond (steers_packet n.event.what k) 1 0) sw ≡ 0 =
    switch_none m seen past (λ w n. cond (steers_packet w k) 1 0) (λ x v n. refl) in
    let p = total_append (λ n. cond (steers_packet n.event.what k) 1 0) y ((s ++ sw) ++ d) in
    let q = total_append (λ n. cond (steers_packet n.event.what k) 1 0) (s ++ sw) d in
    let t = total_append (λ n. cond (steers_packet n.event.what k) 1 0) s sw in
    let split = assigned_split routes m.0 from low end k le up in
    omega (arith, one, none, no, p, q, t, split, once, old)

-- THE POSTS GO ON

pub continues_on : (a b c : Posted) → Continues a b → Continues b c → Continues a c
continues_on a b c p q = record {
  board = q.board ∙ p.board;
  plan = q.plan ∙ p.plan;
  posts = (
    p.posts.0 ++ q.posts.0,
    sym (append_assoc a.clocks p.posts.0 q.posts.0) ∙ (ap (λ l. l ++ q.posts.0) p.posts.1 ∙ q.posts.1),
  );
}

-- STEERED AND DELIVERED

-- the clock under which a batch is steered
abbrev clock_of_batch : MuxWorker → MuxWorker → MuxId → ℕ
clock_of_batch now mid m = steering_clock (switches m mid.mux.seen (reverse now.mux.log) ++ reverse now.mux.log)

-- the notes of a batch, on those before
abbrev with_batch : MuxWorker → MuxWorker → MuxId → List MuxItem → List Fate → List Note → List Note
with_batch now mid m items fates d = batch_notes m mid.mux.seen (reverse now.mux.log) items fates ++ d

delivered_in : (F : Rules) (stage : Stage) (servers : List Serving) (task : Task) (now mid next : MuxWorker)
    (d : List Note) (low end : ℕ) (i : MuxItem) (items : List MuxItem) (fates : List Fate) (sents : List Steered)
    (r : Result (Unit {0}) Stop) → IsDoneTo F stage servers task now low d
    → AreCollected F stage task.routes (mux_for task).0 low end (i ∷ items) fates → end ≤ task.until
    → HasSteered now.mux (i ∷ items) mid.mux [] sents → HasSeen now mid
    → Delivers F stage servers sents fates mid next r
    → (y : List Note) × Kept F stage servers task next (y ++ with_batch now mid (mux_for task) (i ∷ items) fates d)
    × (length y ≤ 39 * length (i ∷ items)) × AllByRecursion (λ n. IsDelivery n.event.what) y
    × MatchResult r
    (λ _. CompletesAll (sent_notes (mux_for task) (sent (mux_for task) mid.mux.seen
    (clock_of_batch now mid (mux_for task)) (i ∷ items)) fates) y
    × AllByRecursion (λ n. IsUpTo (last_packet low (i ∷ items)) n.event.what) y)
    (λ stop. IsStopOf (y ++ with_batch now mid (mux_for task) (i ∷ items) fates d) stop)
delivered_in F stage servers task now mid next d low end i items fates sents r done got until steered seen_it
    delivers =
    let m = mux_for task in let past = reverse now.mux.log in let seen = mid.mux.seen in
    let all = i ∷ items in
    let c = steering_clock (switches m seen past ++ past) in
    let s = sent_notes m (sent m seen c all) fates in let sw = switch_notes m seen past in
    let x = s ++ sw in
    let id : now.mux.id ≡ m = done.kept.mux.id in
    let batch : IsBatch m seen all now.mux.log mid.mux.log [] sents =
    subst (λ (j : MuxId). IsBatch j seen all now.mux.log mid.mux.log [] sents) id steered.batch in
    let top : last_packet low all ≤ task.until = (let u = got.under in omega (arith, u, until)) in
    let step = batch_step F stage servers task now mid d low i items fates [] sents id steered.looked.same batch
    seen_it done.from top got.rise got.each got.drawn done.logged done.switched done.begun in
    let kept = kept_more F stage servers task now mid d x done.kept step in
    let same : sents ≡ sent m seen c all = batch.out_is in
    let after : task.after ≤ c = (let a = done.begun in let b = switch_begun m seen past in omega (arith, a, b)) in
    let has_sending : HaveSendings task (x ++ d) low (sent m seen c all) fates =
    sent_has_sending F stage task seen (x ++ d) c low all fates after done.from top got.rise got.drawn
    (λ f. (let a = total_append f x d in let b = total_append f s sw in omega (arith, a, b))) in
    let ups : AllByRecursion (λ n. IsUpTo low n.event.what) (x ++ d) =
    each_append (λ n. IsUpTo low n.event.what) x d
    (each_so (λ n. IsSteeringOf m n.event.what) (λ n. IsUpTo low n.event.what) x
    (λ n is. steering_up_to low m n.event.what is) (batch_kinds m seen past all fates)) done.first in
    let o = delivers task (x ++ d) low kept
    (subst (λ (l : List Steered). HaveSendings task (x ++ d) low l fates) (sym same) has_sending) ups in (
      o.0,
      o.1,
      (let a = o.2 in let e : length sents ≡ length (sent m seen c all) = ap (λ (l : List Steered). length l) same in
          let f = sent_length m seen c all in omega (arith, a, e, f)),
      o.3,
      subst (λ (k : ℕ). MatchResult r
          (λ _. CompletesAll s o.0 × AllByRecursion (λ n. IsUpTo k n.event.what) o.0)
          (λ stop. IsStopOf (o.0 ++ (x ++ d)) stop)) (last_of_sent m seen c low all)
          (subst (λ (l : List Steered). MatchResult r
          (λ _. CompletesAll (sent_notes m l fates) o.0 × AllByRecursion (λ n. IsUpTo (last_sent low l) n.event.what) o.0)
          (λ stop. IsStopOf (o.0 ++ (x ++ d)) stop)) same o.4),
    )

-- the worker gave up in the batch
stopped_in : (F : Rules) (stage : Stage) (servers : List Serving) (task : Task) (now mid next : MuxWorker)
    (d : List Note) (low end : ℕ) (i : MuxItem) (items : List MuxItem) (fates : List Fate) (sents : List Steered)
    (stop : Stop) → IsDoneTo F stage servers task now low d
    → AreCollected F stage task.routes (mux_for task).0 low end (i ∷ items) fates → end ≤ task.until
    → HasSteered now.mux (i ∷ items) mid.mux [] sents → HasSeen now mid
    → Delivers F stage servers sents fates mid next (Err stop)
    → HasEnded F stage servers task next (Some stop)
stopped_in F stage servers task now mid next d low end i items fates sents stop done got until steered seen_it
    delivers =
    let o = delivered_in F stage servers task now mid next d low end i items fates sents (Err stop) done got until
    steered seen_it delivers in (
      o.0 ++ with_batch now mid (mux_for task) (i ∷ items) fates d,
      o.1,
      o.4,
      batch_few F (mux_for task) mid.mux.seen (reverse now.mux.log) (i ∷ items) fates o.0 d got.drawn (omega arith) o.2
          o.3 done.few,
    )

-- the batch is done
done_in : (F : Rules) (stage : Stage) (servers : List Serving) (task : Task) (now mid next : MuxWorker)
    (d : List Note) (low end most : ℕ) (i : MuxItem) (items : List MuxItem) (fates : List Fate) (sents : List Steered)
    → IsDoneTo F stage servers task now low d
    → AreCollected F stage task.routes (mux_for task).0 low end (i ∷ items) fates → low ≤ end → end ≤ task.until
    → HasSteered now.mux (i ∷ items) mid.mux [] sents → HasSeen now mid
    → GrowsByLosses most mid.mux.log next.mux.log → next.mux.seen ≡ mid.mux.seen
    → Delivers F stage servers sents fates mid next (Ok tt)
    → (e : List Note) × IsDoneTo F stage servers task next end e
done_in F stage servers task now mid next d low end most i items fates sents done got le until steered seen_it grows
    seen_is delivers =
    let m = mux_for task in let past = reverse now.mux.log in let seen = mid.mux.seen in
    let all = i ∷ items in
    let sw = switches m seen past in
    let c = steering_clock (sw ++ past) in
    let st = steers m c all in
    let s = sent_notes m (sent m seen c all) fates in
    let x = batch_notes m seen past all fates in
    let o = delivered_in F stage servers task now mid next d low end i items fates sents (Ok tt) done got until
    steered seen_it delivers in
    let y = o.0 in
    let batch : IsBatch m seen all now.mux.log mid.mux.log [] sents =
    subst (λ (j : MuxId). IsBatch j seen all now.mux.log mid.mux.log [] sents) done.kept.mux.id steered.batch in
    let turned : reverse next.mux.log ≡ reverse grows.0 ++ (reverse st ++ (sw ++ past)) =
    lost_turned most mid.mux.log next.mux.log grows
    ∙ ap (λ (l : List Event). reverse grows.0 ++ l)
    (batch_turned m seen all now.mux.log mid.mux.log [] sents batch) in
    let under = got.under in
    let kinds = batch_kinds m seen past all fates in (
      y ++ (x ++ d),
      record {
        from = let a = done.from in omega (arith, a, le);
        kept = o.1;
        settled = batch_settled m seen past s d y kinds o.4.0 done.settled;
        steered = λ k. batch_steered F task.routes m seen past task.from low end all fates y d k got.drawn done.from
            le (got.once k) (done.steered k) o.3;
        looked =
            let a = done.looked in
            let b = more_many (λ n. is_switch_of n.event.what m.0) x d in
            let e = more_many (λ n. is_switch_of n.event.what m.0) y (x ++ d) in omega (arith, a, b, e);
        learned = subst (λ (p : Posted). Continues task.posted p) (sym seen_is)
            (continues_on task.posted now.mux.seen mid.mux.seen done.learned steered.looked.same.later);
        few = batch_few F m seen past all fates y d got.drawn (omega arith) o.2 o.3 done.few;
        first = each_append (λ n. IsUpTo end n.event.what) y (x ++ d)
            (ups_to_more (last_packet low all) end y under o.4.1)
            (each_append (λ n. IsUpTo end n.event.what) x d
            (each_so (λ n. IsSteeringOf m n.event.what) (λ n. IsUpTo end n.event.what) x
            (λ n is. steering_up_to end m n.event.what is) kinds) (ups_to_more low end d le done.first));
        logged = subst (λ (l : List Event). AllByRecursion (IsLogged m end) l) (sym turned)
            (event_plus (IsLogged m end) (reverse grows.0) (reverse st ++ (sw ++ past))
            (each_reverse (IsLogged m end) grows.0 (lost_logged m end grows.0 grows.2))
            (event_plus (IsLogged m end) (reverse st) (sw ++ past)
            (steers_logged m c low end all got.rise under)
            (logged_more m low end (sw ++ past) le (switch_logged m low seen past done.logged))));
        switched = subst (λ (l : List Event). switched_since task.after m.0 l ≡ true) (sym turned)
            (switched_more task.after m.0 (reverse grows.0) (reverse st ++ (sw ++ past))
            (switched_more task.after m.0 (reverse st) (sw ++ past)
            (switched_more task.after m.0 sw past done.switched)));
        begun =
            let clock : steering_clock (reverse next.mux.log) ≡ final c all =
            ap (λ (l : List Event). steering_clock l) turned
            ∙ (lost_clock (reverse grows.0) (reverse st ++ (sw ++ past))
            (each_reverse (λ e. _) grows.0 grows.2)
            ∙ steered_clock m c all (sw ++ past) refl) in
            let a = done.begun in let b = switch_begun m seen past in let f = final_above c all in
            omega (arith, clock, a, b, f);
      },
    )

-- BY THE ITEMS

-- the items lie before the end, so there is a first one
pub batch_stopped : (F : Rules) (stage : Stage) (servers : List Serving) (task : Task) (now mid next : MuxWorker)
    (d : List Note) (low end : ℕ) (items : List MuxItem) (fates : List Fate) (sents : List Steered)
    (stop : Stop) → 0 < length items → IsDoneTo F stage servers task now low d
    → AreCollected F stage task.routes (mux_for task).0 low end items fates → end ≤ task.until
    → HasSteered now.mux items mid.mux [] sents → HasSeen now mid
    → Delivers F stage servers sents fates mid next (Err stop)
    → HasEnded F stage servers task next (Some stop)
batch_stopped F stage servers task now mid next d low end [] fates sents stop some done got until steered seen_it
    delivers =
    absurd (omega (arith, some))
batch_stopped F stage servers task now mid next d low end (i ∷ items) fates sents stop some done got until steered
    seen_it delivers =
    stopped_in F stage servers task now mid next d low end i items fates sents stop done got until steered seen_it
    delivers

pub batch_done : (F : Rules) (stage : Stage) (servers : List Serving) (task : Task) (now mid next : MuxWorker)
    (d : List Note) (low end most : ℕ) (items : List MuxItem) (fates : List Fate) (sents : List Steered)
    → 0 < length items → IsDoneTo F stage servers task now low d
    → AreCollected F stage task.routes (mux_for task).0 low end items fates → low ≤ end → end ≤ task.until
    → HasSteered now.mux items mid.mux [] sents → HasSeen now mid
    → GrowsByLosses most mid.mux.log next.mux.log → next.mux.seen ≡ mid.mux.seen
    → Delivers F stage servers sents fates mid next (Ok tt)
    → (e : List Note) × IsDoneTo F stage servers task next end e
batch_done F stage servers task now mid next d low end most [] fates sents some done got le until steered seen_it grows
    seen_is delivers =
    absurd (omega (arith, some))
batch_done F stage servers task now mid next d low end most (i ∷ items) fates sents some done got le until steered
    seen_it grows seen_is delivers =
    done_in F stage servers task now mid next d low end most i items fates sents done got le until steered seen_it
    grows seen_is delivers

-- NO ITEM

no_count : (k : ℕ) (items : List MuxItem) → items ≡ [] → count_of (λ (i : MuxItem). i.packet == k) items ≡ 0
no_count k items none = ap (λ (l : List MuxItem). count_of (λ (i : MuxItem). i.packet == k) l) none

pub batch_empty : (F : Rules) (stage : Stage) (servers : List Serving) (task : Task) (now : MuxWorker)
    (d : List Note) (low end : ℕ) (items : List MuxItem) (fates : List Fate) → items ≡ [] → low ≤ end
    → IsDoneTo F stage servers task now low d
    → AreCollected F stage task.routes (mux_for task).0 low end items fates
    → IsDoneTo F stage servers task now end d
batch_empty F stage servers task now d low end items fates none le done got = record {
  from = let a = done.from in omega (arith, a, le);
  kept = done.kept;
  settled = done.settled;
  steered = λ k.
      let a = done.steered k in let b = got.once k in let e = no_count k items none in
      let split = assigned_split task.routes (mux_for task).0 task.from low end k done.from le in
      omega (arith, a, b, e, split);
  looked = done.looked;
  learned = done.learned;
  few = done.few;
  first = ups_to_more low end d le done.first;
  logged = logged_more (mux_for task) low end (reverse now.mux.log) le done.logged;
  switched = done.switched;
  begun = done.begun;
}

-- NOTHING DONE

pub kept_looked : (F : Rules) (stage : Stage) (servers : List Serving) (task : Task) (now next : MuxWorker)
    (d : List Note) → HasOnlyLooked now next → Kept F stage servers task now d → Kept F stage servers task next d
kept_looked F stage servers task now next d looked kept =
    kept_more F stage servers task now next d [] kept (record {
      each = tt;
      ordered = tt;
      logged = ap (λ (l : List Event). reverse l) looked.log;
      gives = tt;
      replies = gets_no_call stage servers now.caller.seats next.caller.seats
          (λ s h. ap (λ (p : CallerState). calls_there p.seats s h) looked.caller);
      copies = λ are. subst (λ (l : List Event). AreCopies stage (mux_for task) servers (reverse l) next.caller.seats)
          (sym looked.log)
          (copies_stay stage servers (mux_for task) (reverse now.mux.log) now.caller.seats next.caller.seats
          (λ s h. ap (λ (p : CallerState). calls_there p.seats s h) looked.caller) are);
      latest = let e : next.caller.latest ≡ now.caller.latest = ap (λ (p : CallerState). p.latest) looked.caller in
          omega (arith, e);
      mux = looked.mux;
      caller = record {
        number = ap (λ (p : CallerState). p.number) looked.caller;
        who_is = ap (λ (p : CallerState). map (map who) p.seats) looked.caller;
      };
    })

-- memory was refused before the batch was steered
pub batch_refused : (F : Rules) (stage : Stage) (servers : List Serving) (task : Task) (now next : MuxWorker)
    (d : List Note) (low : ℕ) (stop : Stop) → stop ≡ Memory → HasOnlyLooked now next
    → IsDoneTo F stage servers task now low d → HasEnded F stage servers task next (Some stop)
batch_refused F stage servers task now next d low stop memory looked done = (
  d,
  kept_looked F stage servers task now next d looked done.kept,
  subst (λ (s : Stop). IsStopOf d s) (sym memory) tt,
  done.few,
)

-- WHAT IS DELIVERED

-- a copy of each packet, for the server of its tag
pub batch_sent : (F : Rules) (stage : Stage) (servers : List Serving) (routes : List _) (now mid : MuxState)
    (low end : ℕ) (items : List MuxItem) (fates : List Fate) (sents : List Steered)
    → IsSound stage → AreServersOf stage servers → now.id.0 < 64 → now.seen.plan ≡ stage.script.plan
    → AreCollected F stage routes now.id.0 low end items fates → HasSteered now items mid [] sents
    → AllByRecursion (IsSent stage servers mid) sents
batch_sent F stage servers routes now mid low end items fates sents sound servers_are few plan got steered =
    let past = reverse now.log in let seen = mid.seen in
    let same = steered.looked.same in
    let c = steering_clock (switches now.id seen past ++ past) in
    let plan' : seen.plan ≡ stage.script.plan = same.later.plan ∙ plan in
    let early : last_version seen ≤ 4096 =
    (let a = steered.looked.posted.few in let b = steered.looked.posted.plan.count in omega (arith, a, b)) in
    subst (λ (l : List Steered). AllByRecursion (IsSent stage servers mid) l) (sym steered.batch.out_is)
    (subst (λ (j : MuxId). AllByRecursion (IsSent stage servers mid) (sent j seen c items)) same.id
    (all_sent stage servers mid routes seen c low items (switches now.id seen past ++ past) sound servers_are
    (subst (λ (j : MuxId). j.0 < 64) (sym same.id) few) plan' early
    (subst (λ (j : MuxId). AllByRecursion (IsItemOf stage routes j.0) items) (sym same.id) got.each) got.rise
    (subst (λ (j : MuxId). (version_at (switches now.id seen past ++ past) j).0 ≡ last_version seen) (sym same.id)
    (batch_version now.id seen past steered.looked.newer))
    (subst (λ (j : MuxId). reverse mid.log ≡ reverse (steers j c items) ++ (switches now.id seen past ++ past))
    (sym same.id) (batch_turned now.id seen items now.log mid.log [] sents steered.batch))))

pub sents_length : (now mid : MuxState) (items : List MuxItem) (sents : List Steered)
    → HasSteered now items mid [] sents → length sents ≡ length items
sents_length now mid items sents steered =
    ap (λ (l : List Steered). length l) steered.batch.out_is
    ∙ sent_length now.id mid.seen
    (steering_clock (switches now.id mid.seen (reverse now.log) ++ reverse now.log)) items

pub drawn_length : (F : Rules) (items : List MuxItem) (fates : List Fate) → AreDrawn F items fates
    → length fates ≡ length items
drawn_length F [] [] drawn = refl
drawn_length F [] (f ∷ fates) drawn = absurd drawn
drawn_length F (i ∷ items) [] drawn = absurd drawn
drawn_length F (i ∷ items) (f ∷ fates) drawn = let old = drawn_length F items fates drawn.3 in omega (arith, old)

pub drawn_small : (F : Rules) (items : List MuxItem) (fates : List Fate) → AreDrawn F items fates
    → All (λ (f : Fate). (f.copies ≤ 3) × (f.delay ≤ 60 * 10 ^ 9)) fates
drawn_small F [] [] drawn = All-nil (λ (f : Fate). (f.copies ≤ 3) × (f.delay ≤ 60 * 10 ^ 9))
drawn_small F [] (f ∷ fates) drawn = absurd drawn
drawn_small F (i ∷ items) [] drawn = absurd drawn
drawn_small F (i ∷ items) (f ∷ fates) drawn =
    All-cons (λ (f : Fate). (f.copies ≤ 3) × (f.delay ≤ 60 * 10 ^ 9)) f fates (drawn.1, drawn.2)
    (drawn_small F items fates drawn.3)

moments_early : (low top : ℕ) (records : List Record) → AreRising low top (map (λ r. r.moment.0) records) → (i : ℕ)
    → moment_in (slice_get records i) ≤ top
moments_early low top [] rise i = omega arith
moments_early low top (r ∷ records) rise zero = rise.1
moments_early low top (r ∷ records) rise (suc i) = moments_early r.moment.0 top records rise.2 i

item_early : (stage : Stage) → IsSound stage → (k : ℕ) → record_moment stage k ≤ 44 * 10 ^ 17
item_early stage sound zero = omega arith
item_early stage sound (suc i) =
    moments_early 0 (44 * 10 ^ 17) stage.capture.records sound.capture.rise i

pub are_items : (stage : Stage) (routes : List _) (m : ℕ) (items : List MuxItem) → IsSound stage
    → AllByRecursion (IsItemOf stage routes m) items → All IsItem items
are_items stage routes m [] sound each = All-nil IsItem
are_items stage routes m (i ∷ items) sound each =
    let e = each.0.moment in let le = item_early stage sound i.packet in
    All-cons IsItem i items (omega (arith, e, le), each.0.short) (are_items stage routes m items sound each.1)

-- A BATCH, IN EVERY PHASE

pub steered_as : (old new : MuxState) (items items' : List MuxItem) (out out' : List Steered) → items' ≡ items
    → out ≡ [] → HasSteered old items' new out out' → HasSteered old items new [] out'
steered_as old new items items' out out' same none steered =
    subst (λ (l : List Steered). HasSteered old items new l out') none
    (subst (λ (l : List MuxItem). HasSteered old l new out out') same steered)

collected_in : (F : Rules) (stage : Stage) (task : Task) (routes : List (Option MuxId)) (id : MuxId)
    (from end : ℕ) (items : List MuxItem) (fates : List Fate) → task.routes ≡ routes → id ≡ mux_for task
    → AreCollected F stage routes id.0 from end items fates
    → AreCollected F stage task.routes (mux_for task).0 from end items fates
collected_in F stage task routes id from end items fates same is got =
    subst (λ (r : List (Option MuxId)). AreCollected F stage r (mux_for task).0 from end items fates) (sym same)
    (subst (λ (j : MuxId). AreCollected F stage routes j.0 from end items fates) is got)

-- no packet in it
pub carries_none : (F : Rules) (stage : Stage) (servers : List Serving) (routes : List (Option MuxId))
    (from end until : ℕ) (w : MuxWorker) (items : List MuxItem) (fates : List Fate) → items ≡ [] → from ≤ end
    → AreCollected F stage routes w.mux.id.0 from end items fates
    → CarriesTo F stage servers routes from until w w (Ok end)
carries_none F stage servers routes from end until w items fates none le got = λ task notes same top done. (
  notes,
  batch_empty F stage servers task w notes from end items fates none le done
      (collected_in F stage task routes w.mux.id from end items fates same done.kept.mux.id got),
)

-- memory was refused before it was steered
pub carries_refused : (F : Rules) (stage : Stage) (servers : List Serving) (routes : List (Option MuxId))
    (from until : ℕ) (w next : MuxWorker) (r : Result ℕ Stop) → IsErrAnd r (λ stop. stop ≡ Memory)
    → HasOnlyLooked w next → CarriesTo F stage servers routes from until w next r
carries_refused F stage servers routes from until w next r memory looked = λ task notes same top done.
    ended (λ end. (d : List Note) × IsDoneTo F stage servers task next end d) (λ stop. stop ≡ Memory)
    (λ stop. HasEnded F stage servers task next (Some stop)) r memory
    (λ stop is. batch_refused F stage servers task w next notes from stop is looked done)

-- the worker gave up while it was delivered
pub carries_stopped : (F : Rules) (stage : Stage) (servers : List Serving) (routes : List (Option MuxId))
    (from end until : ℕ) (w mid next : MuxWorker) (items : List MuxItem) (fates : List Fate) (sents : List Steered)
    (stop : Stop) (r : Result ℕ Stop) → IsErrAnd r (λ e. e ≡ stop) → 0 < length items → end ≤ until
    → AreCollected F stage routes w.mux.id.0 from end items fates → HasSteered w.mux items mid.mux [] sents
    → HasSeen w mid → Delivers F stage servers sents fates mid next (Err stop)
    → CarriesTo F stage servers routes from until w next r
carries_stopped F stage servers routes from end until w mid next items fates sents stop r is some le got steered seen_it
    delivers = λ task notes same top done.
    ended (λ end. (d : List Note) × IsDoneTo F stage servers task next end d) (λ e. e ≡ stop)
    (λ e. HasEnded F stage servers task next (Some e)) r is
    (λ e e_is. subst (λ (x : Stop). HasEnded F stage servers task next (Some x)) (sym e_is)
    (batch_stopped F stage servers task w mid next notes from end items fates sents stop some done
    (collected_in F stage task routes w.mux.id from end items fates same done.kept.mux.id got)
    (omega (arith, le, top)) steered seen_it delivers))

-- it is carried
pub carries_batch : (F : Rules) (stage : Stage) (servers : List Serving) (routes : List (Option MuxId))
    (from end until most : ℕ) (w mid next : MuxWorker) (items : List MuxItem) (fates : List Fate)
    (sents : List Steered) → 0 < length items → from ≤ end → end ≤ until
    → AreCollected F stage routes w.mux.id.0 from end items fates → HasSteered w.mux items mid.mux [] sents
    → HasSeen w mid → GrowsByLosses most mid.mux.log next.mux.log → next.mux.seen ≡ mid.mux.seen
    → Delivers F stage servers sents fates mid next (Ok tt)
    → CarriesTo F stage servers routes from until w next (Ok end)
carries_batch F stage servers routes from end until most w mid next items fates sents some le up got steered seen_it
    grows seen_is delivers = λ task notes same top done.
    batch_done F stage servers task w mid next notes from end most items fates sents some done
    (collected_in F stage task routes w.mux.id from end items fates same done.kept.mux.id got) le
    (omega (arith, up, top)) steered seen_it grows seen_is delivers

-- HOW FAR THE COUNTS RISE

steers_length : (m : MuxId) (last : ℕ) (items : List MuxItem) → length (steers m last items) ≡ length items
steers_length m last [] = refl
steers_length m last (i ∷ items) = let old = steers_length m (steer_clock last i) items in omega (arith, old)

switches_few : (m : MuxId) (seen : Posted) (past : List Event) → length (switches m seen past) ≤ 1
switches_few m seen past = of_test (ltb (version_at past m).0 (last_version seen)) where
  of_test : (b : Bool) → length (cond b (switch_to m seen past (last_post seen) ∷ []) []) ≤ 1
  of_test true = omega arith
  of_test false = omega arith

-- at most eleven events for each packet: a Switch, its Steer, and nine Loses
pub batch_grows : (w mid next : MuxWorker) (items : List MuxItem) (sents : List Steered) (places : ℕ)
    → HasSteered w.mux items mid.mux [] sents → mid.caller.tries ≡ w.caller.tries → mid.steps ≡ w.steps
    → next.caller.tries ≤ mid.caller.tries + 39 * length sents → next.steps ≤ mid.steps + length sents
    → GrowsByLosses (9 * length sents) mid.mux.log next.mux.log → 0 < length items → length items ≤ places
    → GrowsBy places w next
batch_grows w mid next items sents places steered tries_is steps_is tries steps grows some few =
    let past = reverse w.mux.log in let seen = mid.mux.seen in let m = w.mux.id in
    let sw = switches m seen past in let st = steers m (steering_clock (sw ++ past)) items in
    let long = sents_length w.mux mid.mux items sents steered in
    record {
      tries = omega (arith, tries_is, tries, long, few);
      steps = omega (arith, steps_is, steps, long, few);
      log =
          let a : length mid.mux.log ≡ length ((w.mux.log ++ sw) ++ st) =
          ap (λ (l : List Event). length l) steered.batch.log_is in
          let b = length-append (w.mux.log ++ sw) st in let e = length-append w.mux.log sw in
          let f = switches_few m seen past in let g = steers_length m (steering_clock (sw ++ past)) items in
          let h : length next.mux.log ≡ length (mid.mux.log ++ grows.0) =
          ap (λ (l : List Event). length l) grows.1 in
          let i = length-append mid.mux.log grows.0 in let j = grows.3 in
          omega (arith, a, b, e, f, g, h, i, j, long, few, some);
    }

pub grows_less : (places more : ℕ) (w next : MuxWorker) → places ≤ more → GrowsBy places w next
    → GrowsBy more w next
grows_less places more w next le grows = record {
  tries = let a = grows.tries in omega (arith, a, le);
  steps = let a = grows.steps in omega (arith, a, le);
  log = let a = grows.log in omega (arith, a, le);
}

-- NO ITEM, OR SOME

pub no_items : {X : Type 0} (xs : List X) → length xs ≡ 0 → xs ≡ []
no_items [] none = refl
no_items (x ∷ xs) none = absurd (omega (arith, none))

pub some_items : {X : Type 0} (xs : List X) → length xs ≢ 0 → 0 < length xs
some_items [] some = absurd (some refl)
some_items (x ∷ xs) some = omega arith
