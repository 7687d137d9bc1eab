-- The steps of a sending: a copy arrives, or the sending is lost.
use Rattle.std.proofs.Common.{◌≡◌, ℕ, ◌+◌, ◌-◌, ◌<◌, ◌≤◌, max, Bool, true, false, cond, List, []}
use Rattle.std.proofs.Common.{◌∷◌, ◌++◌}
use Rattle.std.proofs.Common.{reverse, Option, Some, refl, sym, ap, ◌∙◌, subst}
use Rattle.std.proofs.Common.{append-nil, arith}
use Rattle.std.specs.Option.{option_map}
use Rattle.std.specs.List.{AllByRecursion}
use Rattle.std.proofs.lemmas.Bool.{eq-eqb, le-ltb, and_from}
use Rattle.std.proofs.lemmas.List.{reverse-append}
use Rattle.bm_base.specs.declared.fate.Fate.{Fate}
use Rattle.bm_base.specs.declared.flow.Segment.{Segment}
use Rattle.bm_base.specs.declared.ids.Moment.{Moment}
use Rattle.bm_base.specs.declared.ids.MuxId.{MuxId}
use Rattle.bm_base.specs.declared.label.Hop.{Hop}
use Rattle.bm_core.specs.declared.events.Event.{Event}
use Rattle.bm_core.specs.declared.events.Stage.{Stage}
use Rattle.bm_core.specs.declared.events.Verdict.{Verdict}
use Rattle.bm_core.specs.declared.events.What.{What}
use Rattle.bm_core.specs.declared.events.What.TheVariants.{Publish, Switch, Steer, Lose, Arrive, Close, Retire, Sync}
use Rattle.bm_core.specs.Accounts.{Rules, steers_packet}
use Rattle.bm_core.specs.Past.{label_of, shard}
use Rattle.bm_core.specs.Runs.{AtEach, is_by}
use Rattle.bm_core.specs.Runs.Actor.{MuxOf, ShardOf}
use Rattle.bm_merge.specs.Notes.{Note, events_of, many}
use Rattle.bm_merge.specs.Workers.{IsDrawn, arrives_after, is_copyless, is_due_at, is_home}
use Rattle.bm_merge.proofs.Noting.{each_append, each_so, total_append, total_none}
use Rattle.bm_publish.specs.Posts.{Continues, last_version}
use Rattle.bm_mux.specs.Muxes.{IsSameMux, MuxState}
use Rattle.bm_mux.specs.Steers.{at_clock}
use Rattle.bm_server.specs.Servings.{Serving}
use Rattle.bm_worker.specs.declared.worker.MuxWorker.{MuxWorker}
use Rattle.bm_worker.specs.Arrivals.{HasCome}
use Rattle.bm_worker.specs.WorkerNotes.{GetReplies, IsSameCaller, AreServersOf}
use Rattle.bm_worker.specs.Inside.WorkerNotes.{arrival, loss}
use Rattle.bm_worker.specs.Inside.Pending.{Pending, IsAmong, IsCopyOf, IsOf, IsUpTo, AwaitsCopies}
use Rattle.bm_worker.specs.Inside.Lost.{with_loss}
use Rattle.bm_worker.specs.Phases.{AreCopies, IsMuxGiven, Kept, Task, mux_log, mux_for}
use Rattle.bm_worker.specs.SeatCalls.{AddsNoCall}
use Rattle.bm_worker.proofs.Copying.{copies_as, copies_come, copies_stay, tag_hop}
use Rattle.bm_worker.proofs.CallNotes.{gets_arrival, gets_no_call, gets_none}
use Rattle.bm_worker.proofs.Keeping.{kept_more, more_many}

-- what the mux gives beyond its log
abbrev GivenNow : Stage → Task → MuxWorker → MuxWorker → List Event → Event → Type 0
GivenNow stage task now next rest e =
    IsMuxGiven stage task.after (last_version task.posted) next.mux.seen.clocks (rest ++ reverse now.mux.log) e.clock.0
    e.what

-- the mux is the same
pub same_posts : (now next : MuxWorker) → next.mux.id ≡ now.mux.id → next.mux.seen ≡ now.mux.seen
    → IsSameMux now.mux next.mux
same_posts now next id seen = record {
  id = id;
  later = subst (λ p. Continues now.mux.seen p) (sym seen)
      (record { board = refl; plan = refl; posts = ([], append-nil now.mux.seen.clocks) });
}

-- NOTHING DONE

pub kept_no_call : (F : Rules) (stage : Stage) (servers : List Serving) (task : Task) (now next : MuxWorker)
    (d : List Note)
    → next.mux ≡ now.mux → AddsNoCall now.caller.seats next.caller.seats → next.caller.latest ≡ now.caller.latest
    → IsSameCaller now.caller next.caller → Kept F stage servers task now d → Kept F stage servers task next d
kept_no_call F stage servers task now next d mux same latest caller kept =
    kept_more F stage servers task now next d [] kept (record {
      each = tt;
      ordered = tt;
      logged = ap (λ (x : MuxState). reverse x.log) mux;
      gives = tt;
      replies = gets_no_call stage servers now.caller.seats next.caller.seats same;
      copies = λ are.
          subst (λ (x : MuxState). AreCopies stage (mux_for task) servers (reverse x.log) next.caller.seats)
          (sym mux)
          (copies_stay stage servers (mux_for task) (reverse now.mux.log) now.caller.seats next.caller.seats same are);
      latest = omega (arith, latest);
      mux = same_posts now next (ap (λ (x : MuxState). x.id) mux) (ap (λ (x : MuxState). x.seen) mux);
      caller = caller;
    })

-- WHAT HAS A SENDING GOES ON TO HAVE ONE

pub among_more : (n : Note) (x d : List Note) → IsAmong n d → IsAmong n (x ++ d)
among_more n x d among f = let a = among f in let b = total_append f x d in omega arith

of_packet_up_to : (k : ℕ) (what : What) → IsOf k what → IsUpTo k what
of_packet_up_to k (Arrive j hop server verdict) is = omega (arith, is)
of_packet_up_to k (Lose j hop) is = tt
of_packet_up_to k (Publish v) is = tt
of_packet_up_to k (Switch y v) is = tt
of_packet_up_to k (Steer j y) is = tt
of_packet_up_to k (Close server flow closed) is = tt
of_packet_up_to k (Retire server h at result) is = tt
of_packet_up_to k Sync is = tt

pub copies_left_more : (task : Task) (x d : List Note) (pending : Pending) → AllByRecursion (λ n. IsOf pending.packet n.event.what) x
    → AwaitsCopies task d pending → AwaitsCopies task (x ++ d) pending
copies_left_more task x d pending packets awaits = record {
  note = awaits.note;
  among = among_more awaits.note x d awaits.among;
  sending = awaits.sending;
  clock = awaits.clock;
  fate = awaits.fate;
  steered = let a = awaits.steered in let le = more_many (λ y. steers_packet y.event.what pending.packet) x d in omega arith;
  later = awaits.later;
  within = awaits.within;
  first = each_append (λ y. IsUpTo pending.packet y.event.what) x d
      (each_so (λ n. IsOf pending.packet n.event.what) (λ y. IsUpTo pending.packet y.event.what) x
      (λ n is. of_packet_up_to pending.packet n.event.what is) packets) awaits.first;
}

-- A COPY ARRIVES

pub one_of : (n : Note) (d : List Note) (test : Note → Bool) → IsAmong n d → test n ≡ true → 1 ≤ many test d
one_of n d test among is =
    let a = among (λ y. cond (test y) 1 0) in let one : ◌≡◌ {A = ℕ} (cond (test n) 1 0) 1 = rw is refl in omega arith

due_among : (task : Task) (d : List Note) (pending : Pending) (due : ℕ) → AwaitsCopies task d pending
    → due ≡ pending.clock + pending.fate.delay
    → 1 ≤ many (is_due_at pending.packet pending.hop due) d
due_among task d pending due awaits is =
    one_of awaits.note d (is_due_at pending.packet pending.hop due) awaits.among
    (and_from _ _ awaits.sending (eq-eqb due (awaits.note.event.clock.0 + awaits.note.fate.delay)
    (is ∙ (λ i. sym awaits.clock i + (sym awaits.fate i).delay))))

up_to_not_after : (k : ℕ) (what : What) → IsUpTo k what → ◌≡◌ {A = ℕ} (cond (arrives_after k what) 1 0) 0
up_to_not_after k (Arrive j hop server verdict) is = rw (le-ltb k j (omega (arith, is))) refl
up_to_not_after k (Lose j hop) is = refl
up_to_not_after k (Publish v) is = refl
up_to_not_after k (Switch y v) is = refl
up_to_not_after k (Steer j y) is = refl
up_to_not_after k (Close server flow closed) is = refl
up_to_not_after k (Retire server h at result) is = refl
up_to_not_after k Sync is = refl

none_after : (k : ℕ) (d : List Note) → AllByRecursion (λ y. IsUpTo k y.event.what) d
    → many (λ y. arrives_after k y.event.what) d ≡ 0
none_after k d all =
    total_none (λ y. cond (arrives_after k y.event.what) 1 0) d
    (each_so (λ y. IsUpTo k y.event.what) (λ y. ◌≡◌ {A = ℕ} (cond (arrives_after k y.event.what) 1 0) 0) d
    (λ y is. up_to_not_after k y.event.what is) all)

pub kept_arrival : (F : Rules) (stage : Stage) (servers : List Serving) (task : Task) (now next : MuxWorker)
    (d : List Note) (pending : Pending)
    (place : ℕ) (octets : List ℕ) (due : Moment) (r : Moment × Verdict) (fate : Fate) → AreServersOf stage servers
    → (copy : IsCopyOf stage servers now.mux place pending.packet pending.hop octets)
    → due.0 ≡ pending.clock + pending.fate.delay → due.0 < r.0.0
    → IsDrawn F (arrival r.0 pending.packet pending.hop copy.server.id r.1 fate due.0 ((mux_for task).0 + 1))
    → HasCome place copy.server pending.packet (copy.tag, copy.segment) due r now.caller.seats next.caller.seats
    → next.mux ≡ now.mux → next.caller.latest ≡ max now.caller.latest r.0.0 → IsSameCaller now.caller next.caller
    → AwaitsCopies task d pending → Kept F stage servers task now d
    → Kept F stage servers task next
    (arrival r.0 pending.packet pending.hop copy.server.id r.1 fate due.0 ((mux_for task).0 + 1) ∷ d)
kept_arrival F stage servers task now next d pending place octets due r fate servers_are copy is lt drawn come mux latest caller
    awaits kept =
    let m = (mux_for task).0 in
    let n = arrival r.0 pending.packet pending.hop copy.server.id r.1 fate due.0 (m + 1) in
    let hop_is : copy.tag.hop ≡ pending.hop = tag_hop copy.label pending.hop copy.tag copy.tagged in
    let not_mine : is_home stage (MuxOf m) n ≡ false =
    ap (λ (o : Option Segment). is_by (option_map (λ (x : Segment). ShardOf copy.server.id.0 (shard stage x.flow)) o)
    (MuxOf m)) copy.is_segment in
    let none : mux_log stage m (n ∷ []) ≡ [] = ap (λ (b : Bool). events_of (cond b (n ∷ []) [])) not_mine in
    kept_more F stage servers task now next d (n ∷ []) kept (record {
      each = (
        record {
          kind = refl;
          seat = refl;
          later = let a = awaits.later in omega (arith, is, lt);
          within = awaits.within;
          assigned = tt;
          has_sending = (
            let a = awaits.steered in let le =
                more_many (λ y. steers_packet y.event.what pending.packet) (n ∷ []) d in omega arith,
            let a = due_among task d pending due.0 awaits is in let le =
                more_many (is_due_at pending.packet pending.hop due.0) (n ∷ []) d in omega arith,
          );
          lost = tt;
          drawn = drawn;
          placed = (place, copy.server, copy.is_server, refl);
        },
        tt,
      );
      ordered = (none_after pending.packet d awaits.first, tt);
      logged = ap (λ (x : MuxState). reverse x.log) mux ∙ ap (λ (l : List Event). l ++ reverse now.mux.log) (sym none);
      gives = subst (λ (l : List Event). AtEach (GivenNow stage task now next) l) (sym none) tt;
      replies = subst (λ (h : Hop). GetReplies stage servers now.caller.seats next.caller.seats
          (arrival r.0 pending.packet h copy.server.id r.1 fate due.0 (m + 1) ∷ [])) hop_is
          (gets_arrival stage servers place pending.packet (m + 1) copy.server (copy.tag, copy.segment) due r fate
          now.caller.seats next.caller.seats
          servers_are copy.is_server come copy.is_segment);
      copies = λ are.
          subst (λ (x : MuxState). AreCopies stage (mux_for task) servers (reverse x.log) next.caller.seats)
          (sym mux)
          (subst (λ (y : MuxId). AreCopies stage y servers (reverse now.mux.log) next.caller.seats) kept.mux.id
          (copies_come stage servers now.mux place pending.packet pending.hop octets due r now.caller.seats next.caller.seats
          servers_are copy come
          (subst (λ (y : MuxId). AreCopies stage y servers (reverse now.mux.log) now.caller.seats) (sym kept.mux.id)
          are)));
      latest = omega (arith, latest);
      mux = same_posts now next (ap (λ (x : MuxState). x.id) mux) (ap (λ (x : MuxState). x.seen) mux);
      caller = caller;
    })

-- A SENDING IS LOST

pub kept_loss : (F : Rules) (stage : Stage) (servers : List Serving) (task : Task) (now : MuxWorker) (d : List Note)
    (pending : Pending)
    → pending.fate.copies ≡ 0 → AwaitsCopies task d pending → Kept F stage servers task now d
    → Kept F stage servers task (with_loss pending.packet pending.hop pending.clock now)
    (loss (pending.clock + 1) pending.packet pending.hop ((mux_for task).0 + 1) ∷ d)
kept_loss F stage servers task now d pending none awaits kept =
    let m = (mux_for task).0 in
    let n = loss (pending.clock + 1) pending.packet pending.hop (m + 1) in
    let next = with_loss pending.packet pending.hop pending.clock now in
    let e = at_clock (pending.clock + 1) (Lose pending.packet pending.hop) in
    let mine : is_home stage (MuxOf m) n ≡ true = eq-eqb ((m + 1) - 1) m (omega arith) in
    let one : mux_log stage m (n ∷ []) ≡ e ∷ [] = ap (λ (b : Bool). events_of (cond b (n ∷ []) [])) mine in
    let turned : reverse next.mux.log ≡ e ∷ reverse now.mux.log = reverse-append now.mux.log (e ∷ []) in
    kept_more F stage servers task now next d (n ∷ []) kept (record {
      each = (
        record {
          kind = refl;
          seat = refl;
          later = let a = awaits.later in omega arith;
          within = awaits.within;
          assigned = tt;
          has_sending = tt;
          lost = (
            pending.clock,
            omega arith,
            let a = one_of awaits.note d (is_copyless pending.packet pending.hop pending.clock) awaits.among
                (and_from _ _ awaits.sending
                (and_from _ _ (eq-eqb awaits.note.fate.copies 0 (ap (λ (x : Fate). x.copies) awaits.fate ∙ none))
                (eq-eqb awaits.note.event.clock.0 pending.clock awaits.clock))) in
                let le = more_many (is_copyless pending.packet pending.hop pending.clock) (n ∷ []) d in omega arith,
          );
          drawn = tt;
          placed = tt;
        },
        tt,
      );
      ordered = (tt, tt);
      logged = turned ∙ ap (λ (l : List Event). l ++ reverse now.mux.log) (sym one);
      gives = subst (λ (l : List Event). AtEach (GivenNow stage task now next) l) (sym one) (tt, tt);
      replies = gets_none stage servers now.caller.seats;
      copies = λ are. copies_as stage servers (mux_for task) (reverse now.mux.log) (reverse next.mux.log)
          now.caller.seats
          (λ k l is. subst (λ (past : List Event). label_of stage past k ≡ Some l) (sym turned) is) are;
      latest = omega arith;
      mux = same_posts now next refl refl;
      caller = record { number = refl; who_is = refl };
    })
