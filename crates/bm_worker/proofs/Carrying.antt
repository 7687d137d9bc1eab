-- The copies of a sending, one after the other.
use Rattle.std.proofs.Common.{◌≡◌, ℕ, zero, suc, ◌+◌, ◌<◌, ◌≤◌, ◌==◌, max, true, false, List, []}
use Rattle.std.proofs.Common.{◌∷◌, ◌++◌, length}
use Rattle.std.proofs.Common.{slice_get, Some, None, Result, Ok, Err, refl, sym, ap, ◌∙◌, subst, append_assoc}
use Rattle.std.proofs.Common.{arith}
use Rattle.std.specs.Prelude.{IsErrAnd, MatchResult, IfSome}
use Rattle.std.specs.List.{AllByRecursion}
use Rattle.std.proofs.lemmas.Bool.{eq-eqb}
use Rattle.std.proofs.lemmas.List.{length-append}
use Rattle.std.proofs.lemmas.Option.{same_Some}
use Rattle.bm_base.specs.declared.ids.Moment.{Moment}
use Rattle.bm_base.specs.declared.ids.ServerId.{ServerId}
use Rattle.bm_base.specs.declared.label.Hop.{Hop}
use Rattle.bm_core.specs.declared.events.Event.{Event}
use Rattle.bm_core.specs.declared.events.Stage.{Stage}
use Rattle.bm_core.specs.declared.events.Verdict.{Verdict}
use Rattle.bm_core.specs.declared.events.What.TheVariants.{Arrive, Lose}
use Rattle.bm_core.specs.Accounts.{Rules}
use Rattle.bm_core.specs.Past.{sending_of}
use Rattle.bm_merge.specs.Notes.{Note}
use Rattle.bm_mux.specs.Muxes.{MuxState}
use Rattle.bm_mux.specs.Steers.{at_clock, is_lose}
use Rattle.bm_server.specs.Servings.{Serving}
use Rattle.bm_server.specs.Seats.{row}
use Rattle.bm_worker.specs.declared.stop.Stop.{Stop}
use Rattle.bm_worker.specs.declared.stop.Stop.TheVariants.{Memory, Late}
use Rattle.bm_worker.specs.declared.worker.MuxWorker.{MuxWorker}
use Rattle.bm_worker.specs.Arrivals.{HasCome, IsCopy}
use Rattle.bm_worker.specs.WorkerNotes.{IsSameCaller, HasSeats, AreServersOf, no_fate}
use Rattle.bm_worker.specs.Inside.WorkerNotes.{arrival, loss}
use Rattle.bm_worker.specs.Inside.Pending.{Carries, Pending, GrowsByLosses, HasCarried, IsCopyOf, IsLateFrom}
use Rattle.bm_worker.specs.Inside.Pending.{IsSameWorker, AwaitsCopies, Completes}
use Rattle.bm_worker.specs.Inside.Pending.{with_copies}
use Rattle.bm_worker.specs.Inside.Lost.{with_loss}
use Rattle.bm_worker.specs.Phases.{IsStopOf, Kept, Task, mux_for}
use Rattle.bm_worker.specs.Callers.{CallerState}
use Rattle.bm_worker.specs.SeatCalls.{AddsNoCall}
use Rattle.bm_worker.proofs.Copying.{copy_reads}
use Rattle.bm_worker.proofs.Completing.{completes_lost, completes_more, completes_none, completes_one, completes_whole}
use Rattle.bm_worker.proofs.Steps.{kept_arrival, kept_loss, kept_no_call, one_of, copies_left_more}

-- ANSWERS

-- an answer that came through `?`
pub ended : {T E : Type 0} (P : T → Type 0) (Q S : E → Type 0) (r : Result T E) → IsErrAnd r Q → ((e : E) → Q e → S e)
    → MatchResult r P S
ended P Q S (Ok x) is f = absurd is
ended P Q S (Err e) is f = f e is

-- the same answer under another promise
pub answered : {T E : Type 0} (P P' : T → Type 0) (S S' : E → Type 0) (r : Result T E) → ((x : T) → P x → P' x)
    → ((e : E) → S e → S' e)
    → MatchResult r P S → MatchResult r P' S'
answered P P' S S' (Ok x) f g is = f x is
answered P P' S S' (Err e) f g is = g e is

-- THE WORKER STAYS THE SAME

pub same_caller_on : (a b c : CallerState) → IsSameCaller a b → IsSameCaller b c → IsSameCaller a c
same_caller_on a b c p q = record { number = q.number ∙ p.number; who_is = q.who_is ∙ p.who_is }

pub same_worker : (w : MuxWorker) → IsSameWorker w w
same_worker w = record { id = refl; seen = refl; caller = record { number = refl; who_is = refl }; steps = refl }

pub same_worker_on : (a b c : MuxWorker) → IsSameWorker a b → IsSameWorker b c → IsSameWorker a c
same_worker_on a b c p q = record {
  id = q.id ∙ p.id;
  seen = q.seen ∙ p.seen;
  caller = same_caller_on a.caller b.caller c.caller p.caller q.caller;
  steps = q.steps ∙ p.steps;
}

pub sits_on : (servers : List Serving) (a b : CallerState) → IsSameCaller a b → HasSeats servers a → HasSeats servers b
sits_on servers a b same has_seats =
    same.who_is
    ∙ (has_seats ∙ ap (λ (n : ℕ). Rattle.std.proofs.Common.map (λ server. row server n) servers) (sym same.number))

pub no_losses : (n : ℕ) (log : List Event) → GrowsByLosses n log log
no_losses n log = ([], sym (Rattle.std.proofs.Common.append-nil log), tt, omega arith)

pub losses_on : (n m p : ℕ) (a b c : List Event) → n + m ≤ p → GrowsByLosses n a b → GrowsByLosses m b c
    → GrowsByLosses p a c
losses_on n m p a b c top x y = (
  x.0 ++ y.0,
  y.1 ∙ (ap (λ (l : List Event). l ++ y.0) x.1 ∙ append_assoc a x.0 y.0),
  each_of x.0 y.0 x.2 y.2,
  let e = length-append x.0 y.0 in let p = x.3 in let q = y.3 in omega arith,
) where
  each_of : (xs ys : List Event) → AllByRecursion (λ (e : Event). is_lose e.what ≡ true) xs
      → AllByRecursion (λ (e : Event). is_lose e.what ≡ true) ys
      → AllByRecursion (λ (e : Event). is_lose e.what ≡ true) (xs ++ ys)
  each_of [] ys u v = v
  each_of (e ∷ xs) ys u v = (u.0, each_of xs ys u.1 v)

pub one_loss : (k clock : ℕ) (hop : Hop) (n : ℕ) (log : List Event) → 1 ≤ n
    → GrowsByLosses n log (log ++ at_clock clock (Lose k hop) ∷ [])
one_loss k clock hop n log some = (at_clock clock (Lose k hop) ∷ [], refl, (refl, tt), omega (arith, some))

-- GIVING UP

-- the moment comes from the sending's clock
pub late_stop : (task : Task) (d : List Note) (pending : Pending) (stop : Stop) → AwaitsCopies task d pending
    → IsLateFrom pending.clock stop → IsStopOf d stop
late_stop task d pending Memory awaits late = absurd late
late_stop task d pending (Late moment at) awaits late = (
  late.0,
  late.1,
  one_of awaits.note d (λ n. n.event.clock.0 == at.0) awaits.among
      (eq-eqb awaits.note.event.clock.0 at.0 (awaits.clock ∙ sym late.2)),
)

pub stop_of_memory : (d : List Note) (stop : Stop) → stop ≡ Memory → IsStopOf d stop
stop_of_memory d stop is = subst (λ (s : Stop). IsStopOf d s) (sym is) tt

-- before anything was done
pub carries_late : (F : Rules) (stage : Stage) (servers : List Serving) (pending : Pending) (most : ℕ) (w : MuxWorker)
    (r : Result (Unit {0}) Stop)
    → (stop : Stop) → IsErrAnd r (λ e. e ≡ stop) → IsLateFrom pending.clock stop → Carries F stage servers pending most w w r
carries_late F stage servers pending most w r stop is late = λ task d kept awaits. (
  [],
  record { kept = kept; packets = tt; few = omega arith },
  ended (λ _. Completes true pending []) (λ e. e ≡ stop) (λ e. IsStopOf d e) r is
      (λ e same. subst (λ (x : Stop). IsStopOf d x) (sym same) (late_stop task d pending stop awaits late)),
)

-- NO COPIES

pub carries_loss : (F : Rules) (stage : Stage) (servers : List Serving) (pending : Pending) (most : ℕ) (w next : MuxWorker)
    (r : Result (Unit {0}) Stop)
    → 1 ≤ most → pending.fate.copies ≡ 0
    → MatchResult r (λ _. next ≡ with_loss pending.packet pending.hop pending.clock w) (λ stop. (stop ≡ Memory) × (next ≡ w))
    → Carries F stage servers pending most w next r
carries_loss F stage servers pending most w next (Ok u) some none is = λ task d kept awaits.
    let n = loss (pending.clock + 1) pending.packet pending.hop ((mux_for task).0 + 1) in (
      n ∷ [],
      record {
        kept = subst (λ (x : MuxWorker). Kept F stage servers task x (n ∷ d)) (sym is)
            (kept_loss F stage servers task w d pending none awaits kept);
        packets = (refl, tt);
        few = omega (arith, some);
      },
      completes_lost ((mux_for task).0 + 1) pending none (pending.clock + 1) (omega arith),
    )
carries_loss F stage servers pending most w next (Err stop) some none is = λ task d kept awaits. (
  [],
  record {
    kept = subst (λ (x : MuxWorker). Kept F stage servers task x d) (sym is.1) kept;
    packets = tt;
    few = omega arith;
  },
  stop_of_memory d stop is.0,
)

pub grows_by_loss : (most : ℕ) (k clock : ℕ) (hop : Hop) (w next : MuxWorker) (r : Result (Unit {0}) Stop) → 1 ≤ most
    → MatchResult r (λ _. next ≡ with_loss k hop clock w) (λ stop. (stop ≡ Memory) × (next ≡ w))
    → GrowsByLosses most w.mux.log next.mux.log
grows_by_loss most k clock hop w next (Ok u) some is =
    subst (λ (x : MuxWorker). GrowsByLosses most w.mux.log x.mux.log) (sym is)
    (one_loss k (clock + 1) hop most w.mux.log some)
grows_by_loss most k clock hop w next (Err stop) some is =
    subst (λ (x : MuxWorker). GrowsByLosses most w.mux.log x.mux.log) (sym is.1) (no_losses most w.mux.log)

pub same_by_loss : (k clock : ℕ) (hop : Hop) (w next : MuxWorker) (r : Result (Unit {0}) Stop)
    → MatchResult r (λ _. next ≡ with_loss k hop clock w) (λ stop. (stop ≡ Memory) × (next ≡ w))
    → IsSameWorker w next × (next.caller.tries ≡ w.caller.tries)
same_by_loss k clock hop w next (Ok u) is =
    subst (λ (x : MuxWorker). IsSameWorker w x × (x.caller.tries ≡ w.caller.tries)) (sym is)
    (record { id = refl; seen = refl; caller = record { number = refl; who_is = refl }; steps = refl }, refl)
same_by_loss k clock hop w next (Err stop) is =
    subst (λ (x : MuxWorker). IsSameWorker w x × (x.caller.tries ≡ w.caller.tries)) (sym is.1) (same_worker w, refl)

-- THE LOOP OVER COPIES

pub carried_none : (F : Rules) (stage : Stage) (servers : List Serving) (pending : Pending) (w : MuxWorker)
    → HasCarried F stage servers pending 0 0 w w
carried_none F stage servers pending w = λ task d kept awaits.
    ([], record { kept = kept; packets = tt; few = omega arith }, completes_none pending)

-- one copy more, which is not forwarded
pub carried_arrival : (F : Rules) (stage : Stage) (servers : List Serving) (pending : Pending) (i most : ℕ)
    (old now next : MuxWorker)
    (place : ℕ) (octets : List ℕ) (due : Moment) (r : Moment × Verdict) → AreServersOf stage servers
    → (copy : IsCopyOf stage servers now.mux place pending.packet pending.hop octets)
    → due.0 ≡ pending.clock + pending.fate.delay → due.0 < r.0.0
    → ((server : ServerId) → sending_of (Arrive pending.packet pending.hop server r.1) ≡ None)
    → ((server : Serving) (read : _) → slice_get servers place ≡ Some server → IsCopy server octets read
    → HasCome place server pending.packet read due r now.caller.seats next.caller.seats)
    → next.mux ≡ now.mux → next.caller.latest ≡ max now.caller.latest r.0.0 → IsSameCaller now.caller next.caller
    → HasCarried F stage servers pending i most old now → HasCarried F stage servers pending (i + 1) (most + 1) old next
carried_arrival F stage servers pending i most old now next place octets due r servers_are copy is lt none come mux latest caller
    carried = λ task d kept awaits.
    let c = carried task d kept awaits in let x = c.0 in let w = (mux_for task).0 + 1 in
    let n = arrival r.0 pending.packet pending.hop copy.server.id r.1 no_fate due.0 w in (
      n ∷ x,
      record {
        kept = kept_arrival F stage servers task now next (x ++ d) pending place octets due r no_fate servers_are copy is lt
            (subst (λ o. IfSome o (λ s. F s.packet s.hop no_fate)) (sym (none copy.server.id)) tt)
            (come copy.server (copy.tag, copy.segment) copy.is_server
            (copy_reads stage servers now.mux place pending.packet pending.hop octets copy))
            mux latest caller (copies_left_more task x d pending c.1.packets awaits) c.1.kept;
        packets = (refl, c.1.packets);
        few = let f = c.1.few in omega arith;
      },
      completes_more pending i x (n ∷ []) c.2
          (completes_one w pending r.0 copy.server.id r.1 no_fate due.0 (none copy.server.id) is lt),
    )

-- memory was refused in the loop
pub carried_stop : (F : Rules) (stage : Stage) (servers : List Serving) (pending : Pending) (i few most : ℕ)
    (old now next : MuxWorker)
    (r : Result (Unit {0}) Stop) → few ≤ most → next.mux ≡ now.mux → AddsNoCall now.caller.seats next.caller.seats
    → next.caller.latest ≡ now.caller.latest → IsSameCaller now.caller next.caller
    → IsErrAnd r (λ stop. stop ≡ Memory)
    → HasCarried F stage servers pending i few old now → Carries F stage servers pending most old next r
carried_stop F stage servers pending i few most old now next r top mux no_call latest caller memory carried =
    λ task d kept awaits.
    let c = carried task d kept awaits in let x = c.0 in (
      x,
      record {
        kept = kept_no_call F stage servers task now next (x ++ d) mux no_call latest caller c.1.kept;
        packets = c.1.packets;
        few = let f = c.1.few in omega (arith, f, top);
      },
      ended (λ _. Completes true pending x) (λ stop. stop ≡ Memory) (λ stop. IsStopOf (x ++ d) stop) r memory
          (stop_of_memory (x ++ d)),
    )

-- all copies were carried
pub carried_whole : (F : Rules) (stage : Stage) (servers : List Serving) (pending : Pending) (i few most : ℕ)
    (old now : MuxWorker)
    → few ≤ most → i ≡ pending.fate.copies → 1 ≤ i → HasCarried F stage servers pending i few old now
    → Carries F stage servers pending most old now (Ok tt)
carried_whole F stage servers pending i few most old now top all some carried = λ task d kept awaits.
    let c = carried task d kept awaits in let x = c.0 in (
      x,
      record { kept = c.1.kept; packets = c.1.packets; few = let f = c.1.few in omega (arith, f, top) },
      completes_whole pending x (omega (arith, some, all)) (subst (λ (j : ℕ). Completes false (with_copies pending j) x) all c.2),
    )

-- the worker after a loss
pub loss_is : (k clock : ℕ) (hop : Hop) (w : MuxWorker) (mux : MuxState) (caller : CallerState)
    → mux ≡ record w.mux { log = w.mux.log ++ at_clock (clock + 1) (Lose k hop) ∷ [] } → IsSameCaller w.caller caller
    → caller.seats ≡ w.caller.seats → caller.tries ≡ w.caller.tries → caller.latest ≡ max w.caller.latest (clock + 1)
    → ◌≡◌ {A = MuxWorker} (record w { mux = mux; caller = caller }) (with_loss k hop clock w)
loss_is k clock hop w mux caller is same seats tries latest = λ i. record w {
  mux = is i;
  caller = record { number = same.number i; seats = seats i; tries = tries i; latest = latest i };
}

-- the worker with another caller
pub same_by_caller : (a now : MuxWorker) (caller : CallerState) → now.mux ≡ a.mux → now.steps ≡ a.steps
    → IsSameCaller a.caller now.caller
    → IsSameCaller now.caller caller → IsSameWorker a (record now { caller = caller })
same_by_caller a now caller mux steps same next = record {
  id = ap (λ (x : MuxState). x.id) mux;
  seen = ap (λ (x : MuxState). x.seen) mux;
  caller = same_caller_on a.caller now.caller caller same next;
  steps = steps;
}

pub no_losses_by : (n : ℕ) (a b : MuxState) → b ≡ a → GrowsByLosses n a.log b.log
no_losses_by n a b is = subst (λ (x : MuxState). GrowsByLosses n a.log x.log) (sym is) (no_losses n a.log)

pub copy_as : (stage : Stage) (servers : List Serving) (a b : MuxState) (place k : ℕ) (hop : Hop) (octets : List ℕ)
    → b ≡ a
    → IsCopyOf stage servers a place k hop octets → IsCopyOf stage servers b place k hop octets
copy_as stage servers a b place k hop octets is copy =
    subst (λ (x : MuxState). IsCopyOf stage servers x place k hop octets) (sym is) copy

-- what a caller asks of a copy
pub asks_copy : (stage : Stage) (servers : List Serving) (mux : MuxState) (place k : ℕ) (hop : Hop) (octets : List ℕ)
    → IsCopyOf stage servers mux place k hop octets → (server : Serving) → slice_get servers place ≡ Some server
    → (read : _) × IsCopy server octets read
asks_copy stage servers mux place k hop octets copy server at = (
  (copy.tag, copy.segment),
  subst (λ (x : Serving). IsCopy x octets (copy.tag, copy.segment))
      (same_Some copy.server server (sym copy.is_server ∙ at))
      (copy_reads stage servers mux place k hop octets copy),
)

pub place_inside : (servers : List Serving) (place : ℕ) (server : Serving) → slice_get servers place ≡ Some server
    → place < length servers
place_inside [] place server at = absurd (let bad : None ≡ Some server = at in cc)
place_inside (x ∷ servers) zero server at = omega arith
place_inside (x ∷ servers) (suc place) server at = let old = place_inside servers place server at in omega arith

-- memory was refused before anything was done
pub carries_stop : (F : Rules) (stage : Stage) (servers : List Serving) (pending : Pending) (most : ℕ) (w : MuxWorker)
    (r : Result (Unit {0}) Stop)
    → IsErrAnd r (λ stop. stop ≡ Memory) → Carries F stage servers pending most w w r
carries_stop F stage servers pending most w r memory = λ task d kept awaits. (
  [],
  record { kept = kept; packets = tt; few = omega arith },
  ended (λ _. Completes true pending []) (λ stop. stop ≡ Memory) (λ stop. IsStopOf d stop) r memory (stop_of_memory d),
)
