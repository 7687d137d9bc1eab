-- The seats' calls and replies, and what was recorded.
use Rattle.std.proofs.Common.{◌≡◌, ℕ, ◌==◌, ◌&&◌, Bool, true, false, cond, inl, inr, List, [], ◌∷◌, ◌++◌, map}
use Rattle.std.proofs.Common.{slice_get, Option, Some, refl, sym, ap, ◌∙◌, append_assoc, append-nil, arith}
use Rattle.std.proofs.lemmas.Bool.{cases_Bool, eqb-true, eqb-false, eq-eqb, ne_eqb}
use Rattle.std.proofs.lemmas.List.{map-append}
use Rattle.std.proofs.lemmas.Option.{same_Some}
use Rattle.std.specs.Option.{option_map}
use Rattle.bm_base.specs.declared.fate.Fate.{Fate}
use Rattle.bm_base.specs.declared.flow.Flow.{Flow}
use Rattle.bm_base.specs.declared.flow.Segment.{Segment}
use Rattle.bm_base.specs.declared.ids.Moment.{Moment}
use Rattle.bm_base.specs.declared.ids.ServerId.{ServerId}
use Rattle.bm_base.specs.declared.label.Tag.{Tag}
use Rattle.bm_table.specs.declared.plan.Retirement.{Retirement}
use Rattle.bm_core.specs.declared.events.Stage.{Stage}
use Rattle.bm_core.specs.declared.events.Verdict.{Verdict}
use Rattle.bm_core.specs.Past.{segment_of, shard}
use Rattle.bm_core.specs.Runs.{Actor, is_by}
use Rattle.bm_core.specs.Runs.Actor.{ShardOf}
use Rattle.bm_hash.specs.Buckets.{shard_of}
use Rattle.bm_merge.specs.Notes.{Note}
use Rattle.bm_merge.specs.Workers.{is_home}
use Rattle.bm_shard.specs.declared.calls.ShardCall.{ShardCall}
use Rattle.bm_shard.specs.declared.calls.ShardCall.TheVariants.{Arrive, Close, Retire}
use Rattle.bm_shard.specs.declared.calls.ShardReply.{ShardReply}
use Rattle.bm_shard.specs.declared.calls.ShardReply.TheVariants.{Arrived, Closed, Retired}
use Rattle.bm_server.specs.Servings.{Serving}
use Rattle.bm_server.specs.Seats.{Answered, Seated}
use Rattle.bm_server.specs.Servings.{shard_at, shard_for}
use Rattle.bm_worker.specs.WorkerNotes.{GetReplies, TimedEvent, AreServersOf, noted, timed_event, timed_events}
use Rattle.bm_worker.specs.Inside.WorkerNotes.{arrival, closing, retiring}
use Rattle.bm_worker.specs.SeatCalls.{AddsCall, AddsNoCall, calls_there}
use Rattle.bm_worker.specs.Arrivals.{HasCome}
use Rattle.bm_worker.proofs.Numbered.{differ}

-- SEVERAL NOTES

pub noted-append : (stage : Stage) (a : Actor) (y x : List Note) → noted stage a (y ++ x) ≡ noted stage a x
    ++ noted stage a y
noted-append stage a [] x = sym (append-nil (noted stage a x))
noted-append stage a (n ∷ y) x =
    let last : List TimedEvent = cond (is_home stage a n) ((n.event, n.due) ∷ []) [] in
    ap (λ (l : List TimedEvent). l ++ last) (noted-append stage a y x) ∙ append_assoc (noted stage a x) (noted stage a y) last

pub gets_none : (stage : Stage) (servers : List Serving) (a : List (List Seated)) → GetReplies stage servers a a []
gets_none stage servers a s h server at = sym (append-nil (timed_events (shard_at server h) (calls_there a s h)))

pub gets_more : (stage : Stage) (servers : List Serving) (a b d : List (List Seated)) (x y : List Note)
    → GetReplies stage servers a b x → GetReplies stage servers b d y → GetReplies stage servers a d (y ++ x)
gets_more stage servers a b d x y first then s h server at =
    let actor = ShardOf server.id.0 h in
    then s h server at ∙ (ap (λ (l : List TimedEvent). l ++ noted stage actor y) (first s h server at)
    ∙ (append_assoc (timed_events (shard_at server h) (calls_there a s h)) (noted stage actor x) (noted stage actor y)
    ∙ ap (λ (l : List TimedEvent). timed_events (shard_at server h) (calls_there a s h) ++ l) (sym (noted-append stage actor y x))))

pub gets_no_call : (stage : Stage) (servers : List Serving) (a b : List (List Seated)) → AddsNoCall a b
    → GetReplies stage servers a b []
gets_no_call stage servers a b same s h server at =
    ap (timed_events (shard_at server h)) (same s h) ∙ sym (append-nil (timed_events (shard_at server h) (calls_there a s h)))

-- ONE NOTE

due_cond : (f : Answered → TimedEvent) (b : Bool) (p : Answered) (q : TimedEvent) → (b ≡ true → f p ≡ q)
    → map f (cond b (p ∷ []) []) ≡ cond b (q ∷ []) []
due_cond f true p q same = ap (λ (x : TimedEvent). x ∷ []) (same refl)
due_cond f false p q same = refl

same_test : (i j : ServerId) (s place n m h : ℕ) → (i ≡ j → s ≡ place) → (s ≡ place → i ≡ j) → n ≡ m
    → (j.0 == i.0) && (m == h) ≡ (s == place) && (h == n)
same_test i j s place n m h a b e = elim (cases_Bool (s == place)) [
  | inl here ↦
      let is : i ≡ j = b (eqb-true s place here) in
      rw (here, eq-eqb j.0 i.0 (ap (λ (x : ServerId). x.0) (sym is))) (elim (cases_Bool (h == n)) [
        | inl there ↦ let is : h ≡ n = eqb-true h n there in rw (there, eq-eqb m h (omega (arith, e, is))) refl
        | inr other ↦ rw (other, ne_eqb m h (λ x. eqb-false h n other (sym x ∙ sym e))) refl
      ])
  | inr other ↦ rw (other, ne_eqb j.0 i.0 (λ x. eqb-false s place other (a (λ k. record { 0 = sym x k })))) refl
]

both_true : (a b : Bool) → a && b ≡ true → (a ≡ true) × (b ≡ true)
both_true true true e = (refl, refl)
both_true true false e = absurd (cc)
both_true false b e = absurd (cc)

-- the note of a call that was added, where the note has the event and the moment of the call with its
-- reply, and is in the log there
gets_call : (stage : Stage) (servers : List Serving) (place number home : ℕ) (server : Serving) (call : ShardCall)
    (reply : ShardReply)
    (n : Note) (a b : List (List Seated)) → AreServersOf stage servers → slice_get servers place ≡ Some server
    → AddsCall place number call reply a b → number ≡ home
    → timed_event (shard_at server number) (call, reply) ≡ (n.event, n.due)
    → ((i h : ℕ) → is_home stage (ShardOf i h) n ≡ (server.id.0 == i) && (home == h)) → GetReplies stage servers a b (n ∷ [])
gets_call stage servers place number home server call reply n a b servers_are at adds same due_is homes s h server' at' =
    let about = shard_at server' h in
    let here = (s == place) && (h == number) in
    let test : is_home stage (ShardOf server'.id.0 h) n ≡ here =
    homes server'.id.0 h
    ∙ same_test server'.id server.id s place number home h (differ servers servers_are.rise s place server' server at' at)
    (λ e. ap (λ (x : Serving). x.id) (same_Some server' server (sym at' ∙ (ap (slice_get servers) e ∙ at)))) same in
    let due : here ≡ true → timed_event about (call, reply) ≡ (n.event, n.due) = λ yes.
    let both = both_true (s == place) (h == number) yes in
    let e : s ≡ place = eqb-true s place both.0 in
    let one : server' ≡ server = same_Some server' server (sym at' ∙ (ap (slice_get servers) e ∙ at)) in
    (λ i. timed_event (shard_at (one i) (eqb-true h number both.1 i)) (call, reply)) ∙ due_is in
    ap (timed_events about) (adds s h) ∙ (map-append (timed_event about) (calls_there a s h) (cond here ((call, reply) ∷ []) [])
    ∙ (ap (λ (l : List TimedEvent). timed_events about (calls_there a s h) ++ l)
    (due_cond (timed_event about) here (call, reply) (n.event, n.due) due)
    ∙ ap (λ (x : Bool). timed_events about (calls_there a s h) ++ cond x ((n.event, n.due) ∷ []) []) (sym test)))

-- the shard of a flow at a server of the stage
pub same_shard : (stage : Stage) (servers : List Serving) (place : ℕ) (server : Serving) (flow : Flow)
    → AreServersOf stage servers
    → slice_get servers place ≡ Some server → shard_for server flow ≡ shard stage flow
same_shard stage servers place server flow servers_are at = ap (λ (x : ℕ). shard_of x flow) (servers_are.shards place server at)

-- a copy of the packet, with this tag and segment
pub gets_arrival : (stage : Stage) (servers : List Serving) (place k w : ℕ) (server : Serving) (read : Tag × Segment)
    (due : Moment)
    (r : Moment × Verdict) (fate : Fate) (a b : List (List Seated)) → AreServersOf stage servers
    → slice_get servers place ≡ Some server
    → HasCome place server k read due r a b → segment_of stage k ≡ Some read.1
    → GetReplies stage servers a b (arrival r.0 k read.0.hop server.id r.1 fate due.0 w ∷ [])
gets_arrival stage servers place k w server read due r fate a b servers_are at come here =
    gets_call stage servers place (shard_for server read.1.flow) (shard stage read.1.flow) server
    (Arrive k read.0 read.1 due)
    (Arrived r.0 r.1 come.reset) (arrival r.0 k read.0.hop server.id r.1 fate due.0 w) a b servers_are at come.adds
    (same_shard stage servers place server read.1.flow servers_are at) refl
    (λ i h. ap
    (λ (o : Option Segment). is_by (option_map (λ (x : Segment). ShardOf server.id.0 (shard stage x.flow)) o)
    (ShardOf i h)) here)

pub gets_close : (stage : Stage) (servers : List Serving) (place i w : ℕ) (server : Serving) (flow : Flow)
    (at clock : Moment) (closed : Bool)
    (a b : List (List Seated)) → AreServersOf stage servers → slice_get servers place ≡ Some server
    → AddsCall place (shard_for server flow) (Close flow at) (Closed clock closed) a b
    → GetReplies stage servers a b (closing clock server.id flow closed i at.0 w ∷ [])
gets_close stage servers place i w server flow at clock closed a b servers_are is adds =
    gets_call stage servers place (shard_for server flow) (shard stage flow) server (Close flow at)
    (Closed clock closed)
    (closing clock server.id flow closed i at.0 w) a b servers_are is adds
    (same_shard stage servers place server flow servers_are is) refl (λ i h. refl)

pub gets_retire : (stage : Stage) (servers : List Serving) (place shard i w : ℕ) (server : Serving) (at clock : Moment)
    (outcome : Retirement)
    (a b : List (List Seated)) → AreServersOf stage servers → slice_get servers place ≡ Some server
    → AddsCall place shard (Retire at outcome) (Retired clock) a b
    → GetReplies stage servers a b (retiring clock server.id shard at outcome i w ∷ [])
gets_retire stage servers place shard i w server at clock outcome a b servers_are is adds =
    gets_call stage servers place shard shard server (Retire at outcome) (Retired clock)
    (retiring clock server.id shard at outcome i w) a b servers_are is adds refl refl (λ i h. refl)
