-- The packet that opens a flow arrives once, as a direct copy, and is accepted.
use Rattle.std.proofs.Common.{◌≡◌, ℕ, zero, suc, ◌+◌, ◌≤◌, Bool, true, false, cond, ◌&&◌, inl, inr, List, []}
use Rattle.std.proofs.Common.{◌∷◌, Option, Some, None, length, refl, sym, ap, ◌∙◌, subst, eqb, leb, arith}
use Rattle.std.proofs.lemmas.Bool.{and_from, both_ways, cases_Bool, cases_eq, cases_lt, eq-eqb, false_from_ne_true}
use Rattle.std.proofs.lemmas.Bool.{leb-true, ne_eqb, or_from}
use Rattle.std.proofs.lemmas.Option.{same_Some}
use Rattle.std.specs.Prelude.{not}
use Rattle.bm_base.specs.declared.flow.Flow.{Flow}
use Rattle.bm_base.specs.declared.flow.Segment.{Segment}
use Rattle.bm_base.specs.declared.ids.ServerId.{ServerId}
use Rattle.bm_base.specs.declared.label.Hop.{Hop}
use Rattle.bm_base.specs.declared.label.Hop.TheVariants.{Direct, Chained, Twice}
use Rattle.bm_base.specs.declared.label.Past.{Past}
use Rattle.bm_base.specs.Segments.{is_opening, same_flow}
use Rattle.bm_core.specs.Accounts.{arrives, counts}
use Rattle.bm_core.specs.declared.events.Event.{Event}
use Rattle.bm_core.specs.declared.events.Local.{Local}
use Rattle.bm_core.specs.declared.events.Stage.{Stage}
use Rattle.bm_core.specs.declared.events.Verdict.{Verdict}
use Rattle.bm_core.specs.declared.events.Verdict.TheVariants.{Accept}
use Rattle.bm_core.specs.declared.events.What.{What}
use Rattle.bm_core.specs.declared.events.What.TheVariants.{Publish, Switch, Steer, Lose, Arrive, Close, Retire, Sync}
use Rattle.bm_core.specs.Past.{ends, flows_after, flows_arrived, flows_held, held, held_after, is_accept, is_direct}
use Rattle.bm_core.specs.Past.{is_done, is_forward, is_full, is_sent, retired, retires, segment_of, sends, shard}
use Rattle.bm_core.specs.Past.{timeout, without}
use Rattle.bm_core.specs.Runs.{AtEach, IsArrival, MayCome, Run}
use Rattle.bm_core.specs.Verdicts.{local_at, onward, receiver_of, verdict_of}
use Rattle.bm_core.proofs.Pasts.{arrival_sends, hop_before, none_stays, none_unless, sent_before, steer_sends}
use Rattle.bm_table.specs.Tables.{same_server}
use Rattle.bm_load.proofs.Along.{counts_here, counts_more, none_here, upward}
use Rattle.bm_load.proofs.Shape.{IsLoadLike, is_quiet}
use Rattle.bm_load.proofs.Steps.{IsLoadStep}

-- VERDICTS

-- an opening segment isn't forwarded by its first hop
opening_stays : (local : Local) (timeout clock : ℕ) (onto : Option Past) (s : Segment) → is_opening s ≡ true
    → is_forward (verdict_of local timeout clock Direct onto s) ≡ false
opening_stays local timeout clock onto s opens = grind arith

-- and is accepted by a shard that has room and doesn't hold its flow
opening_accepted : (local : Local) (timeout clock : ℕ) (onto : Option Past) (s : Segment) → is_opening s ≡ true
    → local.retired ≡ false → local.held ≡ None → local.full ≡ false
    → verdict_of local timeout clock Direct onto s ≡ Accept
opening_accepted local timeout clock onto s opens stays none room = grind arith

direct_is : (hop : Hop) → is_direct hop ≡ true → hop ≡ Direct
direct_is Direct is = refl
direct_is Chained is = absurd (cc)
direct_is Twice is = absurd (cc)

accept_directly : (local : Local) (timeout clock : ℕ) (hop : Hop) (onto : Option Past) (s : Segment)
    → is_accept (verdict_of local timeout clock hop onto s) ≡ true → (is_direct hop ≡ true) × (is_opening s ≡ true)
accept_directly local timeout clock hop onto s is = grind arith

-- an Accept is of the direct copy of an opening segment
accept_opens : (local : Local) (timeout clock : ℕ) (hop : Hop) (onto : Option Past) (s : Segment)
    → is_accept (verdict_of local timeout clock hop onto s) ≡ true → (hop ≡ Direct) × (is_opening s ≡ true)
accept_opens local timeout clock hop onto s is =
    let both = accept_directly local timeout clock hop onto s is in (direct_is hop both.0, both.1)

-- THE OPENING PACKET

-- the packet opens a flow, as no other packet does
pub record IsOpener (stage : Stage) (o : ℕ) (t : Segment) : Type 0 where
  pub is_segment : segment_of stage o ≡ Some t
  pub opens : is_opening t ≡ true
  pub alone : (k : ℕ) (s : Segment) → segment_of stage k ≡ Some s → s.flow ≡ t.flow → is_opening s ≡ true → k ≡ o

-- it isn't forwarded
unforwarded : {stage : Stage} {o : ℕ} {t : Segment} (past : List Event) (clock k : ℕ) (hop : Hop) (server : ServerId)
    (verdict : Verdict) → IsOpener stage o t → IsArrival stage past clock k hop server verdict
    → sends (Arrive k hop server verdict) o Chained ≡ true → ⊥
unforwarded {stage = stage} {o = o} {t = t} past clock k hop server verdict opener may is =
    let parts = arrival_sends k o hop Chained server verdict is
    in let direct : hop ≡ Direct = hop_before Direct hop Chained refl parts.2
    in let seg : may.segment ≡ t =
    same_Some _ _ (sym may.is_segment ∙ ap (λ (j : ℕ). segment_of stage j) parts.0 ∙ opener.is_segment)
    in let opens : is_opening may.segment ≡ true = rw seg opener.opens
    in let stays : is_forward (verdict_of (local_at stage past server may.segment.flow) (timeout stage) clock hop
    (onward may.label.entry hop) may.segment) ≡ false =
    rw direct (opening_stays (local_at stage past server may.segment.flow) (timeout stage) clock
    (onward may.label.entry Direct) may.segment opens)
    in let goes : is_forward (verdict_of (local_at stage past server may.segment.flow) (timeout stage) clock hop
    (onward may.label.entry hop) may.segment) ≡ true = rw may.verdict_is at parts.1
    in both_ways _ stays goes

unchained_step : {stage : Stage} {o : ℕ} {t : Segment} (past : List Event) (clock : ℕ) (what : What)
    → IsOpener stage o t → MayCome stage past clock what → sends what o Chained ≡ false
unchained_step past clock (Arrive k hop server verdict) opener may =
    false_from_ne_true _ (unforwarded past clock k hop server verdict opener may)
unchained_step {o = o} past clock (Steer k m) opener may = steer_sends k o m Direct Chained refl
unchained_step past clock (Publish v) opener may = refl
unchained_step past clock (Switch m v) opener may = refl
unchained_step past clock (Lose k hop) opener may = refl
unchained_step past clock (Close server flow closed) opener may = refl
unchained_step past clock (Retire server h at result) opener may = refl
unchained_step past clock Sync opener may = refl

unchained : {stage : Stage} {o : ℕ} {t : Segment} → IsOpener stage o t → (past : List Event)
    → AtEach (IsLoadStep stage) past → is_sent past o Chained ≡ false
unchained {stage = stage} {o = o} opener past steps =
    upward (IsLoadStep stage) (λ x. is_sent x o Chained ≡ false) refl
    (λ x e older here old. or_from _ _ (unchained_step x e.clock.0 e.what opener here.step.may) old) past steps

run_of : (stage : Stage) (past : List Event) → AtEach (IsLoadStep stage) past → Run stage past
run_of stage [] steps = tt
run_of stage (e ∷ past) steps = (steps.0.step, run_of stage past steps.1)

-- so each of its arrivals is a direct one
pub arrives_direct : {stage : Stage} {o : ℕ} {t : Segment} → IsOpener stage o t → (past : List Event)
    → AtEach (IsLoadStep stage) past → (hop : Hop) → is_sent past o hop ≡ true → hop ≡ Direct
arrives_direct opener past steps Direct sent = refl
arrives_direct opener past steps Chained sent = absurd (both_ways _ (unchained opener past steps) sent)
arrives_direct {stage = stage} {o = o} opener past steps Twice sent =
    absurd (both_ways _ (unchained opener past steps)
    (sent_before stage past (run_of stage past steps) o Chained Twice (omega arith) sent))

accepts_opening : {stage : Stage} (past : List Event) (clock k : ℕ) (hop : Hop) (server : ServerId) (verdict : Verdict)
    → IsArrival stage past clock k hop server verdict → (s : Segment) → segment_of stage k ≡ Some s
    → is_accept verdict ≡ true → (hop ≡ Direct) × (is_opening s ≡ true)
accepts_opening {stage = stage} past clock k hop server verdict may s is accepts =
    let given : is_accept (verdict_of (local_at stage past server may.segment.flow) (timeout stage) clock hop
    (onward may.label.entry hop) may.segment) ≡ true = rw may.verdict_is at accepts
    in let both = accept_opens (local_at stage past server may.segment.flow) (timeout stage) clock hop
    (onward may.label.entry hop) may.segment given
    in let same : may.segment ≡ s = same_Some _ _ (sym may.is_segment ∙ is)
    in let opens : is_opening s ≡ true = rw same at both.1
    in (both.0, opens)

-- an Accept of the flow is its arrival
pub accept_is_its : {stage : Stage} {o : ℕ} {t : Segment} (past : List Event) (clock k : ℕ) (hop : Hop)
    (server : ServerId) (verdict : Verdict) → IsOpener stage o t → IsArrival stage past clock k hop server verdict
    → (s : Segment) → segment_of stage k ≡ Some s → s.flow ≡ t.flow → is_accept verdict ≡ true
    → (k ≡ o) × (hop ≡ Direct)
accept_is_its {stage = stage} {o = o} {t = t} past clock k hop server verdict opener may s is flow accepts =
    let both = accepts_opening past clock k hop server verdict may s is accepts
    in (opener.alone k s is flow both.1, both.0)

-- BEFORE ITS ARRIVAL

abbrev pub arrives_first : What → ℕ → Bool
arrives_first what o = arrives what o Direct

pub arrives_now : (k o : ℕ) (hop : Hop) (server : ServerId) (verdict : Verdict) → (k ≡ o) × (hop ≡ Direct)
    → arrives (Arrive k hop server verdict) o Direct ≡ true
arrives_now k o hop server verdict is = rw is.1 (and_from (eqb k o) true (eq-eqb k o is.0) refl)

-- no server holds the flow
none_step : {stage : Stage} {o : ℕ} {t : Segment} (past : List Event) (clock : ℕ) (what : What) (s : ServerId)
    → IsOpener stage o t → MayCome stage past clock what → arrives what o Direct ≡ false
    → held stage past s t.flow ≡ None
    → held_after stage (length past) what s t.flow (held stage past s t.flow) ≡ None
none_step {stage = stage} {o = o} {t = t} past clock (Arrive k hop server verdict) s opener may not old =
    none_stays (length past) (same_server server s) verdict (segment_of stage k) t.flow (held stage past s t.flow) old
    (λ x is here flow. false_from_ne_true _ (λ accepts.
    both_ways _ not
    (arrives_now k o hop server verdict
    (accept_is_its past clock k hop server verdict opener may x is flow accepts))))
none_step {stage = stage} {t = t} past clock (Close server flow closed) s opener may not old =
    none_unless (same_server server s && same_flow flow t.flow && closed) (held stage past s t.flow) (λ off. old)
none_step {stage = stage} {t = t} past clock (Retire server h at result) s opener may not old =
    none_unless (same_server server s && eqb h (shard stage t.flow) && is_done result) (held stage past s t.flow)
    (λ off. old)
none_step past clock (Steer k m) s opener may not old = old
none_step past clock (Publish v) s opener may not old = old
none_step past clock (Switch m v) s opener may not old = old
none_step past clock (Lose k hop) s opener may not old = old
none_step past clock Sync s opener may not old = old

held_none : {stage : Stage} {o : ℕ} {t : Segment} → IsOpener stage o t → (past : List Event)
    → AtEach (IsLoadStep stage) past → (s : ServerId) → counts past (λ what. arrives what o Direct) ≡ 0
    → held stage past s t.flow ≡ None
held_none {stage = stage} {o = o} {t = t} opener past steps s =
    upward (IsLoadStep stage)
    (λ x. counts x (λ what. arrives what o Direct) ≡ 0 → held stage x s t.flow ≡ None) (λ none. refl)
    (λ x e older here old none.
    let fewer : counts x (λ what. arrives what o Direct) ≡ 0 =
    (let more = counts_more x e (λ what. arrives what o Direct) in omega arith)
    in none_step x e.clock.0 e.what s opener here.step.may
    (none_here x e (λ what. arrives what o Direct) none) (old fewer))
    past steps

-- no shard retires
quiet_stays : (what : What) (s : ServerId) (h : ℕ) → is_quiet what ≡ true → retires what s h ≡ false
quiet_stays (Retire server x at result) s h quiet = absurd (cc)
quiet_stays (Arrive k hop server verdict) s h quiet = refl
quiet_stays (Close server flow closed) s h quiet = refl
quiet_stays (Steer k m) s h quiet = refl
quiet_stays (Publish v) s h quiet = refl
quiet_stays (Switch m v) s h quiet = refl
quiet_stays (Lose k hop) s h quiet = refl
quiet_stays Sync s h quiet = refl

pub never_retired : (stage : Stage) (past : List Event) → AtEach (IsLoadStep stage) past → (s : ServerId) (h : ℕ)
    → retired past s h ≡ false
never_retired stage past steps s h =
    upward (IsLoadStep stage) (λ x. retired x s h ≡ false) refl
    (λ x e older here old. or_from _ _ (quiet_stays e.what s h here.quiet) old) past steps

-- ROOM

-- how many direct arrivals the packets from 1 to this one have
abbrev pub arrivals_upto : ℕ → List Event → ℕ
arrivals_upto zero past = 0
arrivals_upto (suc k) past = counts past (λ what. arrives what (suc k) Direct) + arrivals_upto k past

sum_more : (a b c d : ℕ) → a ≤ c → b ≤ d → a + b ≤ c + d
sum_more a b c d p q = omega arith

sum_here : (a b c d : ℕ) → c ≡ suc a → b ≤ d → suc (a + b) ≤ c + d
sum_here a b c d p q = omega arith

sum_later : (a b c d : ℕ) → a ≤ c → suc b ≤ d → suc (a + b) ≤ c + d
sum_later a b c d p q = omega arith

below : (k n : ℕ) → k ≤ suc n → (k ≡ suc n → ⊥) → k ≤ n
below k n high before = elim (cases_lt n k) [
  | inl above ↦ absurd (before (omega arith))
  | inr fine ↦ fine
]

upto_more : (n : ℕ) (past : List Event) (e : Event) → arrivals_upto n past ≤ arrivals_upto n (e ∷ past)
upto_more zero past e = omega arith
upto_more (suc n) past e =
    sum_more _ _ _ _ (counts_more past e (λ what. arrives what (suc n) Direct)) (upto_more n past e)

upto_here : (n : ℕ) (past : List Event) (e : Event) (k : ℕ) → 1 ≤ k → k ≤ n → arrives e.what k Direct ≡ true
    → suc (arrivals_upto n past) ≤ arrivals_upto n (e ∷ past)
upto_here zero past e k low high is = absurd (omega arith)
upto_here (suc n) past e k low high is = elim (cases_eq k (suc n)) [
  | inl last ↦
      let here : arrives e.what (suc n) Direct ≡ true = subst (λ (j : ℕ). arrives e.what j Direct ≡ true) last is
      in sum_here _ _ _ _ (counts_here past e (λ what. arrives what (suc n) Direct) here) (upto_more n past e)
  | inr before ↦
      sum_later _ _ _ _ (counts_more past e (λ what. arrives what (suc n) Direct))
      (upto_here n past e k low (below k n high before) is)
]

upto_most : (n : ℕ) (past : List Event) → ((k : ℕ) → counts past (λ what. arrives what k Direct) ≤ 1)
    → arrivals_upto n past ≤ n
upto_most zero past few = omega arith
upto_most (suc n) past few = let a = few (suc n) in let b = upto_most n past few in omega arith

without_less : (f : Flow) (flows : List Flow) → length (without f flows) ≤ length flows
without_less f [] = omega arith
without_less f (x ∷ flows) = elim (cases_Bool (same_flow f x)) [
  | inl same ↦ rw same (let old = without_less f flows in omega arith)
  | inr other ↦ rw other (let old = without_less f flows in omega arith)
]

taken_more : (f : Flow) (accepts ends : Bool) (flows : List Flow)
    → length (cond accepts (f ∷ without f flows) (cond ends (without f flows) flows))
    ≤ cond accepts 1 0 + length flows
taken_more f true ends flows = let less = without_less f flows in omega arith
taken_more f false true flows = let less = without_less f flows in omega arith
taken_more f false false flows = omega arith

arrived_more : (stage : Stage) (h : ℕ) (here : Bool) (verdict : Verdict) (o : Option Segment) (flows : List Flow)
    → length (flows_arrived stage h here verdict o flows) ≤ cond (is_accept verdict) 1 0 + length flows
arrived_more stage h here verdict None flows = omega arith
arrived_more stage h here verdict (Some s) flows = elim (cases_Bool (here && eqb (shard stage s.flow) h)) [
  | inl is ↦ rw is (taken_more s.flow (is_accept verdict) (ends verdict) flows)
  | inr other ↦ rw other (omega arith)
]

either_less : (b : Bool) (xs flows : List Flow) → length xs ≤ length flows → length (cond b xs flows) ≤ length flows
either_less true xs flows less = less
either_less false xs flows less = omega arith

flows_step : {stage : Stage} {n : ℕ} (past : List Event) (e : Event) (what : What) (s : ServerId) (h : ℕ)
    (flows : List Flow) → IsLoadLike stage n → MayCome stage past e.clock.0 what → e.what ≡ what
    → length flows ≤ arrivals_upto n past
    → length (flows_after stage what s h flows) ≤ arrivals_upto n (e ∷ past)
flows_step {stage = stage} {n = n} past e (Arrive k hop server verdict) s h flows like may is old =
    let most : length (flows_after stage (Arrive k hop server verdict) s h flows)
    ≤ cond (is_accept verdict) 1 0 + length flows =
    arrived_more stage h (same_server server s) verdict (segment_of stage k) flows
    in elim (cases_Bool (is_accept verdict)) [
      | inl accepts ↦
          let both = accepts_opening past e.clock.0 k hop server verdict may may.segment may.is_segment accepts
          in let opens : leb k n ≡ true = sym (like.opens k may.segment may.is_segment) ∙ both.1
          in let within = like.within k may.segment may.is_segment
          in let now : arrives (Arrive k hop server verdict) k Direct ≡ true =
          arrives_now k k hop server verdict (refl, both.0)
          in let first : arrives e.what k Direct ≡ true =
          subst (λ (w : What). arrives w k Direct ≡ true) (sym is) now
          in let more = upto_here n past e k within.0 (leb-true k n opens) first
          in let one : length (flows_after stage (Arrive k hop server verdict) s h flows) ≤ 1 + length flows =
          rw accepts at most
          in omega arith
      | inr other ↦
          let none : length (flows_after stage (Arrive k hop server verdict) s h flows) ≤ 0 + length flows =
          rw other at most
          in let more = upto_more n past e
          in omega arith
    ]
flows_step {stage = stage} {n = n} past e (Close server flow closed) s h flows like may is old =
    let less = either_less (same_server server s && eqb (shard stage flow) h && closed) (without flow flows) flows
    (without_less flow flows)
    in let more = upto_more n past e
    in omega arith
flows_step {stage = stage} {n = n} past e (Retire server x at result) s h flows like may is old =
    let less = either_less (same_server server s && eqb x h && is_done result) [] flows (omega arith)
    in let more = upto_more n past e
    in omega arith
flows_step {n = n} past e (Publish v) s h flows like may is old = let more = upto_more n past e in omega arith
flows_step {n = n} past e (Switch m v) s h flows like may is old = let more = upto_more n past e in omega arith
flows_step {n = n} past e (Steer k m) s h flows like may is old = let more = upto_more n past e in omega arith
flows_step {n = n} past e (Lose k hop) s h flows like may is old = let more = upto_more n past e in omega arith
flows_step {n = n} past e Sync s h flows like may is old = let more = upto_more n past e in omega arith

-- a shard holds at most as many flows as opening packets arrived
flows_few : {stage : Stage} {n : ℕ} → IsLoadLike stage n → (past : List Event) → AtEach (IsLoadStep stage) past
    → (s : ServerId) (h : ℕ) → length (flows_held stage past s h) ≤ arrivals_upto n past
flows_few {stage = stage} {n = n} like past steps s h =
    upward (IsLoadStep stage) (λ x. length (flows_held stage x s h) ≤ arrivals_upto n x) (omega arith)
    (λ x e older here old. flows_step x e e.what s h (flows_held stage x s h) like here.step.may refl old) past steps

-- ITS ARRIVAL

-- the opening packet arrives as a direct copy, and is accepted
pub accepted : {stage : Stage} {n o : ℕ} {t : Segment} → IsLoadLike stage n → IsOpener stage o t
    → (past : List Event) (e : Event) → AtEach (IsLoadStep stage) past → IsLoadStep stage past e
    → (hop : Hop) (server : ServerId) (verdict : Verdict) → e.what ≡ Arrive o hop server verdict
    → (verdict ≡ Accept) × (hop ≡ Direct)
accepted {stage = stage} {n = n} {o = o} {t = t} like opener past e older here hop server verdict is =
    let may : IsArrival stage past e.clock.0 o hop server verdict = rw is at here.step.may
    in let direct : hop ≡ Direct = arrives_direct opener past older hop may.sent
    in let seg : may.segment ≡ t = same_Some _ _ (sym may.is_segment ∙ opener.is_segment)
    in let now : arrives (Arrive o hop server verdict) o Direct ≡ true =
    arrives_now o o hop server verdict (refl, direct)
    in let first : arrives e.what o Direct ≡ true = subst (λ (w : What). arrives w o Direct ≡ true) (sym is) now
    in let only : counts past (λ what. arrives what o Direct) ≡ 0 =
    (let few = here.few o in let one = counts_here past e (λ what. arrives what o Direct) first in omega arith)
    in let none : receiver_of (held stage past server t.flow) ≡ None =
    ap receiver_of (held_none opener past older server only)
    in let few : arrivals_upto n past ≤ n =
    upto_most n past (λ k.
    let least = counts_more past e (λ what. arrives what k Direct) in let most = here.few k in omega arith)
    in let short = flows_few like past older server (shard stage t.flow)
    in let room : is_full stage past server (shard stage t.flow) ≡ false =
    ne_eqb _ _ (λ full. let roomy = like.roomy in omega arith)
    in let by_rule : verdict_of (local_at stage past server may.segment.flow) (timeout stage) e.clock.0 hop
    (onward may.label.entry hop) may.segment ≡ Accept =
    rw (direct, seg)
    (opening_accepted (local_at stage past server t.flow) (timeout stage) e.clock.0 (onward may.label.entry Direct) t
    opener.opens (never_retired stage past older server (shard stage t.flow)) none room)
    in (may.verdict_is ∙ by_rule, direct)
