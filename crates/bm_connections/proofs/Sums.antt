-- Over all flows of the capture, the counts of arrivals are those of all arrivals.
use Rattle.std.proofs.Common.{◌≡◌, ℕ, zero, suc, ◌+◌, Bool, true, false, cond, ◌&&◌, ◌||◌, inl, inr}
use Rattle.std.proofs.Common.{List, [], ◌∷◌, ◌++◌, reverse, map, Option, Some, None, is_some, sum_by, count_by}
use Rattle.std.proofs.Common.{slice_get, refl, sym, ap, ◌∙◌, arith}
use Rattle.std.specs.Prelude.{if◌then◌else◌}
use Rattle.std.proofs.lemmas.Bool.{cases_Bool}
use Rattle.std.proofs.lemmas.List.{reverse-append}
use Rattle.std.proofs.lemmas.List.Sums.{sum_by-cons}
use Rattle.bm_base.specs.declared.capture.Record.{Record}
use Rattle.bm_base.specs.declared.flow.Flow.{Flow}
use Rattle.bm_base.specs.declared.flow.Segment.{Segment}
use Rattle.bm_base.specs.Segments.{same_flow}
use Rattle.bm_core.specs.declared.events.Event.{Event}
use Rattle.bm_core.specs.declared.events.History.{History}
use Rattle.bm_core.specs.declared.events.Stage.{Stage}
use Rattle.bm_core.specs.declared.events.Verdict.{Verdict}
use Rattle.bm_core.specs.declared.events.What.{What}
use Rattle.bm_core.specs.declared.events.What.TheVariants.{Publish, Switch, Steer, Lose, Arrive, Close, Retire, Sync}
use Rattle.bm_core.specs.Causes.{cause}
use Rattle.bm_core.specs.Past.{is_of, segment_of, steerable}
use Rattle.bm_core.specs.Runs.{IsRun, IsStep, Run}
use Rattle.bm_trace.specs.Totals.{arrives, is_stray, strays}
use Rattle.bm_connections.specs.declared.connection.Break.{Break}
use Rattle.bm_connections.specs.declared.connection.Connection.{Connection}
use Rattle.bm_connections.specs.Connections.{arrivals, as_break, breaks, connection_in, connections}
use Rattle.bm_connections.specs.Connections.{breakage, first_of_two, is_arrival_for, one_more}
use Rattle.bm_connections.specs.Connections.{strays_for}
use Rattle.bm_connections.specs.Laws.{is_broken}
use Rattle.bm_connections.specs.Seen.{flows_of, is_packet_of, is_seen, records_of, with_flow}
use Rattle.bm_connections.proofs.Steps.{same_flow-true, same_flow_refl}

-- SUMS OVER FLOWS

abbrev total : (Flow → ℕ) → List Flow → ℕ
total n [] = 0
total n (f ∷ flows) = n f + total n flows

total_of : (g : Connection → ℕ) (k : Flow → Connection) (flows : List Flow)
    → sum_by g (map k flows) ≡ total (λ f. g (k f)) flows
total_of g k [] = refl
total_of g k (f ∷ flows) = sum_by-cons g (k f) (map k flows) ∙ ap (λ n. g (k f) + n) (total_of g k flows)

total_zero : (flows : List Flow) → total (λ f. 0) flows ≡ 0
total_zero [] = refl
total_zero (f ∷ flows) = let e = total_zero flows in omega arith

total_append : (n : Flow → ℕ) (xs : List Flow) (f : Flow) → total n (xs ++ f ∷ []) ≡ total n xs + n f
total_append n [] f = omega arith
total_append n (x ∷ xs) f = let e = total_append n xs f in omega arith

-- how many of these flows pass the test
abbrev hits : (Flow → Bool) → List Flow → ℕ
hits t flows = total (λ f. one_more (t f) 0) flows

one_more_of : (t b : Bool) (n : ℕ) → one_more (t && b) n ≡ n + (if b then one_more t 0 else 0)
one_more_of true true n = omega arith
one_more_of true false n = omega arith
one_more_of false true n = omega arith
one_more_of false false n = omega arith

total_more : (t : Flow → Bool) (b : Bool) (n : Flow → ℕ) (flows : List Flow)
    → total (λ f. one_more (t f && b) (n f)) flows ≡ total n flows + (if b then hits t flows else 0)
total_more t true n [] = refl
total_more t false n [] = refl
total_more t true n (f ∷ flows) =
    let e : total (λ g. one_more (t g && true) (n g)) flows ≡ total n flows + hits t flows = total_more t true n flows
    in let o : one_more (t f && true) (n f) ≡ n f + one_more (t f) 0 = one_more_of (t f) true (n f)
    in omega arith
total_more t false n (f ∷ flows) =
    let e : total (λ g. one_more (t g && false) (n g)) flows ≡ total n flows + 0 = total_more t false n flows
    in let o : one_more (t f && false) (n f) ≡ n f + 0 = one_more_of (t f) false (n f)
    in omega arith

hit_once : (b : Bool) (n : ℕ) → n + (if b then 1 else 0) ≡ one_more b n
hit_once true n = omega arith
hit_once false n = omega arith

total_once : (t : Flow → Bool) (b : Bool) (n : Flow → ℕ) (flows : List Flow) → hits t flows ≡ 1
    → total (λ f. one_more (t f && b) (n f)) flows ≡ one_more b (total n flows)
total_once t b n flows once =
    total_more t b n flows ∙ ap (λ m. total n flows + (if b then m else 0)) once ∙ hit_once b (total n flows)

-- A FLOW THAT WAS SEEN IS THERE ONCE

same_flow_sym : (a b : Flow) → same_flow a b ≡ same_flow b a
same_flow_sym a b = elim (cases_Bool (same_flow a b)) [
  | inl same ↦ let eq : a ≡ b = same_flow-true a b same in rw eq refl
  | inr other ↦ elim (cases_Bool (same_flow b a)) [
    | inl bad ↦ let eq : b ≡ a = same_flow-true b a bad in rw eq refl
    | inr fine ↦ rw (other, fine) refl
  ]
]

-- the flow of a packet that comes after these records
hits_with : (s : Segment) (records : List Record) (flows : List Flow) (g : Flow)
    → hits (same_flow g) flows ≡ one_more (is_seen records g) 0
    → hits (same_flow g) (with_flow (Some s) records flows) ≡ one_more (same_flow s.flow g || is_seen records g) 0
hits_with s records flows g k = elim (cases_Bool (is_seen records s.flow)) [
  | inl seen ↦ elim (cases_Bool (same_flow s.flow g)) [
    | inl same ↦
        let eq : s.flow ≡ g = same_flow-true s.flow g same
        in let seen' : is_seen records g ≡ true = ap (is_seen records) (sym eq) ∙ seen
        in rw (seen, same) (k ∙ ap (λ b. one_more b 0) seen')
    | inr other ↦ rw (seen, other) k
  ]
  | inr unseen ↦ elim (cases_Bool (same_flow s.flow g)) [
    | inl same ↦
        let eq : s.flow ≡ g = same_flow-true s.flow g same
        in let unseen' : is_seen records g ≡ false = ap (is_seen records) (sym eq) ∙ unseen
        in let none : hits (same_flow g) flows ≡ 0 = k ∙ ap (λ b. one_more b 0) unseen'
        in let here : same_flow g s.flow ≡ true = same_flow_sym g s.flow ∙ same
        in let last : one_more (same_flow g s.flow) 0 ≡ 1 = ap (λ b. one_more b 0) here
        in let sum : hits (same_flow g) (flows ++ s.flow ∷ []) ≡ hits (same_flow g) flows
        + one_more (same_flow g s.flow) 0 = total_append (λ f. one_more (same_flow g f) 0) flows s.flow
        in let one : hits (same_flow g) (flows ++ s.flow ∷ []) ≡ 1 = omega arith
        in rw (unseen, same) one
    | inr other ↦
        let there : same_flow g s.flow ≡ false = same_flow_sym g s.flow ∙ other
        in let last : one_more (same_flow g s.flow) 0 ≡ 0 = ap (λ b. one_more b 0) there
        in let sum : hits (same_flow g) (flows ++ s.flow ∷ []) ≡ hits (same_flow g) flows
        + one_more (same_flow g s.flow) 0 = total_append (λ f. one_more (same_flow g f) 0) flows s.flow
        in let same : hits (same_flow g) (flows ++ s.flow ∷ []) ≡ hits (same_flow g) flows = omega arith
        in rw (unseen, other) (same ∙ k)
  ]
]

hits_after : (o : Option Segment) (records : List Record) (flows : List Flow) (g : Flow)
    → hits (same_flow g) flows ≡ one_more (is_seen records g) 0
    → hits (same_flow g) (with_flow o records flows) ≡ one_more (is_of o g || is_seen records g) 0
hits_after None records flows g k = k
hits_after (Some s) records flows g k = hits_with s records flows g k

hits_of : (records : List Record) (g : Flow)
    → hits (same_flow g) (flows_of records) ≡ one_more (is_seen records g) 0
hits_of [] g = refl
hits_of (r ∷ records) g = hits_after (steerable (Some r)) records (flows_of records) g (hits_of records g)

hits_cons : (b : Bool) (n : ℕ) → cond b 1 0 + n ≡ one_more b 0 + n
hits_cons true n = refl
hits_cons false n = refl

count_hits : (t : Flow → Bool) (flows : List Flow) → count_by t flows ≡ hits t flows
count_hits t [] = refl
count_hits t (f ∷ flows) =
    sum_by-cons (λ x. cond (t x) 1 0) f flows ∙ ap (λ n. cond (t f) 1 0 + n) (count_hits t flows)
    ∙ hits_cons (t f) (hits t flows)

pub once_there : (records : List Record) (f : Flow)
    → count_by (same_flow f) (flows_of records) ≡ one_more (is_seen records f) 0
once_there records f = count_hits (same_flow f) (flows_of records) ∙ hits_of records f

-- THE PACKETS OF A RUN WERE SEEN

seen_append : (xs ys : List Record) (g : Flow) → is_seen (xs ++ ys) g ≡ (is_seen xs g || is_seen ys g)
seen_append [] ys g = refl
seen_append (x ∷ xs) ys g = elim (cases_Bool (is_packet_of x g)) [
  | inl here ↦ rw here refl
  | inr elsewhere ↦ rw elsewhere (seen_append xs ys g)
]

seen_at : (xs : List Record) (i : ℕ) (s : Segment) → steerable (slice_get xs i) ≡ Some s → is_seen xs s.flow ≡ true
seen_at [] i s h = absurd (cc)
seen_at (x ∷ xs) zero s h =
    let here : is_packet_of x s.flow ≡ true = ap (λ o. is_of o s.flow) h ∙ same_flow_refl s.flow
    in rw here refl
seen_at (x ∷ xs) (suc i) s h = elim (cases_Bool (is_packet_of x s.flow)) [
  | inl here ↦ rw here refl
  | inr elsewhere ↦ rw elsewhere (seen_at xs i s h)
]

or_false : (b : Bool) → (b || false) ≡ b
or_false true = refl
or_false false = refl

or_flip : (a b : Bool) → (a || b) ≡ (b || a)
or_flip true true = refl
or_flip true false = refl
or_flip false true = refl
or_flip false false = refl

seen_reverse : (xs : List Record) (g : Flow) → is_seen (reverse xs) g ≡ is_seen xs g
seen_reverse [] g = refl
seen_reverse (x ∷ xs) g =
    let e : reverse (x ∷ xs) ≡ reverse xs ++ x ∷ [] = reverse-append (x ∷ []) xs
    in ap (λ l. is_seen l g) e ∙ seen_append (reverse xs) (x ∷ []) g
    ∙ ap (λ b. is_seen (reverse xs) g || b) (or_false (is_packet_of x g))
    ∙ or_flip (is_seen (reverse xs) g) (is_packet_of x g)
    ∙ ap (λ b. is_packet_of x g || b) (seen_reverse xs g)

seen_packet : (stage : Stage) (k : ℕ) (s : Segment) → segment_of stage k ≡ Some s
    → is_seen (records_of stage) s.flow ≡ true
seen_packet stage zero s h = absurd (cc)
seen_packet stage (suc i) s h =
    seen_reverse stage.capture.records s.flow ∙ seen_at stage.capture.records i s h

hits_packet : (stage : Stage) (k : ℕ) (s : Segment) → segment_of stage k ≡ Some s
    → hits (is_of (segment_of stage k)) (flows_of (records_of stage)) ≡ 1
hits_packet stage k s h =
    ap (λ o. hits (is_of o) (flows_of (records_of stage))) h ∙ hits_of (records_of stage) s.flow
    ∙ ap (λ b. one_more b 0) (seen_packet stage k s h)

-- ALL ARRIVALS

-- how many arrivals have a verdict of this kind
abbrev all_of : (Verdict → Bool) → List Event → ℕ
all_of kind [] = 0
all_of kind (e ∷ past) = one_more (arrives kind e.what) (all_of kind past)

arrivals_one : (stage : Stage) (kind : Verdict → Bool) (past : List Event) (e : Event) (what : What)
    → e.what ≡ what → IsStep stage past e
    → total (λ f. one_more (is_arrival_for stage f what && arrives kind what) (arrivals stage f kind past))
    (flows_of (records_of stage))
    ≡ one_more (arrives kind what) (total (λ f. arrivals stage f kind past) (flows_of (records_of stage)))
arrivals_one stage kind past e (Publish v) is step = refl
arrivals_one stage kind past e (Switch m v) is step = refl
arrivals_one stage kind past e (Steer k m) is step = refl
arrivals_one stage kind past e (Lose k hop) is step = refl
arrivals_one stage kind past e (Close server flow closed) is step = refl
arrivals_one stage kind past e (Retire server shard at result) is step = refl
arrivals_one stage kind past e Sync is step = refl
arrivals_one stage kind past e (Arrive k hop server verdict) is step =
    let may = rw is at step.may
    in total_once (is_of (segment_of stage k)) (kind verdict) (λ f. arrivals stage f kind past)
    (flows_of (records_of stage)) (hits_packet stage k may.segment may.is_segment)

arrivals_all : (stage : Stage) (kind : Verdict → Bool) (past : List Event) → Run stage past
    → total (λ f. arrivals stage f kind past) (flows_of (records_of stage)) ≡ all_of kind past
arrivals_all stage kind [] run = total_zero (flows_of (records_of stage))
arrivals_all stage kind (e ∷ past) run =
    arrivals_one stage kind past e e.what refl run.0
    ∙ ap (one_more (arrives kind e.what)) (arrivals_all stage kind past run.1)

strays_one : (stage : Stage) (past : List Event) (e : Event) (what : What)
    → e.what ≡ what → IsStep stage past e
    → total (λ f. one_more (is_arrival_for stage f what && is_stray stage past what) (strays_for stage f past))
    (flows_of (records_of stage))
    ≡ one_more (is_stray stage past what) (total (λ f. strays_for stage f past) (flows_of (records_of stage)))
strays_one stage past e (Publish v) is step = refl
strays_one stage past e (Switch m v) is step = refl
strays_one stage past e (Steer k m) is step = refl
strays_one stage past e (Lose k hop) is step = refl
strays_one stage past e (Close server flow closed) is step = refl
strays_one stage past e (Retire server shard at result) is step = refl
strays_one stage past e Sync is step = refl
strays_one stage past e (Arrive k hop server verdict) is step =
    let may = rw is at step.may
    in total_once (is_of (segment_of stage k)) (is_stray stage past (Arrive k hop server verdict))
    (λ f. strays_for stage f past) (flows_of (records_of stage)) (hits_packet stage k may.segment may.is_segment)

strays_all : (stage : Stage) (past : List Event) → Run stage past
    → total (λ f. strays_for stage f past) (flows_of (records_of stage)) ≡ strays stage past
strays_all stage [] run = total_zero (flows_of (records_of stage))
strays_all stage (e ∷ past) run =
    strays_one stage past e e.what refl run.0
    ∙ ap (one_more (is_stray stage past e.what)) (strays_all stage past run.1)

counted_last : (kind : Verdict → Bool) (past : List Event) (e : Event)
    → all_of kind (past ++ e ∷ []) ≡ one_more (arrives kind e.what) (all_of kind past)
counted_last kind [] e = refl
counted_last kind (x ∷ past) e =
    ap (one_more (arrives kind x.what)) (counted_last kind past e)
    ∙ twice (arrives kind x.what) (arrives kind e.what) (all_of kind past) where
      twice : (a b : Bool) (n : ℕ) → one_more a (one_more b n) ≡ one_more b (one_more a n)
      twice true true n = refl
      twice true false n = refl
      twice false true n = refl
      twice false false n = refl

count_cons : (b : Bool) (n : ℕ) → cond b 1 0 + n ≡ one_more b n
count_cons true n = omega arith
count_cons false n = omega arith

counted_all : (kind : Verdict → Bool) (events : List Event)
    → all_of kind (reverse events) ≡ count_by (λ e. arrives kind e.what) events
counted_all kind [] = refl
counted_all kind (e ∷ events) =
    ap (all_of kind) (reverse-append (e ∷ []) events) ∙ counted_last kind (reverse events) e
    ∙ ap (one_more (arrives kind e.what)) (counted_all kind events)
    ∙ sym (count_cons (arrives kind e.what) (count_by (λ x. arrives kind x.what) events))
    ∙ sym (sum_by-cons (λ x. cond (arrives kind x.what) 1 0) e events)

pub sum_of_arrivals : (h : History) (kind : Verdict → Bool) (n : Connection → ℕ) → IsRun h
    → ((f : Flow) → n (connection_in h f) ≡ arrivals h.stage f kind (reverse h.events))
    → sum_by n (connections h) ≡ count_by (λ e. arrives kind e.what) h.events
sum_of_arrivals h kind n run is =
    total_of n (connection_in h) (flows_of (records_of h.stage))
    ∙ total_same (flows_of (records_of h.stage))
    ∙ arrivals_all h.stage kind (reverse h.events) run.run ∙ counted_all kind h.events where
      total_same : (flows : List Flow)
          → total (λ f. n (connection_in h f)) flows
          ≡ total (λ f. arrivals h.stage f kind (reverse h.events)) flows
      total_same [] = refl
      total_same (f ∷ flows) = rw (is f, total_same flows) refl

pub sum_of_strays : (h : History) → IsRun h
    → sum_by (λ (c : Connection). c.tally.stray) (connections h) ≡ strays h.stage (reverse h.events)
sum_of_strays h run =
    total_of (λ c. c.tally.stray) (connection_in h) (flows_of (records_of h.stage))
    ∙ strays_all h.stage (reverse h.events) run.run

-- BREAKS

some_first : (a b : Option Break) → is_some (first_of_two a b) ≡ (is_some b || is_some a)
some_first None None = refl
some_first None (Some b) = refl
some_first (Some a) None = refl
some_first (Some a) (Some b) = refl

break_is : (stage : Stage) (f : Flow) (past : List Event) (e : Event) (what : What) → e.what ≡ what
    → is_some (if breaks stage f past what then as_break e.clock what (cause stage past e.clock.0 what) else None)
    ≡ breaks stage f past what
break_is stage f past e (Publish v) is = refl
break_is stage f past e (Switch m v) is = refl
break_is stage f past e (Steer k m) is = refl
break_is stage f past e (Lose k hop) is = refl
break_is stage f past e (Close server flow closed) is = refl
break_is stage f past e (Retire server shard at result) is = refl
break_is stage f past e Sync is = refl
break_is stage f past e (Arrive k hop server verdict) is =
    elim (cases_Bool (breaks stage f past (Arrive k hop server verdict))) [
      | inl so ↦ rw so refl
      | inr not_so ↦ rw not_so refl
    ]

pub broken_is : (stage : Stage) (f : Flow) (past : List Event)
    → is_some (breakage stage f past) ≡ is_broken stage f past
broken_is stage f [] = refl
broken_is stage f (e ∷ past) =
    some_first (breakage stage f past) _
    ∙ ap (λ b. b || is_some (breakage stage f past)) (break_is stage f past e e.what refl)
    ∙ ap (λ b. breaks stage f past e.what || b) (broken_is stage f past)
