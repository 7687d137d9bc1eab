-- What one record more and one event more change in a connection.
use Rattle.std.proofs.Common.{◌≡◌, ℕ, suc, ◌<◌, ◌≤◌, ◌^◌, Bool, true, false, ◌&&◌, ◌||◌, not}
use Rattle.std.proofs.Common.{List, [], ◌∷◌, length, Option, Some, None, option_map, is_some}
use Rattle.std.proofs.Common.{refl, sym, ap, ◌∙◌, arith, subst}
use Rattle.std.specs.Prelude.{if◌then◌else◌}
use Rattle.std.proofs.lemmas.Bool.{and_parts}
use Rattle.std.proofs.lemmas.Bool.Decides.{nat_tests}
use Rattle.bm_base.specs.declared.capture.Record.{Record}
use Rattle.bm_base.specs.declared.flow.Flow.{Flow}
use Rattle.bm_base.specs.declared.flow.Segment.{Segment}
use Rattle.bm_base.specs.declared.ids.Moment.{Moment}
use Rattle.bm_base.specs.declared.ids.ServerId.{ServerId}
use Rattle.bm_base.specs.declared.label.Hop.{Hop}
use Rattle.bm_base.specs.Segments.{same_flow}
use Rattle.bm_core.specs.declared.events.Cause.{Cause}
use Rattle.bm_core.specs.declared.events.Event.{Event}
use Rattle.bm_core.specs.declared.events.Stage.{Stage}
use Rattle.bm_core.specs.declared.events.Verdict.{Verdict}
use Rattle.bm_core.specs.declared.events.What.{What}
use Rattle.bm_core.specs.declared.events.What.TheVariants.{Publish, Switch, Steer, Lose, Arrive, Close, Retire, Sync}
use Rattle.bm_core.specs.Causes.{cause, is_process}
use Rattle.bm_core.specs.Past.{Accepted, accept_of, is_accept, is_forward, is_of, segment_of}
use Rattle.bm_trace.specs.CauseOf.{is_break}
use Rattle.bm_trace.specs.Totals.{is_drop, is_reset}
use Rattle.bm_connections.specs.declared.connection.Break.{Break}
use Rattle.bm_connections.specs.declared.connection.Connection.{Connection}
use Rattle.bm_connections.specs.declared.connection.Ending.{Ending}
use Rattle.bm_connections.specs.declared.connection.Forwarding.{Forwarding}
use Rattle.bm_connections.specs.declared.connection.Sight.{Sight}
use Rattle.bm_connections.specs.declared.connection.Tally.{Tally}
use Rattle.bm_connections.specs.declared.observed.Facts.{Facts}
use Rattle.bm_connections.specs.Connections.{acceptor, after_its_end, arrivals, as_break, breaks_nothing, counts}
use Rattle.bm_connections.specs.Connections.{is_after_end, loses_data, risks_data}
use Rattle.bm_connections.specs.Connections.{breakage, first_break, is_arrival_for, last_forwarding, one_more}
use Rattle.bm_connections.specs.Connections.{strays_for, tally, first_of_two, refusal}
use Rattle.bm_connections.specs.Inside.Rows.{HasRoom, forwarded_after, observed, refused_after, row}
use Rattle.bm_connections.specs.Inside.Rows.{tallied}
use Rattle.bm_connections.specs.Endings.{is_risky, of_packet}
use Rattle.bm_connections.specs.Seen.{records_of}
use Rattle.bm_connections.specs.Waits.{wait_of}

pub same_flow-true : (a b : Flow) → same_flow a b ≡ true → a ≡ b
same_flow-true a b h = grind (arith, nat_tests, and_parts)

pub same_flow_refl : (a : Flow) → same_flow a a ≡ true
same_flow_refl a = grind (arith, nat_tests)

-- EVENTS

and_false : (b : Bool) → (b && false) ≡ false
and_false true = refl
and_false false = refl

with_none : (o : Option Break) → first_of_two o None ≡ o
with_none None = refl
with_none (Some b) = refl

-- an event that is no arrival of the flow changes nothing in its connection
still : (stage : Stage) (records : List Record) (past : List Event) (clock : Moment) (what : What) (f : Flow)
    → is_arrival_for stage f what ≡ false
    → row stage records (record { clock = clock; what = what } ∷ past) f ≡ row stage records past f
still stage records past clock (Publish v) f h =
    rw (with_none (breakage stage f past), with_none (first_break stage f past)) refl
still stage records past clock (Switch m v) f h =
    rw (with_none (breakage stage f past), with_none (first_break stage f past)) refl
still stage records past clock (Steer k m) f h =
    rw (with_none (breakage stage f past), with_none (first_break stage f past)) refl
still stage records past clock (Lose k hop) f h =
    rw (with_none (breakage stage f past), with_none (first_break stage f past)) refl
still stage records past clock (Close server flow closed) f h =
    rw (with_none (breakage stage f past), with_none (first_break stage f past)) refl
still stage records past clock (Retire server shard at result) f h =
    rw (with_none (breakage stage f past), with_none (first_break stage f past)) refl
still stage records past clock Sync f h =
    rw (with_none (breakage stage f past), with_none (first_break stage f past)) refl
still stage records past clock (Arrive k hop server verdict) f h =
    rw (h, and_false (is_accept verdict), with_none (breakage stage f past), with_none (first_break stage f past))
    refl

abbrev connection_with : Flow → Sight → Sight → Ending → Option ServerId → Tally → Option Forwarding → Option Break
    → Option Break → Bool → Connection
connection_with f first last ending s t x b r l = record {
  flow = f;
  first = first;
  last = last;
  ending = ending;
  server = s;
  tally = t;
  forwarded = x;
  broken = b;
  refused = r;
  losing_data = l;
}

same_connection : (f : Flow) (first last : Sight) (ending : Ending) (s s' : Option ServerId) (t t' : Tally)
    (x x' : Option Forwarding) (b b' r r' : Option Break) (l l' : Bool)
    → s ≡ s' → t ≡ t' → x ≡ x' → b ≡ b' → r ≡ r' → l ≡ l'
    → connection_with f first last ending s t x b r l ≡ connection_with f first last ending s' t' x' b' r' l'
same_connection f first last ending s s' t t' x x' b b' r r' l l' es et ex eb er el =
    λ i. connection_with f first last ending (es i) (et i) (ex i) (eb i) (er i) (el i)

-- a flow that has no server after an arrival had none before it
refused_changed : (accepts : Bool) (s : ServerId) (o after : Option ServerId) (before new found : Option Break)
    → (if accepts then Some s else o) ≡ after → new ≡ found
    → (if is_some (if accepts then Some s else o) then None
    else first_of_two (if is_some o then None else before) new)
    ≡ (if is_some after then None else first_of_two before found)
refused_changed true s o after before new found server same =
    λ i. if is_some (server i) then None else first_of_two before (same i)
refused_changed false s None after before new found server same =
    λ i. if is_some (server i) then None else first_of_two before (same i)
refused_changed false s (Some t) after before new found server same =
    λ i. if is_some (server i) then None else first_of_two before (same i)

server_changed : (b : Bool) (o : Option Accepted) (a : Accepted)
    → (if b then Some a.server else option_map (λ x. x.server) o)
    ≡ option_map (λ x. x.server) (if b && true then Some a else o)
server_changed true o a = refl
server_changed false o a = refl

-- what is known about an arrival
pub record AreFacts (stage : Stage) (past : List Event) (clock : ℕ) (what : What) (x : Facts) : Type 0 where
  pub wait : x.wait ≡ wait_of stage past clock what
  pub late : x.after_its_end ≡ breaks_nothing stage past what
  pub risks : x.risks_data ≡ risks_data stage what

counted : (broke after : Bool) → (broke && not (broke && after)) ≡ (broke && not after)
counted true after = refl
counted false after = refl

changed : (stage : Stage) (records : List Record) (past : List Event) (clock : Moment) (k : ℕ) (hop : Hop)
    (server : ServerId) (verdict : Verdict) (f : Flow) (found : Option Cause) (x : Facts)
    → is_of (segment_of stage k) f ≡ true
    → AreFacts stage past clock.0 (Arrive k hop server verdict) x
    → found ≡ cause stage past clock.0 (Arrive k hop server verdict)
    → is_some found ≡ is_break stage past (Arrive k hop server verdict)
    → observed (record { packet = k; clock = clock; server = server; verdict = verdict; cause = found }) x
    (row stage records past f)
    ≡ row stage records (record { clock = clock; what = Arrive k hop server verdict } ∷ past) f
changed stage records past clock k hop server verdict f found x here facts by broke =
    let e : Event = record { clock = clock; what = Arrive k hop server verdict }
    in let late : x.after_its_end ≡ breaks_nothing stage past (Arrive k hop server verdict) = facts.late
    in let count : (is_some found && not x.after_its_end) ≡ counts stage past (Arrive k hop server verdict) =
    (λ i. broke i && not (late i))
    ∙ counted (is_break stage past (Arrive k hop server verdict)) (is_after_end stage past (Arrive k hop server verdict))
    in let es : (if is_accept verdict then Some server else acceptor stage f past) ≡ acceptor stage f (e ∷ past) =
    rw here (server_changed (is_accept verdict) (accept_of stage past f) _)
    in let et : tallied verdict (is_some found) x.after_its_end (tally stage f past) ≡ tally stage f (e ∷ past) =
    rw (here, broke, late) refl
    in let eb : first_of_two (breakage stage f past)
    (if (is_some found && not x.after_its_end) && is_some (acceptor stage f past)
    then Some (record { packet = k; clock = clock; server = server; verdict = verdict; cause = found })
    else None) ≡ breakage stage f (e ∷ past) =
    rw here (λ i. first_of_two (breakage stage f past)
    (if count i && is_some (acceptor stage f past)
    then Some (record { packet = k; clock = clock; server = server; verdict = verdict; cause = by i })
    else None))
    in let ex : forwarded_after
    (record { packet = k; clock = clock; server = server; verdict = verdict; cause = found }) x.wait
    (last_forwarding stage f past) ≡ last_forwarding stage f (e ∷ past) =
    rw here (ap (λ (n : ℕ). if is_forward verdict
    then Some (record { packet = k; clock = clock; server = server; wait = n })
    else last_forwarding stage f past) facts.wait)
    in let en : (if is_some found && not x.after_its_end
    then Some (record { packet = k; clock = clock; server = server; verdict = verdict; cause = found })
    else None)
    ≡ (if is_of (segment_of stage k) f
    && counts stage past (Arrive k hop server verdict)
    then Some (record {
      packet = k;
      clock = clock;
      server = server;
      verdict = verdict;
      cause = cause stage past clock.0 (Arrive k hop server verdict);
    })
    else None) =
    rw here (λ i. if count i
    then Some (record { packet = k; clock = clock; server = server; verdict = verdict; cause = by i })
    else None)
    in let er : refused_after
    (record { packet = k; clock = clock; server = server; verdict = verdict; cause = found }) x
    (if is_accept verdict then Some server else acceptor stage f past) (refusal stage f past)
    ≡ refusal stage f (e ∷ past) =
    refused_changed (is_accept verdict) server (acceptor stage f past) (acceptor stage f (e ∷ past))
    (first_break stage f past) _ _ es en
    in let el : ((is_some found && not x.after_its_end) && is_some (acceptor stage f past)) && x.risks_data
    || loses_data stage f past ≡ loses_data stage f (e ∷ past) =
    rw here (λ i. (count i && is_some (acceptor stage f past)) && facts.risks i || loses_data stage f past)
    in same_connection f _ _ _ _ _ _ _ _ _ _ _ _ _ _ _ es et ex eb er el

-- an arrival of the flow changes its connection so
changed_by : (stage : Stage) (records : List Record) (past : List Event) (clock : Moment) (what : What) (f : Flow)
    (found : Option Cause) (x : Facts) (b : Break)
    → as_break clock what found ≡ Some b → is_arrival_for stage f what ≡ true
    → AreFacts stage past clock.0 what x
    → found ≡ cause stage past clock.0 what → is_some found ≡ is_break stage past what
    → observed b x (row stage records past f)
    ≡ row stage records (record { clock = clock; what = what } ∷ past) f
changed_by stage records past clock (Arrive k hop server verdict) f found x b is here facts by broke =
    let same : record { packet = k; clock = clock; server = server; verdict = verdict; cause = found } ≡ b = cc
    in subst (λ (y : Break). observed y x (row stage records past f)
    ≡ row stage records (record { clock = clock; what = Arrive k hop server verdict } ∷ past) f) same
    (changed stage records past clock k hop server verdict f found x here facts by broke)
changed_by stage records past clock (Publish v) f found x b is here facts by broke = absurd (cc)
changed_by stage records past clock (Switch m v) f found x b is here facts by broke = absurd (cc)
changed_by stage records past clock (Steer k m) f found x b is here facts by broke = absurd (cc)
changed_by stage records past clock (Lose k hop) f found x b is here facts by broke = absurd (cc)
changed_by stage records past clock (Close server flow closed) f found x b is here facts by broke = absurd (cc)
changed_by stage records past clock (Retire server shard at result) f found x b is here facts by broke =
    absurd (cc)
changed_by stage records past clock Sync f found x b is here facts by broke = absurd (cc)

no_arrival : (stage : Stage) (f : Flow) (clock : Moment) (what : What) (found : Option Cause)
    → as_break clock what found ≡ None → is_arrival_for stage f what ≡ false
no_arrival stage f clock (Arrive k hop server verdict) found is = absurd (cc)
no_arrival stage f clock (Publish v) found is = refl
no_arrival stage f clock (Switch m v) found is = refl
no_arrival stage f clock (Steer k m) found is = refl
no_arrival stage f clock (Lose k hop) found is = refl
no_arrival stage f clock (Close server flow closed) found is = refl
no_arrival stage f clock (Retire server shard at result) found is = refl
no_arrival stage f clock Sync found is = refl

arrival_is : (stage : Stage) (f : Flow) (clock : Moment) (what : What) (found : Option Cause) (b : Break)
    → as_break clock what found ≡ Some b → is_arrival_for stage f what ≡ is_of (segment_of stage b.packet) f
arrival_is stage f clock (Arrive k hop server verdict) found b is =
    let same : record { packet = k; clock = clock; server = server; verdict = verdict; cause = found } ≡ b = cc
    in ap (λ (x : Break). is_of (segment_of stage x.packet) f) same
arrival_is stage f clock (Publish v) found b is = absurd (cc)
arrival_is stage f clock (Switch m v) found b is = absurd (cc)
arrival_is stage f clock (Steer k m) found b is = absurd (cc)
arrival_is stage f clock (Lose k hop) found b is = absurd (cc)
arrival_is stage f clock (Close server flow closed) found b is = absurd (cc)
arrival_is stage f clock (Retire server shard at result) found b is = absurd (cc)
arrival_is stage f clock Sync found b is = absurd (cc)

-- what is said of an arrival's packet is said of the break's
pub record SaysOfPacket (stage : Stage) (what : What) (b : Break) : Type 0 where
  pub risks : risks_data stage what ≡ of_packet is_risky (records_of stage) b.packet

pub says_of_packet : (stage : Stage) (clock : Moment) (what : What) (found : Option Cause) (b : Break)
    → as_break clock what found ≡ Some b → SaysOfPacket stage what b
says_of_packet stage clock (Arrive k hop server verdict) found b is =
    let same : record { packet = k; clock = clock; server = server; verdict = verdict; cause = found } ≡ b = cc
    in record { risks = ap (λ (y : Break). of_packet is_risky (records_of stage) y.packet) same }
says_of_packet stage clock (Publish v) found b is = absurd (cc)
says_of_packet stage clock (Switch m v) found b is = absurd (cc)
says_of_packet stage clock (Steer k m) found b is = absurd (cc)
says_of_packet stage clock (Lose k hop) found b is = absurd (cc)
says_of_packet stage clock (Close server flow closed) found b is = absurd (cc)
says_of_packet stage clock (Retire server shard at result) found b is = absurd (cc)
says_of_packet stage clock Sync found b is = absurd (cc)

-- an arrival of another flow changes nothing
pub other_observed : (stage : Stage) (records : List Record) (past : List Event) (e : Event) (found : Option Cause)
    (b : Break) (s : Segment) (q : Flow)
    → as_break e.clock e.what found ≡ Some b → segment_of stage b.packet ≡ Some s → same_flow s.flow q ≡ false
    → row stage records (e ∷ past) q ≡ row stage records past q
other_observed stage records past e found b s q is seg other =
    let packet : is_arrival_for stage q e.what ≡ false =
    arrival_is stage q e.clock e.what found b is ∙ ap (λ o. is_of o q) seg ∙ other
    in still stage records past e.clock e.what q packet

-- one of the flow itself
pub here_observed : (stage : Stage) (records : List Record) (past : List Event) (e : Event) (found : Option Cause)
    (x : Facts) (b : Break) (s : Segment)
    → as_break e.clock e.what found ≡ Some b → segment_of stage b.packet ≡ Some s
    → AreFacts stage past e.clock.0 e.what x
    → found ≡ cause stage past e.clock.0 e.what → is_some found ≡ is_break stage past e.what
    → row stage records (e ∷ past) s.flow ≡ observed b x (row stage records past s.flow)
here_observed stage records past e found x b s is seg facts by broke =
    let packet : is_arrival_for stage s.flow e.what ≡ true =
    arrival_is stage s.flow e.clock e.what found b is ∙ ap (λ o. is_of o s.flow) seg ∙ same_flow_refl s.flow
    in sym (changed_by stage records past e.clock e.what s.flow found x b is packet facts by broke)

-- no arrival
pub none_observed : (stage : Stage) (records : List Record) (past : List Event) (e : Event) (found : Option Cause)
    (q : Flow) → as_break e.clock e.what found ≡ None
    → row stage records (e ∷ past) q ≡ row stage records past q
none_observed stage records past e found q is =
    still stage records past e.clock e.what q (no_arrival stage q e.clock e.what found is)

-- an arrival of no flow
pub lost_observed : (stage : Stage) (records : List Record) (past : List Event) (e : Event) (found : Option Cause)
    (b : Break) (q : Flow) → as_break e.clock e.what found ≡ Some b → segment_of stage b.packet ≡ None
    → row stage records (e ∷ past) q ≡ row stage records past q
lost_observed stage records past e found b q is seg =
    still stage records past e.clock e.what q
    (arrival_is stage q e.clock e.what found b is ∙ ap (λ o. is_of o q) seg)

-- ROOM

more_few : (b : Bool) (n m : ℕ) → n ≤ m → one_more b n ≤ suc m
more_few true n m h = omega arith
more_few false n m h = omega arith

arrivals_few : (stage : Stage) (f : Flow) (kind : Verdict → Bool) (past : List Event)
    → arrivals stage f kind past ≤ length past
arrivals_few stage f kind [] = omega arith
arrivals_few stage f kind (e ∷ past) = more_few _ _ (length past) (arrivals_few stage f kind past)

strays_few : (stage : Stage) (f : Flow) (past : List Event) → strays_for stage f past ≤ length past
strays_few stage f [] = omega arith
strays_few stage f (e ∷ past) = more_few _ _ (length past) (strays_few stage f past)

ended_few : (stage : Stage) (f : Flow) (past : List Event) → after_its_end stage f past ≤ length past
ended_few stage f [] = omega arith
ended_few stage f (e ∷ past) = more_few _ _ (length past) (ended_few stage f past)

pub room_in : (stage : Stage) (f : Flow) (past : List Event) → suc (length past) < 2 ^ 64 → HasRoom (tally stage f past)
room_in stage f past few = record {
  accepted = let n = arrivals_few stage f is_accept past in omega arith;
  processed = let n = arrivals_few stage f is_process past in omega arith;
  forwarded = let n = arrivals_few stage f is_forward past in omega arith;
  reset = let n = arrivals_few stage f is_reset past in omega arith;
  dropped = let n = arrivals_few stage f is_drop past in omega arith;
  stray = let n = strays_few stage f past in omega arith;
  after_its_end = let n = ended_few stage f past in omega arith;
}
