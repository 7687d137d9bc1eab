-- The packets of each Accept are found by where a flow was last accepted: a server that processes a
-- segment of a run holds the flow, and what it holds is what it accepted last.
use Rattle.std.proofs.Common.{◌≡◌, ℕ, ◌&&◌, Bool, true, false, List, [], ◌∷◌, ◌++◌, length, Option, Some, None}
use Rattle.std.proofs.Common.{refl, sym, ap, subst, ◌∙◌, arith, cond}
use Rattle.std.proofs.lemmas.Option.{same_Some}
use Rattle.std.specs.Prelude.{is_some, option_map, if◌then◌else◌}
use Rattle.bm_base.specs.declared.flow.Flow.{Flow}
use Rattle.bm_base.specs.declared.flow.Segment.{Segment}
use Rattle.bm_base.specs.declared.ids.ServerId.{ServerId}
use Rattle.bm_base.specs.declared.label.Hop.{Hop}
use Rattle.bm_base.specs.declared.label.Past.{Past}
use Rattle.bm_base.specs.declared.receive.Taken.{Taken}
use Rattle.bm_base.specs.declared.receive.Taken.TheVariants.{Advance, Duplicate, Ahead, Outside, Challenge, Ended}
use Rattle.bm_base.specs.Segments.{same_flow}
use Rattle.bm_core.specs.declared.events.Event.{Event}
use Rattle.bm_core.specs.declared.events.Local.{Local}
use Rattle.bm_core.specs.declared.events.Stage.{Stage}
use Rattle.bm_core.specs.declared.events.Verdict.{Verdict}
use Rattle.bm_core.specs.declared.events.Verdict.TheVariants.{Accept, Process, Forward, Reset, Drop}
use Rattle.bm_core.specs.declared.events.What.{What}
use Rattle.bm_core.specs.declared.events.What.TheVariants.{Publish, Switch, Steer, Lose, Arrive, Close, Retire, Sync}
use Rattle.bm_core.specs.Causes.{is_process}
use Rattle.bm_core.specs.Past.{Holding, held, held_after, after_verdict, after_arrival, segment_of, is_of, is_accept}
use Rattle.bm_core.specs.Runs.{MayCome, IsArrival}
use Rattle.bm_core.specs.Verdicts.{verdict_of, verdict_at, local_at, receiver_of}
use Rattle.bm_table.specs.Tables.{same_server}
use Rattle.bm_stream.specs.declared.packets.Accepts.{Accepts}
use Rattle.bm_stream.specs.declared.packets.Found.{Found}
use Rattle.bm_stream.specs.Accepts.{accept_by, held_place, is_piece, is_at, packets_of, with_event}
use Rattle.bm_stream.specs.Inside.Found.{HasFound, list_in, place_in}
use Rattle.bm_stream.specs.Inside.Latest.{latest, latest_after}

-- WHAT IS HELD WAS ACCEPTED LAST

-- what is held is the Accept of this place
abbrev IsLatest : Option Holding → Option ℕ → Type 0
IsLatest None place = Unit {0}
IsLatest (Some h) place = place ≡ Some h.place

-- no longer held, or still
unless : (b : Bool) (before : Option Holding) (place : Option ℕ) → IsLatest before place
    → IsLatest (cond b None before) place
unless true before place is = tt
unless false before place is = is

still : (f : Holding → Holding) → ((h : Holding) → (f h).place ≡ h.place) → (before : Option Holding) (place : Option ℕ)
    → IsLatest before place → IsLatest (option_map f before) place
still f same None place is = tt
still f same (Some h) place is = is ∙ ap (λ (n : ℕ). Some n) (sym (same h))

by_verdict : (at : ℕ) (verdict : Verdict) (s : Segment) (here : Bool) (before : Option Holding) (place : Option ℕ)
    → IsLatest before place
    → IsLatest (cond here (after_verdict at verdict s before) before) (cond (is_accept verdict && here) (Some at) place)
by_verdict at Accept s true before place is = refl
by_verdict at Accept s false before place is = is
by_verdict at (Process Ended) s true before place is = tt
by_verdict at (Process Advance) s true before place is = still _ (λ h. refl) before place is
by_verdict at (Process Duplicate) s true before place is = still _ (λ h. refl) before place is
by_verdict at (Process Ahead) s true before place is = still _ (λ h. refl) before place is
by_verdict at (Process Outside) s true before place is = still _ (λ h. refl) before place is
by_verdict at (Process Challenge) s true before place is = still _ (λ h. refl) before place is
by_verdict at (Process t) s false before place is = is
by_verdict at (Forward to) s true before place is = is
by_verdict at (Forward to) s false before place is = is
by_verdict at (Reset why) s true before place is = is
by_verdict at (Reset why) s false before place is = is
by_verdict at (Drop why) s true before place is = is
by_verdict at (Drop why) s false before place is = is

never : (a b : Bool) (at place : Option ℕ) → cond (a && (b && false)) at place ≡ place
never true true at place = refl
never true false at place = refl
never false b at place = refl

by_arrival : (at : ℕ) (here : Bool) (verdict : Verdict) (o : Option Segment) (f : Flow) (before : Option Holding)
    (place : Option ℕ) → IsLatest before place
    → IsLatest (after_arrival at here verdict o f before) (cond (is_accept verdict && (here && is_of o f)) (Some at) place)
by_arrival at here verdict None f before place is =
    subst (IsLatest before) (sym (never (is_accept verdict) here (Some at) place)) is
by_arrival at here verdict (Some s) f before place is =
    by_verdict at verdict s (here && same_flow s.flow f) before place is

by_event : (stage : Stage) (at : ℕ) (what : What) (s : ServerId) (f : Flow) (before : Option Holding) (place : Option ℕ)
    → IsLatest before place → IsLatest (held_after stage at what s f before) (latest_after stage at what s f place)
by_event stage at (Arrive k hop server verdict) s f before place is =
    by_arrival at (same_server server s) verdict (segment_of stage k) f before place is
by_event stage at (Close server flow closed) s f before place is = unless _ before place is
by_event stage at (Retire server h moment result) s f before place is = unless _ before place is
by_event stage at (Publish v) s f before place is = is
by_event stage at (Switch m v) s f before place is = is
by_event stage at (Steer k m) s f before place is = is
by_event stage at (Lose k hop) s f before place is = is
by_event stage at Sync s f before place is = is

held_latest : (stage : Stage) (past : List Event) (s : ServerId) (f : Flow)
    → IsLatest (held stage past s f) (latest stage past s f)
held_latest stage [] s f = tt
held_latest stage (e ∷ past) s f = by_event stage (length past) e.what s f _ _ (held_latest stage past s f)

-- WHAT IS PROCESSED IS HELD

none_unprocessed : (local : Local) (timeout clock : ℕ) (hop : Hop) (onto : Option Past) (s : Segment)
    → local.held ≡ None → is_process (verdict_of local timeout clock hop onto s) ≡ false
none_unprocessed local timeout clock hop onto s e = grind arith

process_held : (t : Taken) (o : Option Holding) (local : Local) (timeout clock : ℕ) (hop : Hop) (onto : Option Past)
    (s : Segment) → Process t ≡ verdict_of local timeout clock hop onto s → local.held ≡ receiver_of o → is_some o ≡ true
process_held t None local timeout clock hop onto s is none =
    let here : is_process (verdict_of local timeout clock hop onto s) ≡ true = ap is_process (sym is) in
    let not : is_process (verdict_of local timeout clock hop onto s) ≡ false =
    none_unprocessed local timeout clock hop onto s none
    in
    absurd (cc)
process_held t (Some h) local timeout clock hop onto s is none = refl

place_held : (o : Option Holding) (place : Option ℕ) → IsLatest o place → is_some o ≡ true
    → option_map (λ h. h.place) o ≡ place
place_held None place is some = absurd (cc)
place_held (Some h) place is some = sym is

-- the server holds what it accepted last
processed_place : (stage : Stage) (past : List Event) (clock k : ℕ) (hop : Hop) (server : ServerId) (t : Taken)
    (s : Segment) → segment_of stage k ≡ Some s → IsArrival stage past clock k hop server (Process t)
    → held_place stage past server (Some s) ≡ latest stage past server s.flow
processed_place stage past clock k hop server t s is may =
    let same : may.segment ≡ s = same_Some _ _ (sym may.is_segment ∙ is) in
    let verdict : Process t ≡ verdict_at stage past clock may.label hop server s =
    subst (λ (x : Segment). Process t ≡ verdict_at stage past clock may.label hop server x) same may.verdict_is
    in
    place_held (held stage past server s.flow) _ (held_latest stage past server s.flow)
    (process_held t (held stage past server s.flow) (local_at stage past server s.flow) _ clock hop _ s verdict refl)

-- A PIECE IS OBSERVED

pub piece_observed : (stage : Stage) (past : List Event) (e : Event) (old new : Found) (k : ℕ) (hop : Hop)
    (server : ServerId) (t : Taken) (s : Segment) → e.what ≡ Arrive k hop server (Process t) → is_piece t ≡ true
    → segment_of stage k ≡ Some s → MayCome stage past e.clock.0 e.what → HasFound stage past old
    → new.accepts ≡ old.accepts
    → ((q : ℕ) → list_in new.packets q
    ≡ (if is_at (place_in old.accepts server s.flow) q then list_in old.packets q ++ k ∷ [] else list_in old.packets q))
    → HasFound stage (e ∷ past) new
piece_observed stage past e old new k hop server t s what piece segment may found accepts packets =
    let arrival : IsArrival stage past e.clock.0 k hop server (Process t) =
    subst (λ (w : What). MayCome stage past e.clock.0 w) what may
    in
    let at : accept_by stage past server (segment_of stage k) (Process t) ≡ place_in old.accepts server s.flow =
    rw (segment, piece)
    (processed_place stage past e.clock.0 k hop server t s segment arrival ∙ sym (found.accepts server s.flow))
    in
    record {
      accepts = λ s' f. ap (λ (a : Accepts). place_in a s' f) accepts ∙ found.accepts s' f
          ∙ ap (λ (w : What). latest_after stage (length past) w s' f (latest stage past s' f)) (sym what);
      packets = λ q. packets q
          ∙ ap (λ (l : List ℕ). if is_at (place_in old.accepts server s.flow) q then l ++ k ∷ [] else l) (found.packets q)
          ∙ ap (λ (o : Option ℕ). if is_at o q then packets_of stage q past ++ k ∷ [] else packets_of stage q past) (sym at)
          ∙ ap (λ (w : What). with_event stage past q w (packets_of stage q past)) (sym what);
    }
