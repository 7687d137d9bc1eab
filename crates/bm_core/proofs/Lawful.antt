-- The laws, at an event and at its place in a history.
use Rattle.std.proofs.Common.{reverse, ◌≡◌, ℕ, zero, suc, ◌<◌, ◌≤◌, true, false, ◌||◌, ◌⊎◌, inl, inr, List, [], ◌∷◌}
use Rattle.std.proofs.Common.{take, Option, Some, None, is_some, refl, sym, ap, ◌∙◌, subst, arith, ltb}
use Rattle.std.specs.Prelude.{slice_get, IsSomeAnd}
use mathlib.Core.List.{reverse_aux}
use Rattle.std.proofs.lemmas.Bool.{cases_Bool, cases_eq, both_ways, or_from, lt-ltb}
use Rattle.std.proofs.lemmas.Bool.Decides.{nat_tests}
use Rattle.std.proofs.lemmas.Option.{same_Some}
use Rattle.bm_base.specs.declared.ids.ServerId.{ServerId}
use Rattle.bm_base.specs.declared.flow.Segment.{Segment}
use Rattle.bm_base.specs.declared.label.Hop.{Hop}
use Rattle.bm_base.specs.declared.label.Hop.TheVariants.{Direct, Chained, Twice}
use Rattle.bm_base.specs.declared.label.Entry.{Entry}
use Rattle.bm_base.specs.declared.label.Past.{Past}
use Rattle.bm_base.specs.Labels.{arrives_at, hop_number}
use Rattle.bm_base.proofs.Hops.{same_number}
use Rattle.bm_core.specs.declared.events.Why.TheVariants.{Full, Retired}
use Rattle.bm_core.specs.declared.events.Local.{Local}
use Rattle.bm_core.specs.declared.events.Cause.{Cause}
use Rattle.bm_core.specs.declared.events.Cause.TheVariants.{Full as FullShard, OldTable}
use Rattle.bm_core.specs.declared.events.Verdict.{Verdict}
use Rattle.bm_core.specs.declared.events.Verdict.TheVariants.{Drop, Forward}
use Rattle.bm_core.specs.declared.events.What.{What}
use Rattle.bm_core.specs.declared.events.What.TheVariants.{Publish, Switch, Steer, Lose, Arrive, Close, Retire, Sync}
use Rattle.bm_core.specs.declared.events.Event.{Event}
use Rattle.bm_core.specs.declared.events.Stage.{Stage}
use Rattle.bm_core.specs.declared.events.History.{History}
use Rattle.bm_base.specs.Segments.{is_opening}
use Rattle.bm_core.specs.Past.{timeout, sends, is_sent, is_forward, newest, segment_of, label_of, Accepted, owner}
use Rattle.bm_core.specs.Verdicts.{onward, local_at, verdict_of, verdict_at}
use Rattle.bm_core.specs.Causes.{first_broken, is_process, is_break, is_refusal, opening_cause, cause}
use Rattle.bm_core.specs.Stages.{IsSound}
use Rattle.bm_core.specs.Runs.{last_clock, IsArrival, MayCome, Run, IsRun, event_at, past_at}
use Rattle.bm_core.specs.Laws.{IsUnbrokenPacket, IsServedPacket, IsUnbrokenArrival, IsServed, IsRetiredDrop}
use Rattle.bm_core.specs.Laws.{IsLate, IsStampLate, IsAway, IsForwardedTo, IsBreak, At, IsRefusedOpening}
use Rattle.bm_core.specs.Laws.{IsRefusalNamed}
use Rattle.bm_core.proofs.Owned.{IsServedBy, safe, late, outdated, home_is, has_onward, false_from_not}
use Rattle.bm_core.proofs.Pasts.{arrival_sends, hop_before, owner_is, sent_before, steer_sends}

-- what is left of a run after its newest events
run_older : (stage : Stage) (newer past : List Event) → Run stage (reverse_aux newer past) → Run stage past
run_older stage [] past run = run
run_older stage (x ∷ newer) past run = (run_older stage newer (x ∷ past) run).1

run_from : (stage : Stage) (events past : List Event) (place : ℕ) (e : Event) → Run stage (reverse_aux events past)
    → slice_get events place ≡ Some e → Run stage (e ∷ reverse_aux (take place events) past)
run_from stage [] past place e run is = absurd (cc)
run_from stage (x ∷ events) past zero e run is =
    subst (λ (y : Event). Run stage (y ∷ past)) (same_Some _ _ is) (run_older stage events (x ∷ past) run)
run_from stage (x ∷ events) past (suc place) e run is = run_from stage events (x ∷ past) place e run is

-- the event at a place may come after those before it, which are a run
pub run_at : (h : History) (place : ℕ) (e : Event) → IsRun h → event_at h place ≡ Some e
    → Run h.stage (e ∷ past_at h place)
run_at h place e run is = run_from h.stage h.events [] place e run.run is

-- what follows at each event of each run follows at each place of a history
pub law : (P Q : Stage → List Event → ℕ → What → Type 0)
    → ((stage : Stage) → IsSound stage → (past : List Event) (clock : ℕ) (what : What) → Run stage past
    → last_clock past ≤ clock → MayCome stage past clock what → P stage past clock what → Q stage past clock what)
    → (h : History) (place : ℕ) → IsRun h → At h place P → At h place Q
law P Q follows h place run premise = go (event_at h place) refl premise where
  go : (o : Option Event) → event_at h place ≡ o → IsSomeAnd o (λ e. P h.stage (past_at h place) e.clock.0 e.what)
      → IsSomeAnd o (λ e. Q h.stage (past_at h place) e.clock.0 e.what)
  go None is p = p
  go (Some e) is p =
      let r = run_at h place e run is
      in follows h.stage run.sound (past_at h place) e.clock.0 e.what r.1 r.0.clock r.0.may p

-- SAFETY

safe_step : (stage : Stage) → IsSound stage → (past : List Event) (clock : ℕ) (what : What) → Run stage past
    → last_clock past ≤ clock → MayCome stage past clock what → IsUnbrokenArrival stage past clock what
    → IsServed stage past what
safe_step stage sound past clock (Arrive k hop server verdict) run later may unbroken =
    go (owner stage past k) refl premises where
      premises : (is_opening may.segment ≡ false)
          × (first_broken stage past clock may.label hop may.segment.flow server (owner stage past k) ≡ None)
      premises = rw (may.is_segment, may.is_label) at unbroken

      go : (o : Option Accepted) → owner stage past k ≡ o → (is_opening may.segment ≡ false)
          × (first_broken stage past clock may.label hop may.segment.flow server o ≡ None)
          → IsSomeAnd o (λ a. ((is_process verdict ≡ true) × (server ≡ a.server))
          ⊎ ((server ≡ a.server → ⊥)
          × IsSomeAnd (label_of stage past k) (λ l. IsForwardedTo l.entry hop verdict a.server)))
      go None own p = absurd (cc)
      go (Some a) own p =
          rw may.is_label (safe stage sound past run clock k server later a hop verdict may p.0 own p.1)
safe_step stage sound past clock (Steer k m) run later may unbroken = absurd unbroken
safe_step stage sound past clock (Publish v) run later may unbroken = absurd unbroken
safe_step stage sound past clock (Switch m v) run later may unbroken = absurd unbroken
safe_step stage sound past clock (Lose k hop) run later may unbroken = absurd unbroken
safe_step stage sound past clock (Close server flow closed) run later may unbroken = absurd unbroken
safe_step stage sound past clock (Retire server h at result) run later may unbroken = absurd unbroken
safe_step stage sound past clock Sync run later may unbroken = absurd unbroken

pub safety_law : (h : History) (place : ℕ) → IsRun h → At h place IsUnbrokenArrival
    → At h place (λ stage past clock what. IsServed stage past what)
safety_law = law IsUnbrokenArrival (λ stage past clock what. IsServed stage past what) safe_step

pub packet_served : (stage : Stage) → IsSound stage → (packet : ℕ) (all : List Event) → Run stage all
    → IsUnbrokenPacket stage all packet → IsServedPacket stage all packet
packet_served stage sound packet [] run unbroken = tt
packet_served stage sound packet (e ∷ past) run unbroken = (
  λ is. safe_step stage sound past e.clock.0 e.what run.1 run.0.clock run.0.may (unbroken.0 is),
  packet_served stage
      sound packet past run.1 unbroken.1,
)

pub served_law : (h : History) (packet : ℕ) → IsRun h → IsUnbrokenPacket h.stage (reverse h.events) packet
    → IsServedPacket h.stage (reverse h.events) packet
served_law h packet run unbroken = packet_served h.stage run.sound packet (reverse h.events) run.run unbroken

-- RETIRED SHARDS

retired_from : (local : Local) (timeout clock : ℕ) (hop : Hop) (onto : Option Past) (s : Segment)
    → verdict_of local timeout clock hop onto s ≡ Drop Retired → local.retired ≡ true
retired_from local timeout clock hop onto s e = grind arith

retired_step : (stage : Stage) → IsSound stage
    → (past : List Event) (clock k : ℕ) (hop : Hop) (server : ServerId) → Run stage past → last_clock past ≤ clock
    → (may : IsArrival stage past clock k hop server (Drop Retired)) → (o : Option Accepted) → owner stage past k ≡ o
    → IsAway stage hop server o (Some may.segment) (Some may.label)
    → IsStampLate stage clock hop (Some may.label)
retired_step stage sound past clock k hop server run later may None own away = absurd away
retired_step stage sound past clock k hop server run later may (Some a) own away =
    let ret =
    retired_from (local_at stage past server may.segment.flow) (timeout stage) clock hop
    (onward may.label.entry hop) may.segment (sym may.verdict_is)
    in let acc = owner_is stage past run k may.segment a may.is_segment own
    in let home =
    home_is stage sound past run clock k server later a hop (Drop Retired) may acc.server away.1 away.3
    in let less : hop_number hop < hop_number home.0 = elim (cases_eq (hop_number hop) (hop_number home.0)) [
      | inl same ↦
          let one : hop ≡ home.0 = same_number hop home.0 same
          in absurd (away.0
          (same_Some _ _ (sym may.place ∙ (ap (λ (h : Hop). arrives_at may.label.entry h) one ∙ home.2))))
      | inr apart ↦ let most = home.1 in let back = away.2 in omega arith
    ]
    in let p =
    has_onward stage sound past run clock k server later a hop home.0 (Drop Retired) may home.2 less
    in rw p.1 (late stage sound past run clock k server later hop (Drop Retired) may ret p.0 p.1)

late_step : (stage : Stage) → IsSound stage → (past : List Event) (clock : ℕ) (what : What) → Run stage past
    → last_clock past ≤ clock → MayCome stage past clock what → IsRetiredDrop stage past what
    → IsLate stage past clock what
late_step stage sound past clock (Arrive k hop server (Drop Retired)) run later may dropped =
    rw may.is_label
    (retired_step stage sound past clock k hop server run later may (owner stage past k) refl
    (rw (may.is_segment, may.is_label) at dropped))
late_step stage sound past clock _ run later may dropped = absurd dropped

pub late_law : (h : History) (place : ℕ) → IsRun h → At h place (λ stage past clock what. IsRetiredDrop stage past what)
    → At h place IsLate
late_law = law (λ stage past clock what. IsRetiredDrop stage past what) IsLate late_step

-- CAUSES

opening_not_forwarded : (local : Local) (timeout clock : ℕ) (onto : Option Past) (s : Segment) → is_opening s ≡ true
    → is_forward (verdict_of local timeout clock Direct onto s) ≡ false
opening_not_forwarded local timeout clock onto s o = grind arith

opening_unsent_step : (stage : Stage) (past : List Event) (clock k : ℕ) (s : Segment) (what : What)
    → MayCome stage past clock what → segment_of stage k ≡ Some s → is_opening s ≡ true
    → is_sent past k Chained ≡ false → (sends what k Chained || is_sent past k Chained) ≡ false
opening_unsent_step stage past clock k s (Steer packet m) may is opens old =
    or_from _ _ (steer_sends packet k m Direct Chained refl) old
opening_unsent_step stage past clock k s (Arrive packet hop server verdict) may is opens old =
    or_from _ _ (false_from_not (sends (Arrive packet hop server verdict) k Chained) (λ now.
    let parts = arrival_sends packet k hop Chained server verdict now
    in let eq : packet ≡ k = parts.0
    in let seg : may.segment ≡ s = same_Some _ _ (sym may.is_segment ∙ ap (λ (n : ℕ). segment_of stage n) eq ∙ is)
    in let direct : hop ≡ Direct = hop_before Direct hop Chained refl parts.2
    in let stays : is_forward
    (verdict_of (local_at stage past server may.segment.flow) (timeout stage) clock Direct (onward may.label.entry hop)
    may.segment) ≡ false =
    opening_not_forwarded (local_at stage past server may.segment.flow) (timeout stage) clock
    (onward may.label.entry hop) may.segment (rw seg opens)
    in let stays' : is_forward (verdict_at stage past clock may.label hop server may.segment) ≡ false =
    subst (λ (x : Hop). is_forward
    (verdict_of (local_at stage past server may.segment.flow) (timeout stage) clock x (onward may.label.entry hop)
    may.segment) ≡ false) (sym direct) stays
    in let goes : is_forward (verdict_at stage past clock may.label hop server may.segment) ≡ true =
    rw may.verdict_is at parts.1
    in both_ways _ stays' goes)) old
opening_unsent_step stage past clock k s (Publish v) may is opens old = old
opening_unsent_step stage past clock k s (Switch m v) may is opens old = old
opening_unsent_step stage past clock k s (Lose packet hop) may is opens old = old
opening_unsent_step stage past clock k s (Close server flow closed) may is opens old = old
opening_unsent_step stage past clock k s (Retire server h at result) may is opens old = old
opening_unsent_step stage past clock k s Sync may is opens old = old

-- an opening packet is not sent on
opening_unsent : (stage : Stage) (past : List Event) (k : ℕ) (s : Segment) → Run stage past
    → segment_of stage k ≡ Some s → is_opening s ≡ true → is_sent past k Chained ≡ false
opening_unsent stage [] k s run is opens = refl
opening_unsent stage (e ∷ past) k s run is opens =
    opening_unsent_step stage past e.clock.0 k s e.what run.0.may is opens
    (opening_unsent stage past k s run.1 is opens)

opening_refused : (local : Local) (timeout clock : ℕ) (onto : Option Past) (s : Segment) (verdict : Verdict)
    → verdict ≡ verdict_of local timeout clock Direct onto s → is_opening s ≡ true → is_refusal verdict ≡ true
    → ((local.retired ≡ true) × (verdict ≡ Drop Retired)) ⊎ (verdict ≡ Drop Full)
opening_refused local timeout clock onto s verdict is opens ref = grind arith

-- an opening packet is dropped by a full shard, or by a retired one after its mux had an old table
opening_named : (stage : Stage) → IsSound stage
    → (past : List Event) (clock k : ℕ) (hop : Hop) (server : ServerId) (verdict : Verdict) → Run stage past
    → last_clock past ≤ clock
    → (may : IsArrival stage past clock k hop server verdict) → is_opening may.segment ≡ true
    → is_refusal verdict ≡ true
    → ((verdict ≡ Drop Full) × (opening_cause verdict may.label.version.0 (newest past) ≡ Some FullShard))
    ⊎ ((verdict ≡ Drop Retired) × (opening_cause verdict may.label.version.0 (newest past) ≡ Some OldTable))
opening_named stage sound past clock k Chained server verdict run later may opens ref =
    absurd (both_ways _ (opening_unsent stage past k may.segment run may.is_segment opens) may.sent)
opening_named stage sound past clock k Twice server verdict run later may opens ref =
    absurd (both_ways _ (opening_unsent stage past k may.segment run may.is_segment opens)
    (sent_before stage past run k Chained Twice (omega arith) may.sent))
opening_named stage sound past clock k Direct server verdict run later may opens ref =
    elim (opening_refused (local_at stage past server may.segment.flow) (timeout stage) clock
    (onward may.label.entry Direct) may.segment verdict may.verdict_is opens ref) [
      | inl gone ↦
          let old : may.label.version.0 < newest past =
          outdated stage sound past run clock k server later verdict may gone.0
          in let t : ltb may.label.version.0 (newest past) ≡ true = lt-ltb _ _ old
          in inr (gone.1, rw (gone.1, t) refl)
      | inr full ↦ inl (full, rw full refl)
    ]

opening_caused : (stage : Stage) → IsSound stage
    → (past : List Event) (clock k : ℕ) (hop : Hop) (server : ServerId) (verdict : Verdict) → Run stage past
    → last_clock past ≤ clock
    → (may : IsArrival stage past clock k hop server verdict) → is_opening may.segment ≡ true
    → is_refusal verdict ≡ true → is_some (opening_cause verdict may.label.version.0 (newest past)) ≡ true
opening_caused stage sound past clock k hop server verdict run later may opens ref =
    elim (opening_named stage sound past clock k hop server verdict run later may opens ref) [
      | inl full ↦ rw full.1 refl
      | inr gone ↦ rw gone.1 refl
    ]

process_no_break : (a : Accepted) (verdict : Verdict) → is_process verdict ≡ true
    → is_break verdict (Some a) a.server ≡ false
process_no_break a verdict p = grind (arith, nat_tests)

forward_no_break : (a : Accepted) (server : ServerId) (verdict : Verdict) (onto : Option Past)
    → IsSomeAnd onto (λ p. verdict ≡ Forward p.server) → is_break verdict (Some a) server ≡ false
forward_no_break a server verdict None goes = absurd goes
forward_no_break a server verdict (Some p) goes = rw goes refl

served_no_break : (a : Accepted) (entry : Entry) (hop : Hop) (server : ServerId) (verdict : Verdict)
    → IsServedBy a entry hop server verdict → is_break verdict (Some a) server ≡ false
served_no_break a entry hop server verdict (inl here) = rw here.1 (process_no_break a verdict here.0)
served_no_break a entry hop server verdict (inr goes) = forward_no_break a server verdict (onward entry hop) goes.1.0

some_or_none : (o : Option Cause) → (o ≡ None → ⊥) → is_some o ≡ true
some_or_none None no_way = absurd (no_way refl)
some_or_none (Some c) no_way = refl

plain_caused : (stage : Stage) → IsSound stage
    → (past : List Event) (clock k : ℕ) (hop : Hop) (server : ServerId) (verdict : Verdict) → Run stage past
    → last_clock past ≤ clock
    → (may : IsArrival stage past clock k hop server verdict) → is_opening may.segment ≡ false → (o : Option Accepted)
    → owner stage past k ≡ o → is_break verdict o server ≡ true
    → is_some (first_broken stage past clock may.label hop may.segment.flow server o) ≡ true
plain_caused stage sound past clock k hop server verdict run later may plain None own broke = refl
plain_caused stage sound past clock k hop server verdict run later may plain (Some a) own broke =
    some_or_none (first_broken stage past clock may.label hop may.segment.flow server (Some a)) (λ unbroken.
    both_ways _
    (served_no_break a may.label.entry hop server verdict
    (safe stage sound past run clock k server later a hop verdict may plain own unbroken)) broke)

cause_step : (stage : Stage) → IsSound stage → (past : List Event) (clock : ℕ) (what : What) → Run stage past
    → last_clock past ≤ clock → MayCome stage past clock what → IsBreak stage past what
    → is_some (cause stage past clock what) ≡ true
cause_step stage sound past clock (Arrive k hop server verdict) run later may broke =
    rw (may.is_segment, may.is_label) (elim (cases_Bool (is_opening may.segment)) [
      | inl opens ↦ rw opens
          (opening_caused stage sound past clock k hop server verdict run later may opens
          (rw (may.is_segment, opens) at broke))
      | inr plain ↦
          let broke' : is_break verdict (owner stage past k) server ≡ true = rw (may.is_segment, plain) at broke
          in rw (plain, broke')
          (plain_caused stage sound past clock k hop server verdict run later may plain (owner stage past k) refl
          broke')
    ])
cause_step stage sound past clock _ run later may broke = absurd broke

pub cause_law : (h : History) (place : ℕ) → IsRun h → At h place (λ stage past clock what. IsBreak stage past what)
    → At h place (λ stage past clock what. is_some (cause stage past clock what) ≡ true)
cause_law =
    law (λ stage past clock what. IsBreak stage past what)
    (λ stage past clock what. is_some (cause stage past clock what) ≡ true) cause_step

refused_step : (stage : Stage) → IsSound stage → (past : List Event) (clock : ℕ) (what : What) → Run stage past
    → last_clock past ≤ clock → MayCome stage past clock what → IsRefusedOpening stage past what
    → IsRefusalNamed stage past clock what
refused_step stage sound past clock (Arrive k hop server verdict) run later may refused =
    let opens : is_opening may.segment ≡ true = rw may.is_segment at refused.0
    in let named = opening_named stage sound past clock k hop server verdict run later may opens refused.1
    in rw (may.is_segment, may.is_label, opens) named
refused_step stage sound past clock _ run later may refused = absurd refused

pub refused_law : (h : History) (place : ℕ) → IsRun h
    → At h place (λ stage past clock what. IsRefusedOpening stage past what) → At h place IsRefusalNamed
refused_law = law (λ stage past clock what. IsRefusedOpening stage past what) IsRefusalNamed refused_step
