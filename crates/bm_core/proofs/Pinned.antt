-- A connection whose premises hold throughout is served by the server that accepted it.
use Rattle.std.proofs.Common.{◌≡◌, ℕ, ◌+◌, ◌≤◌, Bool, true, false, cond, ◌&&◌, ◌||◌, ◌⊎◌, inl, inr, List, [], ◌∷◌}
use Rattle.std.proofs.Common.{Option, Some, None, is_some, length, refl, sym, ap, ◌∙◌, subst, arith, eqb}
use Rattle.std.specs.Prelude.{◌≢◌, ◌<◌, IfSome}
use Rattle.std.proofs.lemmas.Bool.{cases_Bool, and_parts, or_from, both_ways, eqb-true}
use Rattle.std.proofs.lemmas.Option.{same_Some}
use Rattle.bm_base.specs.declared.ids.ServerId.{ServerId}
use Rattle.bm_base.specs.declared.flow.Flow.{Flow}
use Rattle.bm_base.specs.declared.flow.Segment.{Segment}
use Rattle.bm_base.specs.declared.label.Label.{Label}
use Rattle.bm_base.specs.declared.label.Hop.{Hop}
use Rattle.bm_base.specs.declared.label.Hop.TheVariants.{Direct, Chained, Twice}
use Rattle.bm_base.specs.declared.label.Past.{Past}
use Rattle.bm_base.specs.Labels.{hop_number}
use Rattle.bm_base.proofs.Hops.{has_past}
use Rattle.bm_core.specs.declared.events.Verdict.{Verdict}
use Rattle.bm_core.specs.declared.events.Verdict.TheVariants.{Forward}
use Rattle.bm_core.specs.declared.events.What.{What}
use Rattle.bm_core.specs.declared.events.What.TheVariants.{Publish, Switch, Steer, Lose, Arrive, Close, Retire, Sync}
use Rattle.bm_core.specs.declared.events.Local.{Local}
use Rattle.bm_core.specs.declared.events.Event.{Event}
use Rattle.bm_core.specs.declared.events.Stage.{Stage}
use Rattle.bm_table.specs.Tables.{same_server, table}
use Rattle.bm_base.specs.Segments.{same_flow, RST}
use Rattle.bm_core.specs.Past.{segment_of, is_of, bucket, shard, timeout, label_after, label_of, is_forward, sends}
use Rattle.bm_core.specs.Past.{is_sent, Holding, after_arrival, is_done, retired, held_after, held, is_accept, Accepted}
use Rattle.bm_base.specs.Labels.{arrives_at, hop_after}
use Rattle.bm_core.specs.Verdicts.{onward, local_at, verdict_of, verdict_at}
use Rattle.bm_core.specs.Stages.{IsSound}
use Rattle.bm_core.specs.Runs.{last_clock, IsArrival, MayCome, Run}
use Rattle.bm_table.proofs.Tables.{same_server-true, eq-same_server}
use Rattle.bm_table.specs.Tables.{moves}
use Rattle.bm_base.specs.Segments.{is_opening}
use Rattle.bm_core.specs.Verdicts.{receiver_of}
use Rattle.bm_core.specs.Causes.{is_process}
use Rattle.bm_core.proofs.Pasts.{sent_steered, held_not_forwarded, arrival_sends, hop_before, steer_sends}
use Rattle.bm_seq.specs.declared.receiver.Receiver.{Receiver}
use Rattle.bm_base.specs.declared.receive.Taken.TheVariants.{Ended}
use Rattle.bm_base.specs.Segments.{has_flag}
use Rattle.bm_seq.specs.Receivers.{taken}
use Rattle.bm_core.specs.Past.{is_of, is_accept, ends, retires, accept_of, accept_after, after_verdict}
use Rattle.bm_core.specs.Verdicts.{verdict_of}
use Rattle.bm_core.proofs.Pasts.{accept_is, is_of_flow, same_flow-true, same_flow_refl}
use Rattle.bm_table.specs.Tables.{moves, table}
use Rattle.bm_core.specs.Past.{bucket, timeout, shard, is_forward}
use Rattle.bm_core.specs.Pins.{Each, IsPinnedArrival, IsPinnedEvent, IsPinned, IsKeptTo, IsKeptArrival}
use Rattle.bm_core.proofs.Pasts.{none_stays, none_unless}
use Rattle.bm_core.proofs.Owned.{false_from_not, data_held, home_is, is_before, goes_on, not_same}

-- ELSEWHERE

pinned_arrival : (stage : Stage) (f : Flow) (packet : ℕ) (a : Accepted) (past : List Event) (clock k : ℕ) (hop : Hop)
    (server : ServerId) (verdict : Verdict) (s : Segment)
    → segment_of stage k ≡ Some s → s.flow ≡ f → IsPinnedEvent stage f packet a past clock (Arrive k hop server verdict)
    → IsPinnedArrival stage f packet a past clock k server verdict
pinned_arrival stage f packet a past clock k hop server verdict s is flow pin =
    let p : s.flow ≡ f → IsPinnedArrival stage f packet a past clock k server verdict = rw is at pin in p flow

away_step : (stage : Stage) (f : Flow) (packet : ℕ) (a : Accepted) (past : List Event) (clock : ℕ) (what : What)
    (s : ServerId) → same_server s a.server ≡ false
    → IsPinnedEvent stage f packet a past clock what → held stage past s f ≡ None
    → held_after stage (length past) what s f (held stage past s f) ≡ None
away_step stage f packet a past clock (Arrive k hop server verdict) s other pin old =
    none_stays (length past) (same_server server s) verdict (segment_of stage k) f (held stage past s f) old
    (λ t is here flow. false_from_not _ (λ acc.
    let one = (pinned_arrival stage f packet a past clock k hop server verdict t is flow pin).one acc
    in let at : s ≡ a.server = sym (same_server-true server s here) ∙ one.0
    in both_ways _ other (eq-same_server s a.server at)))
away_step stage f packet a past clock (Close server flow closed) s other pin old =
    none_unless (same_server server s && same_flow flow f && closed) (held stage past s f) (λ off. old)
away_step stage f packet a past clock (Retire server h at result) s other pin old =
    none_unless (same_server server s && eqb h (shard stage f) && is_done result) (held stage past s f) (λ off. old)
away_step stage f packet a past clock (Steer k m) s other pin old = old
away_step stage f packet a past clock (Publish v) s other pin old = old
away_step stage f packet a past clock (Switch m v) s other pin old = old
away_step stage f packet a past clock (Lose k hop) s other pin old = old
away_step stage f packet a past clock Sync s other pin old = old

-- no other server holds the flow
away_none : (stage : Stage) (f : Flow) (packet : ℕ) (a : Accepted) (past : List Event) (s : ServerId)
    → same_server s a.server ≡ false → Each (IsPinnedEvent stage f packet a) past → held stage past s f ≡ None
away_none stage f packet a [] s other pins = refl
away_none stage f packet a (e ∷ past) s other pins =
    away_step stage f packet a past e.clock.0 e.what s other pins.0 (away_none stage f packet a past s other pins.1)

-- AT THE SERVER

ended_is_rst : (r : Receiver) (s : Segment) → taken r s ≡ Ended → has_flag RST s ≡ true
unfolding taken
ended_is_rst r s e = grind arith

process_ended : (local : Local) (timeout clock : ℕ) (hop : Hop) (onto : Option Past) (s : Segment) (verdict : Verdict)
    → verdict ≡ verdict_of local timeout clock hop onto s → ends verdict ≡ true → has_flag RST s ≡ true
process_ended local timeout clock hop onto s verdict is e = grind (arith, ended_is_rst)

accepted_some : (place : ℕ) (verdict : Verdict) (s : Segment) (before : Option Holding) → is_accept verdict ≡ true
    → is_some (after_verdict place verdict s before) ≡ true
accepted_some place verdict s before e = grind arith

kept_some : (place : ℕ) (verdict : Verdict) (s : Segment) (before : Option Holding) → is_some before ≡ true
    → ends verdict ≡ false → is_some (after_verdict place verdict s before) ≡ true
kept_some place verdict s before e stays = grind arith

still_some : (place : ℕ) (here : Bool) (verdict : Verdict) (o : Option Segment) (f : Flow) (before : Option Holding)
    → is_some before ≡ true → ((s : Segment) → o ≡ Some s → s.flow ≡ f → ends verdict ≡ false)
    → is_some (after_arrival place here verdict o f before) ≡ true
still_some place here verdict None f before e stays = e
still_some place here verdict (Some s) f before e stays =
    elim (cases_Bool (here && same_flow s.flow f)) [
      | inl this ↦ rw this
          (kept_some place verdict s before e (stays s refl (same_flow-true s.flow f (and_parts here _ this).1)))
      | inr other ↦ rw other e
    ]

-- the flow has no RST
abbrev pub HasNoRst : Stage → Flow → Type 0
HasNoRst stage f = (k : ℕ) (s : Segment) → segment_of stage k ≡ Some s → s.flow ≡ f → has_flag RST s ≡ false

some_unless' : (t : Bool) (before : Option Holding) → t ≡ false → is_some before ≡ true
    → is_some (cond t None before) ≡ true
some_unless' true before off e = absurd (cc)
some_unless' false before off e = e

home_step : (stage : Stage) (f : Flow) (packet : ℕ) (a x : Accepted) (past : List Event) (clock : ℕ) (what : What)
    → HasNoRst stage f → MayCome stage past clock what → IsPinnedEvent stage f packet a past clock what
    → (accept_of stage past f ≡ Some x → is_some (held stage past a.server f) ≡ true)
    → accept_after stage past what f (accept_of stage past f) ≡ Some x
    → is_some (held_after stage (length past) what a.server f (held stage past a.server f)) ≡ true
home_step stage f packet a x past clock (Arrive k hop server verdict) quiet may pin old e =
    elim (cases_Bool (is_accept verdict && is_of (segment_of stage k) f)) [
      | inl now ↦
          let parts = and_parts (is_accept verdict) _ now
          in let flow : may.segment.flow ≡ f = is_of_flow (segment_of stage k) may.segment f may.is_segment parts.1
          in let one =
          (pinned_arrival stage f packet a past clock k hop server verdict may.segment may.is_segment flow pin).one
          parts.0
          in let here : same_server server a.server ≡ true = eq-same_server server a.server one.0
          in let same : same_flow may.segment.flow f ≡ true = rw flow (same_flow_refl f)
          in rw (may.is_segment, here, same)
          (accepted_some (length past) verdict may.segment (held stage past a.server f) parts.0)
      | inr before ↦
          still_some (length past) (same_server server a.server) verdict (segment_of stage k) f
          (held stage past a.server f) (old (rw before at e))
          (λ t is flow. false_from_not _ (λ ended.
          let same : t ≡ may.segment = same_Some _ _ (sym is ∙ may.is_segment)
          in let flow' : may.segment.flow ≡ f = sym (ap (λ (y : Segment). y.flow) same) ∙ flow
          in both_ways _ (quiet k may.segment may.is_segment flow')
          (process_ended (local_at stage past server may.segment.flow) (timeout stage) clock hop
          (onward may.label.entry hop) may.segment verdict may.verdict_is ended)))
    ]
home_step stage f packet a x past clock (Close server flow closed) quiet may pin old e =
    some_unless' (same_server server a.server && same_flow flow f && closed) (held stage past a.server f)
    (false_from_not _ (λ t.
    let parts = and_parts (same_server server a.server && same_flow flow f) closed t
    in let both = and_parts (same_server server a.server) (same_flow flow f) parts.0
    in pin parts.1 (same_server-true server a.server both.0) (same_flow-true flow f both.1))) (old e)
home_step stage f packet a x past clock (Retire server h at result) quiet may pin old e =
    some_unless' (same_server server a.server && eqb h (shard stage f) && is_done result) (held stage past a.server f)
    (false_from_not _ (λ t.
    let parts = and_parts (same_server server a.server && eqb h (shard stage f)) (is_done result) t
    in let both = and_parts (same_server server a.server) (eqb h (shard stage f)) parts.0
    in pin parts.1 (same_server-true server a.server both.0) (eqb-true h (shard stage f) both.1))) (old e)
home_step stage f packet a x past clock (Steer k m) quiet may pin old e = old e
home_step stage f packet a x past clock (Publish v) quiet may pin old e = old e
home_step stage f packet a x past clock (Switch m v) quiet may pin old e = old e
home_step stage f packet a x past clock (Lose k hop) quiet may pin old e = old e
home_step stage f packet a x past clock Sync quiet may pin old e = old e

-- from the Accept on, the server holds the flow
home_some : (stage : Stage) (f : Flow) (packet : ℕ) (a x : Accepted) (past : List Event) → HasNoRst stage f
    → Run stage past → Each (IsPinnedEvent stage f packet a) past → accept_of stage past f ≡ Some x
    → is_some (held stage past a.server f) ≡ true
home_some stage f packet a x [] quiet run pins e = absurd (cc)
home_some stage f packet a x (y ∷ past) quiet run pins e =
    home_step stage f packet a x past y.clock.0 y.what quiet run.0.may pins.0
    (home_some stage f packet a x past quiet run.1 pins.1) e

open_step : (stage : Stage) (f : Flow) (packet : ℕ) (a : Accepted) (past : List Event) (clock : ℕ) (what : What)
    → IsPinnedEvent stage f packet a past clock what
    → retired past a.server (shard stage f) ≡ false
    → (retires what a.server (shard stage f) || retired past a.server (shard stage f)) ≡ false
open_step stage f packet a past clock (Retire server h at result) pin old =
    or_from _ _ (false_from_not _ (λ t.
    let parts = and_parts (same_server server a.server && eqb h (shard stage f)) (is_done result) t
    in let both = and_parts (same_server server a.server) (eqb h (shard stage f)) parts.0
    in pin parts.1 (same_server-true server a.server both.0) (eqb-true h (shard stage f) both.1))) old
open_step stage f packet a past clock (Arrive k hop server verdict) pin old = old
open_step stage f packet a past clock (Close server flow closed) pin old = old
open_step stage f packet a past clock (Steer k m) pin old = old
open_step stage f packet a past clock (Publish v) pin old = old
open_step stage f packet a past clock (Switch m v) pin old = old
open_step stage f packet a past clock (Lose k hop) pin old = old
open_step stage f packet a past clock Sync pin old = old

-- its shard is not retired
home_open : (stage : Stage) (f : Flow) (packet : ℕ) (a : Accepted) (past : List Event)
    → Each (IsPinnedEvent stage f packet a) past → retired past a.server (shard stage f) ≡ false
home_open stage f packet a [] pins = refl
home_open stage f packet a (e ∷ past) pins =
    open_step stage f packet a past e.clock.0 e.what pins.0 (home_open stage f packet a past pins.1)

-- THE OTHER PACKETS

some_receiver : (o : Option Holding) → is_some o ≡ true → is_some (receiver_of o) ≡ true
some_receiver None e = absurd (cc)
some_receiver (Some h) e = refl

not_forwarded_home : (stage : Stage) (f : Flow) (packet : ℕ) (a : Accepted) (past : List Event) (clock k j : ℕ)
    (hop home next : Hop) (server : ServerId) (verdict : Verdict) (s : Segment) (l : Label)
    → HasNoRst stage f → Run stage past → Each (IsPinnedEvent stage f packet a) past
    → IsPinnedEvent stage f packet a past clock (Arrive j hop server verdict)
    → IsArrival stage past clock j hop server verdict
    → segment_of stage k ≡ Some s → s.flow ≡ f → k ≢ packet → label_of stage past k ≡ Some l → arrives_at l.entry home ≡ Some a.server → hop_after home ≡ Some next
    → sends (Arrive j hop server verdict) k next ≡ true → ⊥
not_forwarded_home stage f packet a past clock k j hop home next server verdict s l quiet run pins pin may is flow other
    lab cur onto e =
    let parts = arrival_sends j k hop next server verdict e
    in let eq : j ≡ k = parts.0
    in let same : hop ≡ home = hop_before home hop next onto parts.2
    in let seg : may.segment ≡ s = same_Some _ _ (sym may.is_segment ∙ ap (λ (n : ℕ). segment_of stage n) eq ∙ is)
    in let flow' : may.segment.flow ≡ f = ap (λ (y : Segment). y.flow) seg ∙ flow
    in let label : may.label ≡ l = same_Some _ _ (sym may.is_label ∙ ap (λ (n : ℕ). label_of stage past n) eq ∙ lab)
    in let at : server ≡ a.server =
    same_Some _ _
    (sym may.place
    ∙ (ap (λ (x : Hop). arrives_at may.label.entry x) same
    ∙ (ap (λ (x : Label). arrives_at x.entry home) label ∙ cur)))
    in let after : accept_of stage past f ≡ Some a =
    (pinned_arrival stage f packet a past clock j hop server verdict may.segment may.is_segment flow' pin).after
    (subst (λ (n : ℕ). n ≢ packet) (sym eq) other) at
    in let holds : is_some (held stage past a.server f) ≡ true = home_some stage f packet a a past quiet run pins after
    in let holds' : is_some (receiver_of (held stage past server may.segment.flow)) ≡ true =
    rw (at, flow') (some_receiver (held stage past a.server f) holds)
    in let stays : is_forward (verdict_at stage past clock may.label hop server may.segment) ≡ false =
    held_not_forwarded (local_at stage past server may.segment.flow) (timeout stage) clock hop
    (onward may.label.entry hop) may.segment holds'
    in let goes : is_forward (verdict_at stage past clock may.label hop server may.segment) ≡ true =
    rw may.verdict_is at parts.1
    in cc

unsent_home_step : (stage : Stage) (f : Flow) (packet : ℕ) (a : Accepted) (past : List Event) (clock k : ℕ)
    (home next : Hop) (s : Segment) (l : Label) (what : What)
    → HasNoRst stage f → Run stage past → Each (IsPinnedEvent stage f packet a) past
    → IsPinnedEvent stage f packet a past clock what → MayCome stage past clock what
    → segment_of stage k ≡ Some s → s.flow ≡ f → k ≢ packet
    → label_after stage past what k (label_of stage past k) ≡ Some l → arrives_at l.entry home ≡ Some a.server → hop_after home ≡ Some next
    → (label_of stage past k ≡ Some l → is_sent past k next ≡ false)
    → (sends what k next || is_sent past k next) ≡ false
unsent_home_step stage f packet a past clock k home next s l (Steer j m) quiet run pins pin may is flow other lab cur onto old =
    or_from _ _ (steer_sends j k m home next onto) (elim (cases_Bool (eqb j k)) [
      | inl same ↦
          let eq : j ≡ k = eqb-true j k same
          in let un : is_sent past k Direct ≡ false = subst (λ (n : ℕ). is_sent past n Direct ≡ false) eq may.1
          in false_from_not (is_sent past k next)
          (λ sent. both_ways _ un (sent_steered stage past run k next sent))
      | inr differs ↦ old (rw differs at lab)
    ])
unsent_home_step stage f packet a past clock k home next s l (Arrive j hop server verdict) quiet run pins pin may is flow other
    lab cur onto old =
    or_from _ _
    (false_from_not (sends (Arrive j hop server verdict) k next)
    (not_forwarded_home stage f packet a past clock k j hop home next server verdict s l quiet run pins pin may is flow other
    lab cur onto)) (old lab)
unsent_home_step stage f packet a past clock k home next s l (Publish v) quiet run pins pin may is flow other lab cur onto old =
    old lab
unsent_home_step stage f packet a past clock k home next s l (Switch m v) quiet run pins pin may is flow other lab cur onto old =
    old lab
unsent_home_step stage f packet a past clock k home next s l (Lose j hop) quiet run pins pin may is flow other lab cur onto old =
    old lab
unsent_home_step stage f packet a past clock k home next s l (Close server flow' closed) quiet run pins pin may is flow other lab
    cur onto old = old lab
unsent_home_step stage f packet a past clock k home next s l (Retire server h at result) quiet run pins pin may is flow other lab
    cur onto old = old lab
unsent_home_step stage f packet a past clock k home next s l Sync quiet run pins pin may is flow other lab cur onto old = old lab

-- a packet is not sent on from the server that accepted it
unsent_home : (stage : Stage) (f : Flow) (packet : ℕ) (a : Accepted) (past : List Event) (k : ℕ) (home next : Hop)
    (s : Segment) (l : Label) → HasNoRst stage f → Run stage past → Each (IsPinnedEvent stage f packet a) past
    → segment_of stage k ≡ Some s → s.flow ≡ f → k ≢ packet → label_of stage past k ≡ Some l → arrives_at l.entry home ≡ Some a.server → hop_after home ≡ Some next
    → is_sent past k next ≡ false
unsent_home stage f packet a [] k home next s l quiet run pins is flow other lab cur onto = refl
unsent_home stage f packet a (e ∷ past) k home next s l quiet run pins is flow other lab cur onto =
    unsent_home_step stage f packet a past e.clock.0 k home next s l e.what quiet run.1 pins.1 pins.0 run.0.may is flow other lab
    cur onto
    (λ before. unsent_home stage f packet a past k home next s l quiet run.1 pins.1 is flow other before cur onto)

module _ (stage : Stage) (sound : IsSound stage) (packet : ℕ) (f : Flow) (a : Accepted) (quiet : HasNoRst stage f)
    (only : (k : ℕ) (s : Segment) → segment_of stage k ≡ Some s → s.flow ≡ f → is_opening s ≡ true → k ≡ packet)
    (home : (table stage.script.plan a.version (bucket stage f)).cur ≡ a.server) where
  kept_arrival : (past : List Event) (clock k : ℕ) (hop : Hop) (server : ServerId) (verdict : Verdict) → Run stage past
      → last_clock past ≤ clock → Each (IsPinnedEvent stage f packet a) past
      → (may : IsArrival stage past clock k hop server verdict)
      → IsPinnedArrival stage f packet a past clock k server verdict → may.segment.flow ≡ f → k ≢ packet
      → ((is_process verdict ≡ true) × (server ≡ a.server)) ⊎ ((hop ≡ Direct) × (verdict ≡ Forward a.server))
  kept_arrival past clock k hop server verdict run later pins may pin flow other =
      let plain : is_opening may.segment ≡ false =
      false_from_not _ (λ o. other (only k may.segment may.is_segment flow o))
      in let version : (a.version ≤ may.label.version.0)
      × (moves stage.script.plan (bucket stage f) a.version may.label.version.0 ≤ 1) =
      rw may.is_label at (pin.version other)
      in let home' : (table stage.script.plan a.version (bucket stage may.segment.flow)).cur ≡ a.server = rw flow home
      in let once : moves stage.script.plan (bucket stage may.segment.flow) a.version may.label.version.0 ≤ 1 =
      rw flow version.1
      in elim (cases_Bool (same_server server a.server)) [
        | inl same ↦
            let at : server ≡ a.server = same_server-true server a.server same
            in let holds : is_some (held stage past a.server f) ≡ true =
            home_some stage f packet a a past quiet run pins (pin.after other at)
            in let holds' : is_some (receiver_of (held stage past server may.segment.flow)) ≡ true =
            rw (at, flow) (some_receiver (held stage past a.server f) holds)
            in let stays : retired past server (shard stage may.segment.flow) ≡ false =
            rw (at, flow) (home_open stage f packet a past pins)
            in inl (
              rw may.verdict_is
                  (data_held (local_at stage past server may.segment.flow) (timeout stage) clock hop
                  (onward may.label.entry hop) may.segment stays holds' plain),
              at,
            )
        | inr away ↦
            let none : held stage past server may.segment.flow ≡ None =
            rw flow (away_none stage f packet a past server away pins)
            in let in_time : IfSome may.label.entry.prev (λ p. clock ≤ p.stamp.0 + timeout stage) =
            rw may.is_label at (pin.in_time other (λ at. both_ways _ away (eq-same_server server a.server at)))
            in let home_at =
            home_is stage sound past run clock k server later a hop verdict may home' version.0 (omega arith)
            in let less =
            is_before stage sound past run clock k server later a hop home_at.0 verdict may home_at.2
            (not_same stage sound past run clock k server later a away)
            (λ next after. unsent_home stage f packet a past k home_at.0 next may.segment may.label quiet run pins
            may.is_segment flow other may.is_label home_at.2 after)
            in let first : hop_number home_at.0 ≤ 1 = let n = home_at.1 in omega arith
            in inr (sent_home hop home_at.0 verdict may plain none in_time less first home_at.2)
      ] where
        sent_home : (hop home : Hop) (verdict : Verdict) (may : IsArrival stage past clock k hop server verdict)
            → is_opening may.segment ≡ false → held stage past server may.segment.flow ≡ None
            → IfSome may.label.entry.prev (λ p. clock ≤ p.stamp.0 + timeout stage)
            → hop_number hop < hop_number home → hop_number home ≤ 1
            → arrives_at may.label.entry home ≡ Some a.server → (hop ≡ Direct) × (verdict ≡ Forward a.server)
        sent_home Direct Chained verdict may plain none in_time less first at =
            let p = has_past may.label.entry.prev a.server at
            in let soon : clock ≤ p.0.stamp.0 + timeout stage = rw p.1 at in_time
            in let goes =
            goes_on stage sound past run clock k server later Direct verdict may plain none
            (λ q onto. let same : p.0 ≡ q = same_Some _ _ (sym p.1 ∙ onto)
            in subst (λ (x : Past). clock ≤ x.stamp.0 + timeout stage) same soon) p.0 p.1
            in (refl, goes ∙ ap (λ (x : ServerId). Forward x) p.2)
        sent_home Direct Direct verdict may plain none in_time less first at = absurd (omega arith)
        sent_home Direct Twice verdict may plain none in_time less first at = absurd (omega arith)
        sent_home Chained home verdict may plain none in_time less first at = absurd (omega arith)
        sent_home Twice home verdict may plain none in_time less first at = absurd (omega arith)

  kept_step : (past : List Event) (clock : ℕ) (what : What) → Run stage past → last_clock past ≤ clock
      → Each (IsPinnedEvent stage f packet a) past → MayCome stage past clock what
      → IsPinnedEvent stage f packet a past clock what
      → IsKeptArrival stage f packet a past clock what
  kept_step past clock (Arrive k hop server verdict) run later pins may pin =
      rw may.is_segment
      (λ flow other. kept_arrival past clock k hop server verdict run later pins may
      (pinned_arrival stage f packet a past clock k hop server verdict may.segment may.is_segment flow pin) flow
      other)
  kept_step past clock (Steer k m) run later pins may pin = tt
  kept_step past clock (Publish v) run later pins may pin = tt
  kept_step past clock (Switch m v) run later pins may pin = tt
  kept_step past clock (Lose k hop) run later pins may pin = tt
  kept_step past clock (Close server flow closed) run later pins may pin = tt
  kept_step past clock (Retire server h at result) run later pins may pin = tt
  kept_step past clock Sync run later pins may pin = tt

  kept_each : (past : List Event) → Run stage past → Each (IsPinnedEvent stage f packet a) past
      → Each (IsKeptArrival stage f packet a) past
  kept_each [] run pins = tt
  kept_each (e ∷ past) run pins =
      (kept_step past e.clock.0 e.what run.1 run.0.clock pins.1 run.0.may pins.0, kept_each past run.1 pins.1)

-- each arrival of the flow's other packets is at the server that accepted it, or is forwarded there
pub kept : (stage : Stage) → IsSound stage → (all : List Event) → Run stage all
    → (packet : ℕ) (pin : IsPinned stage all packet) → IsKeptTo stage all packet pin
kept stage sound all run packet pin =
    let acc = accept_is stage all run pin.segment.flow pin.accept pin.is_accept_of
    in record {
      each =
          kept_each stage sound packet pin.segment.flow pin.accept pin.no_rst pin.only acc.server all run pin.each;
    }
