-- The connections that an RST ended, and which breaks count.
use Rattle.std.proofs.Common.{◌≡◌, ℕ, Bool, true, false, ◌&&◌, ◌||◌, not, List, ◌∷◌}
use Rattle.std.proofs.Common.{Option, Some, None, is_some, refl, sym, ap, ◌∙◌}
use Rattle.std.specs.Prelude.{if◌then◌else◌}
use Rattle.std.specs.Option.{option_map_or}
use Rattle.bm_base.specs.declared.flow.Flow.{Flow}
use Rattle.bm_base.specs.declared.flow.Segment.{Segment}
use Rattle.bm_base.specs.Segments.{ACK, FIN, RST, SYN, has_flag, is_opening, same_flow}
use Rattle.bm_core.specs.declared.events.Cause.{Cause}
use Rattle.bm_core.specs.declared.events.Event.{Event}
use Rattle.bm_core.specs.declared.events.Stage.{Stage}
use Rattle.bm_core.specs.declared.events.Verdict.{Verdict}
use Rattle.bm_core.specs.declared.events.Verdict.TheVariants.{Accept, Process, Forward, Reset, Drop}
use Rattle.bm_core.specs.declared.events.What.{What}
use Rattle.bm_core.specs.declared.events.What.TheVariants.{Publish, Switch, Steer, Lose, Arrive, Close, Retire, Sync}
use Rattle.bm_core.specs.Causes.{cause, is_process}
use Rattle.bm_core.specs.Past.{ends, segment_of}
use Rattle.bm_trace.specs.CauseOf.{is_break}
use Rattle.bm_connections.specs.declared.flow_set.Membership.{Membership}
use Rattle.bm_connections.specs.declared.resets.Resets.{Resets}
use Rattle.bm_connections.specs.Connections.{breaks_nothing, counted_cause, is_after_end, is_beginning, is_end, is_ended}
use Rattle.bm_connections.specs.Endings.{is_segment_with}
use Rattle.bm_connections.specs.Inside.FlowSets.{changed, is_in}
use Rattle.bm_connections.specs.Inside.Resets.{KnowsResets, follows_end, reset_by, reset_of}

-- WHAT AN EVENT CHANGES

and_third : (a b c : Bool) → (a && b && false && c) ≡ false
and_third true true c = refl
and_third true false c = refl
and_third false b c = refl

-- a segment with RST opens nothing
reset_stays : (s : Segment) → has_flag RST s ≡ true → is_opening s ≡ false
unfolding is_opening
reset_stays s rst = rw rst (and_third (has_flag SYN s) (not (has_flag ACK s)) (not (has_flag FIN s)))

by_flags : (same rst opening ends before : Bool) → (rst ≡ true → opening ≡ false)
    → ((same && rst) && ends || not (same && opening) && before)
    ≡ (if opening then (if same then false else before)
    else if rst && ends then (if same then true else before) else before)
by_flags true true true ends before h = absurd (let bad : true ≡ false = h refl in cc)
by_flags true true false true before h = refl
by_flags true true false false before h = refl
by_flags true false true ends before h = refl
by_flags true false false ends before h = refl
by_flags false true true ends before h = refl
by_flags false true false true before h = refl
by_flags false true false false before h = refl
by_flags false false true ends before h = refl
by_flags false false false ends before h = refl

choose : (opening resets : Bool) (begins end : Membership) (q : Flow) (before : Bool)
    → (if opening then changed (Some begins) q before else if resets then changed (Some end) q before else before)
    ≡ changed (if opening then Some begins else if resets then Some end else None) q before
choose true resets begins end q before = refl
choose false true begins end q before = refl
choose false false begins end q before = refl

-- a server that ends a connection processes the packet, so it is a break just if it is a stray
ends_own : (verdict : Verdict) (broke : Bool)
    → (ends verdict && not (is_process verdict && broke)) ≡ (ends verdict && not broke)
ends_own Accept broke = refl
ends_own (Process taken) broke = refl
ends_own (Forward to) broke = refl
ends_own (Reset why) broke = refl
ends_own (Drop why) broke = refl

by_segment : (segment : Option Segment) (verdict : Verdict) (broke : Bool) (q : Flow) (before : Bool)
    → (is_segment_with (has_flag RST) segment q && (ends verdict && not (is_process verdict && broke))
    || not (is_segment_with is_opening segment q) && before)
    ≡ changed (reset_by segment verdict broke) q before
by_segment None verdict broke q before = refl
by_segment (Some s) verdict broke q before =
    (λ i. (same_flow s.flow q && has_flag RST s) && ends_own verdict broke i
    || not (same_flow s.flow q && is_opening s) && before)
    ∙ by_flags (same_flow s.flow q) (has_flag RST s) (is_opening s) (ends verdict && not broke) before (reset_stays s)
    ∙ choose (is_opening s) (has_flag RST s && (ends verdict && not broke))
    (record { flow = s.flow; member = false }) (record { flow = s.flow; member = true }) q before

reset_changed : (stage : Stage) (past : List Event) (q : Flow) (what : What) (before : Bool)
    → (is_end stage q past what || not (is_beginning stage q what) && before)
    ≡ changed (reset_of stage what (is_break stage past what)) q before
reset_changed stage past q (Arrive k hop server verdict) before =
    by_segment (segment_of stage k) verdict (is_break stage past (Arrive k hop server verdict)) q before
reset_changed stage past q (Publish v) before = refl
reset_changed stage past q (Switch m v) before = refl
reset_changed stage past q (Steer k m) before = refl
reset_changed stage past q (Lose k hop) before = refl
reset_changed stage past q (Close server flow closed) before = refl
reset_changed stage past q (Retire server shard at result) before = refl
reset_changed stage past q Sync before = refl

pub resets_more : (stage : Stage) (past : List Event) (e : Event) (old new : Resets) (change : Option Membership)
    (broke : Bool)
    → change ≡ reset_of stage e.what broke → broke ≡ is_break stage past e.what
    → ((q : Flow) → is_in new.ended q ≡ changed change q (is_in old.ended q))
    → KnowsResets stage past old → KnowsResets stage (e ∷ past) new
resets_more stage past e old new change broke is by put k = record {
  each = λ q. put q ∙ (λ i. changed ((is ∙ ap (reset_of stage e.what) by) i) q (k.each q i))
      ∙ sym (reset_changed stage past q e.what (is_ended stage q past));
}

-- WHICH BREAKS COUNT

pub after_end_is : (stage : Stage) (past : List Event) (k : ℕ) (s : Segment) (resets : Resets) (result : Bool)
    → segment_of stage k ≡ Some s → result ≡ follows_end resets s → KnowsResets stage past resets
    → result ≡ option_map_or (λ t. not (is_opening t) && is_ended stage t.flow past) (segment_of stage k) false
after_end_is stage past k s resets result seg is known =
    is ∙ (λ i. not (is_opening s) && known.each s.flow i) ∙ rw seg refl

-- a cause counts unless its packet comes after its connection's own end
if_counted : (after broke late : Bool) (found : Option Cause) → is_some found ≡ broke → late ≡ (broke && after)
    → (if late then None else found) ≡ (if broke && not after then found else None)
if_counted true true late found is by = rw by refl
if_counted false true late found is by = rw by refl
if_counted after false late None is by = rw by refl
if_counted after false late (Some c) is by = absurd (cc)

pub counted_is : (stage : Stage) (past : List Event) (e : Event) (found result : Option Cause) (late : Bool)
    → found ≡ cause stage past e.clock.0 e.what → is_some found ≡ is_break stage past e.what
    → late ≡ breaks_nothing stage past e.what → result ≡ (if late then None else found)
    → result ≡ counted_cause stage past e
counted_is stage past e found result late by broke is same =
    same ∙ if_counted (is_after_end stage past e.what) (is_break stage past e.what) late found broke is
    ∙ (λ i. if is_break stage past e.what && not (is_after_end stage past e.what) then by i else None)
