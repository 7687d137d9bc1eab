-- The lines of a history's report are those of its events, and then closing lines.
use mathlib.Core.List.{reverse_aux}
use Rattle.std.proofs.Common.{◌≡◌, ℕ, suc, ◌<◌, ◌^◌, ◌==◌, true, not, inl, inr, List}
use Rattle.std.proofs.Common.{[], ◌∷◌, ◌++◌, Option, None, Some, refl, ap, sym, ◌∙◌, arith, append_assoc, subst, codes}
use Rattle.std.specs.Prelude.{decimal, reverse}
use Rattle.std.proofs.Math.Nat.{mod-lt}
use Rattle.std.proofs.lemmas.Bool.{and_parts, cases_Bool}
use Rattle.std.proofs.lemmas.Bool.Decides.{nat_tests}
use Rattle.bm_base.specs.declared.capture.Body.{Body}
use Rattle.bm_base.specs.declared.capture.Body.TheVariants.{Steerable, Unsteered}
use Rattle.bm_base.specs.declared.capture.Reason.{Reason}
use Rattle.bm_base.specs.declared.capture.Reason.TheVariants.{ShortLink, NotIpv4, ShortIp, NotVersion4, BadHeaderLength}
use Rattle.bm_base.specs.declared.capture.Reason.TheVariants.{BadTotalLength, Fragment, NotTcp, ShortTcp, BadOffset}
use Rattle.bm_base.specs.declared.capture.Reason.TheVariants.{OtherDestination, TooLong, Later}
use Rattle.bm_base.specs.declared.capture.Record.{Record}
use Rattle.bm_base.specs.declared.flow.Segment.{Segment}
use Rattle.bm_base.specs.declared.label.Hop.{Hop}
use Rattle.bm_base.specs.declared.label.Past.{Past}
use Rattle.bm_base.specs.declared.ids.MuxId.{MuxId}
use Rattle.bm_base.specs.declared.ids.ServerId.{ServerId}
use Rattle.bm_base.specs.declared.ids.Version.{Version}
use Rattle.bm_core.specs.Past.{bucket, segment_of, switched, timeout, version_at}
use Rattle.bm_core.specs.Runs.{IsRun, IsStep, MayCome, Run}
use Rattle.bm_core.specs.Verdicts.{local_at, onward, verdict_of}
use Rattle.bm_core.specs.declared.events.Local.{Local}
use Rattle.bm_core.specs.Stages.{IsSound}
use Rattle.bm_core.specs.declared.events.Event.{Event}
use Rattle.bm_core.specs.declared.events.History.{History}
use Rattle.bm_core.specs.declared.events.Stage.{Stage}
use Rattle.bm_core.specs.declared.events.Verdict.{Verdict}
use Rattle.bm_core.specs.declared.events.Verdict.TheVariants.{Accept, Process, Forward, Reset, Drop}
use Rattle.bm_core.specs.declared.events.What.{What}
use Rattle.bm_core.specs.declared.events.What.TheVariants.{Publish, Switch, Steer, Lose, Arrive, Close, Retire, Sync}
use Rattle.bm_trace.proofs.Decoding.{event_are, words_append}
use Rattle.bm_trace.proofs.OneHistory.{lines_from, whole}
use Rattle.bm_trace.proofs.Reading.{AreWords, both_true, is_word_decimal, runs_on_append}
use Rattle.bm_trace.specs.Inside.Reading.{ends_word, is_word, runs_on}
use Rattle.bm_trace.specs.Report.{aside, bucket_of_packet, end_words, ends_of, event_line, event_words, note_line}
use Rattle.bm_trace.specs.Report.{record_lines, record_words, text, totals_line, verdict_end}
use Rattle.bm_trace.specs.Totals.{totals_of}
use Rattle.bm_trace.specs.Types.{AreEvents, IsWhat}
use Rattle.bm_trace.specs.Words.{counted, line, reason_word, spaced}
use Rattle.bm_trace.specs.declared.sums.Totals.{Totals}
use Rattle.bm_check.proofs.Lining.{line_first}
use Rattle.bm_check.specs.Inside.Taking.{is_feed}
use Rattle.bm_check.specs.Lines.{AreLinesOf, IsClosing, IsLineOf, has_line, has_own_reason, lines}

-- A LINE OF WORDS IS ONE LINE

not_feed : (c : ℕ) → not (ends_word c) ≡ true → not (is_feed c) ≡ true
not_feed c goes_on = grind (arith, nat_tests)

no_feed : (w : List ℕ) → is_word w ≡ true → runs_on is_feed w ≡ true
no_feed [] is = refl
no_feed (c ∷ w) is =
    let p = and_parts (not (ends_word c)) (is_word w) is in both_true (not_feed c p.0) (no_feed w p.1)

none_feed : (ws : List (List ℕ)) → AreWords ws → runs_on is_feed (spaced ws) ≡ true
none_feed [] are = refl
none_feed (w ∷ ws) are = runs_on_append is_feed w (spaced ws) (no_feed w are.0) (none_feed ws are.1)

line_alone : (w : List ℕ) (ws : List (List ℕ)) (rest : List ℕ) → is_word w ≡ true → AreWords ws
    → lines (line w ws ++ rest) ≡ line w ws ∷ lines rest
line_alone w ws rest is are =
    ap lines (append_assoc (w ++ spaced ws) (10 ∷ []) rest)
    ∙ line_first (w ++ spaced ws) rest (runs_on_append is_feed w (spaced ws) (no_feed w is) (none_feed ws are))

closing_more : (w : List ℕ) (ws : List (List ℕ)) (rest : List ℕ) → is_word w ≡ true → AreWords ws
    → IsClosing (line w ws) → AreLinesOf [] (lines rest) → AreLinesOf [] (lines (line w ws ++ rest))
closing_more w ws rest is are closes good =
    subst (λ (ls : List (List ℕ)). AreLinesOf [] ls) (sym (line_alone w ws rest is are)) (closes, good)

-- THE LINES AFTER THE EVENTS

reason_are : (reason : Reason) → is_word (reason_word reason) ≡ true
reason_are ShortLink = refl
reason_are NotIpv4 = refl
reason_are ShortIp = refl
reason_are NotVersion4 = refl
reason_are BadHeaderLength = refl
reason_are BadTotalLength = refl
reason_are Fragment = refl
reason_are NotTcp = refl
reason_are ShortTcp = refl
reason_are BadOffset = refl
reason_are OtherDestination = refl
reason_are TooLong = refl
reason_are Later = refl

verdict_end_are : (server : ServerId) (v : Verdict) → AreWords (verdict_end server v)
verdict_end_are server Accept = (refl, (is_word_decimal server.0, tt))
verdict_end_are server (Process taken) = (refl, (is_word_decimal server.0, tt))
verdict_end_are server (Forward to) = tt
verdict_end_are server (Reset why) = (refl, (is_word_decimal server.0, tt))
verdict_end_are server (Drop why) = (refl, (is_word_decimal server.0, tt))

end_are : (what : What) (k : ℕ) → AreWords (end_words what k)
end_are (Arrive packet hop server verdict) k = elim (cases_Bool (packet == k)) [
  | inl same ↦ rw same (verdict_end_are server verdict)
  | inr other ↦ rw other tt
]
end_are (Lose packet hop) k = elim (cases_Bool (packet == k)) [
  | inl same ↦ rw same (refl, tt)
  | inr other ↦ rw other tt
]
end_are (Publish v) k = tt
end_are (Switch m v) k = tt
end_are (Steer packet m) k = tt
end_are (Close server flow closed) k = tt
end_are (Retire server h at result) k = tt
end_are Sync k = tt

ends_are : (past : List Event) (k : ℕ) → AreWords (ends_of past k)
ends_are [] k = tt
ends_are (e ∷ past) k = words_append (ends_of past k) (end_words e.what k) (ends_are past k) (end_are e.what k)

record_are : (past : List Event) (k : ℕ) (body : Body) → AreWords (record_words past k body)
record_are past k (Unsteered reason) = (refl, (reason_are reason, tt))
record_are past k (Steerable s) = ends_are past k

records_close : (past : List Event) (k : ℕ) (records : List Record) (rest : List ℕ) → AreLinesOf [] (lines rest)
    → AreLinesOf [] (lines (record_lines past k records ++ rest))
records_close past k [] rest good = good
records_close past k (r ∷ records) rest good =
    let words = record_words past k r.body
    in subst (λ (x : List ℕ). AreLinesOf [] (lines x))
    (sym (append_assoc (line (codes "packet") (decimal k ∷ words)) (record_lines past (suc k) records) rest))
    (closing_more (codes "packet") (decimal k ∷ words) (record_lines past (suc k) records ++ rest) refl
    (is_word_decimal k, record_are past k r.body) (inl (decimal k ++ spaced words, refl))
    (records_close past (suc k) records rest good))

note_closes : (cut : Option ℕ) (rest : List ℕ) → AreLinesOf [] (lines rest) → AreLinesOf [] (lines (note_line cut ++ rest))
note_closes None rest good = good
note_closes (Some k) rest good =
    closing_more (codes "note") (codes "record" ∷ decimal k ∷ codes "cut" ∷ codes "short" ∷ []) rest refl
    (refl, (is_word_decimal k, (refl, (refl, tt))))
    (inr (inl (codes "record" ++ spaced (decimal k ∷ codes "cut" ∷ codes "short" ∷ []), refl))) good

counted_no_feed : (name : List ℕ) (n : ℕ) → is_word name ≡ true → runs_on is_feed (counted name n) ≡ true
unfolding counted
counted_no_feed name n is = none_feed (name ∷ decimal n ∷ []) (is, (is_word_decimal n, tt))

no_feed_more : (text name : List ℕ) (n : ℕ) → runs_on is_feed text ≡ true → is_word name ≡ true
    → runs_on is_feed (text ++ counted name n) ≡ true
no_feed_more text name n before is = runs_on_append is_feed text (counted name n) before (counted_no_feed name n is)

-- the totals without their line feed
abbrev totals_text : Totals → List ℕ
totals_text t =
    codes "total"
    ++ counted (codes "packets") t.packets
    ++ counted (codes "steered") t.steered
    ++ counted (codes "unsteered") t.unsteered
    ++ counted (codes "accepted") t.accepted
    ++ counted (codes "processed") t.processed
    ++ counted (codes "forwarded") t.forwarded
    ++ counted (codes "reset") t.reset
    ++ counted (codes "dropped") t.dropped
    ++ counted (codes "lost") t.lost
    ++ counted (codes "stray") t.stray

totals_no_feed : (t : Totals) → runs_on is_feed (totals_text t) ≡ true
totals_no_feed t =
    let t0 = codes "total"
    in let t1 = t0 ++ counted (codes "packets") t.packets
    in let t2 = t1 ++ counted (codes "steered") t.steered
    in let t3 = t2 ++ counted (codes "unsteered") t.unsteered
    in let t4 = t3 ++ counted (codes "accepted") t.accepted
    in let t5 = t4 ++ counted (codes "processed") t.processed
    in let t6 = t5 ++ counted (codes "forwarded") t.forwarded
    in let t7 = t6 ++ counted (codes "reset") t.reset
    in let t8 = t7 ++ counted (codes "dropped") t.dropped
    in let t9 = t8 ++ counted (codes "lost") t.lost
    in let a1 = no_feed_more t0 (codes "packets") t.packets refl refl
    in let a2 = no_feed_more t1 (codes "steered") t.steered a1 refl
    in let a3 = no_feed_more t2 (codes "unsteered") t.unsteered a2 refl
    in let a4 = no_feed_more t3 (codes "accepted") t.accepted a3 refl
    in let a5 = no_feed_more t4 (codes "processed") t.processed a4 refl
    in let a6 = no_feed_more t5 (codes "forwarded") t.forwarded a5 refl
    in let a7 = no_feed_more t6 (codes "reset") t.reset a6 refl
    in let a8 = no_feed_more t7 (codes "dropped") t.dropped a7 refl
    in let a9 = no_feed_more t8 (codes "lost") t.lost a8 refl
    in no_feed_more t9 (codes "stray") t.stray a9 refl

totals_begin : (t : Totals) → IsClosing (totals_line t)
unfolding counted
totals_begin t = inr (inr (
  codes "packets"
      ++ spaced (decimal t.packets ∷ [])
      ++ counted (codes "steered") t.steered
      ++ counted (codes "unsteered") t.unsteered
      ++ counted (codes "accepted") t.accepted
      ++ counted (codes "processed") t.processed
      ++ counted (codes "forwarded") t.forwarded
      ++ counted (codes "reset") t.reset
      ++ counted (codes "dropped") t.dropped
      ++ counted (codes "lost") t.lost
      ++ counted (codes "stray") t.stray,
  refl,
))

totals_close : (t : Totals) → AreLinesOf [] (lines (totals_line t))
totals_close t =
    subst (λ (ls : List (List ℕ)). AreLinesOf [] ls) (sym (line_first (totals_text t) [] (totals_no_feed t)))
    (totals_begin t, tt)

-- THE EVENTS

abbrev VersionsFit : List Event → Type 0
VersionsFit past = (m : MuxId) → (version_at past m).0 < 2 ^ 32

switched_fits : (what : What) (m : MuxId) (before : Version) → IsWhat what → before.0 < 2 ^ 32
    → (switched what m before).0 < 2 ^ 32
switched_fits (Switch mux v) m before is fits = elim (cases_Bool (mux.0 == m.0)) [
  | inl same ↦ rw same is.1
  | inr other ↦ rw other fits
]
switched_fits (Publish v) m before is fits = fits
switched_fits (Steer k mux) m before is fits = fits
switched_fits (Lose k hop) m before is fits = fits
switched_fits (Arrive k hop server verdict) m before is fits = fits
switched_fits (Close server flow closed) m before is fits = fits
switched_fits (Retire server h at result) m before is fits = fits
switched_fits Sync m before is fits = fits

bucket_fits : (stage : Stage) (s : Option Segment) → IsSound stage → bucket_of_packet stage s < 2 ^ 32
bucket_fits stage None sound = omega arith
bucket_fits stage (Some s) sound =
    let within = sound.script.setting.buckets
    in let some : 0 < stage.script.setting.buckets = omega (arith, within.0)
    in let below : bucket stage s.flow < stage.script.setting.buckets = mod-lt _ some
    in omega (arith, below, within.1)

version_fits : (stage : Stage) (past : List Event) (clock : ℕ) (what : What) → VersionsFit past
    → (aside stage past clock what).version < 2 ^ 32
version_fits stage past clock (Steer k m) fits = fits m
version_fits stage past clock (Publish v) fits = omega arith
version_fits stage past clock (Switch m v) fits = omega arith
version_fits stage past clock (Lose k hop) fits = omega arith
version_fits stage past clock (Arrive k hop server verdict) fits = omega arith
version_fits stage past clock (Close server flow closed) fits = omega arith
version_fits stage past clock (Retire server h at result) fits = omega arith
version_fits stage past clock Sync fits = omega arith

aside_bucket_fits : (stage : Stage) (past : List Event) (clock : ℕ) (what : What) → IsSound stage
    → (aside stage past clock what).bucket < 2 ^ 32
aside_bucket_fits stage past clock (Steer k m) sound = bucket_fits stage (segment_of stage k) sound
aside_bucket_fits stage past clock (Publish v) sound = omega arith
aside_bucket_fits stage past clock (Switch m v) sound = omega arith
aside_bucket_fits stage past clock (Lose k hop) sound = omega arith
aside_bucket_fits stage past clock (Arrive k hop server verdict) sound = omega arith
aside_bucket_fits stage past clock (Close server flow closed) sound = omega arith
aside_bucket_fits stage past clock (Retire server h at result) sound = omega arith
aside_bucket_fits stage past clock Sync sound = omega arith

-- A RUN HAS LINES

verdict_lined : (local : Local) (timeout clock : ℕ) (hop : Hop) (onto : Option Past) (s : Segment)
    → has_own_reason (verdict_of local timeout clock hop onto s) ≡ true
verdict_lined local timeout clock hop onto s = grind arith

step_lined : (stage : Stage) (past : List Event) (clock : ℕ) (what : What) → MayCome stage past clock what
    → has_line what ≡ true
step_lined stage past clock (Arrive k hop server verdict) may =
    ap has_own_reason may.verdict_is
    ∙ verdict_lined (local_at stage past server may.segment.flow) (timeout stage) clock hop
    (onward may.label.entry hop) may.segment
step_lined stage past clock (Steer k m) may = refl
step_lined stage past clock (Publish v) may = refl
step_lined stage past clock (Switch m v) may = refl
step_lined stage past clock (Lose k hop) may = refl
step_lined stage past clock (Close server flow closed) may = refl
step_lined stage past clock (Retire server h at result) may = refl
step_lined stage past clock Sync may = refl

pub run_older : (stage : Stage) (newer past : List Event) → Run stage (reverse_aux newer past) → Run stage past
run_older stage [] past run = run
run_older stage (x ∷ newer) past run = (run_older stage newer (x ∷ past) run).1

coming_read : (stage : Stage) (past coming : List Event) (rest : List ℕ) → IsSound stage → VersionsFit past
    → Run stage (reverse_aux coming past)
    → AreEvents coming → AreLinesOf [] (lines rest) → AreLinesOf coming (lines (lines_from stage past coming ++ rest))
unfolding lines_from
coming_read stage past [] rest sound fits run are good = good
coming_read stage past (e ∷ coming) rest sound fits run are good =
    let words = event_words stage past e.clock.0 e.what
    in let more = lines_from stage (e ∷ past) coming ++ rest
    in let later =
    coming_read stage (e ∷ past) coming rest sound
    (λ m. switched_fits e.what m (version_at past m) are.0.1 (fits m)) run are.1 good
    in let step : IsStep stage past e = (run_older stage coming (e ∷ past) run).0
    in let is : IsLineOf e (event_line stage past e) = record {
      has = step_lined stage past e.clock.0 e.what step.may;
      numbers = are.0;
      aside = aside stage past e.clock.0 e.what;
      version = version_fits stage past e.clock.0 e.what fits;
      bucket = aside_bucket_fits stage past e.clock.0 e.what sound;
      is = refl;
    }
    in subst (λ (x : List ℕ). AreLinesOf (e ∷ coming) (lines x))
    (sym (append_assoc (event_line stage past e) (lines_from stage (e ∷ past) coming) rest))
    (subst (λ (ls : List (List ℕ)). AreLinesOf (e ∷ coming) ls)
    (sym (line_alone (decimal e.clock.0) words more (is_word_decimal e.clock.0)
    (event_are e.what (aside stage past e.clock.0 e.what))))
    (is, later))

pub reads_itself : (h : History) → IsRun h → AreEvents h.events → AreLinesOf h.events (lines (text h))
reads_itself h run are =
    subst (λ (x : List ℕ). AreLinesOf h.events (lines x)) (sym (whole h))
    (coming_read h.stage [] h.events _ run.sound (λ m. omega arith) run.run are
    (records_close (reverse h.events) 1 h.stage.capture.records _
    (note_closes h.stage.capture.cut _ (totals_close (totals_of h)))))
