-- The report of a history: a line for each event, a line for each record, a note if the capture is
-- cut short, and the totals.
use Rattle.std.specs.Prelude.{ℕ, suc, ◌==◌, if◌then◌else◌, List, [], ◌∷◌, ◌++◌, Option, Some, None}
use Rattle.std.specs.Prelude.{reverse, codes, decimal}
use Rattle.bm_base.specs.declared.capture.Body.{Body}
use Rattle.bm_base.specs.declared.capture.Body.TheVariants.{Steerable, Unsteered}
use Rattle.bm_base.specs.declared.capture.Record.{Record}
use Rattle.bm_base.specs.declared.flow.Segment.{Segment}
use Rattle.bm_base.specs.declared.ids.ServerId.{ServerId}
use Rattle.bm_core.specs.declared.events.Event.{Event}
use Rattle.bm_core.specs.declared.events.History.{History}
use Rattle.bm_core.specs.declared.events.Stage.{Stage}
use Rattle.bm_core.specs.declared.events.Verdict.{Verdict}
use Rattle.bm_core.specs.declared.events.Verdict.TheVariants.{Accept, Process, Forward, Reset, Drop}
use Rattle.bm_core.specs.declared.events.What.{What}
use Rattle.bm_core.specs.declared.events.What.TheVariants.{Publish, Switch, Steer, Lose, Arrive}
use Rattle.bm_core.specs.declared.events.What.TheVariants.{Close, Retire, Sync}
use Rattle.bm_core.specs.Causes.{cause}
use Rattle.bm_core.specs.Past.{bucket, segment_of, version_at}
use Rattle.bm_trace.specs.declared.lines.Aside.{Aside}
use Rattle.bm_trace.specs.declared.sums.Totals.{Totals}
use Rattle.bm_trace.specs.Totals.{totals_of}
use Rattle.bm_trace.specs.Words.{line, counted, endpoint, hop_word, verdict_words, because_words}
use Rattle.bm_trace.specs.Words.{retirement_words, reason_word}

-- THE EVENTS

-- the bucket of a packet's flow
abbrev pub bucket_of_packet : Stage → Option Segment → ℕ
bucket_of_packet stage None = 0
bucket_of_packet stage (Some s) = bucket stage s.flow

-- what the line of an event says of the events before it: a Steer's line the version of its mux and
-- the bucket of its packet, an arrival's its cause
abbrev pub aside : Stage → List Event → ℕ → What → Aside
aside stage past clock (Steer k m) = record {
  version = (version_at past m).0;
  bucket = bucket_of_packet stage (segment_of stage k);
  cause = None;
}
aside stage past clock (Arrive k hop server verdict) =
    record { version = 0; bucket = 0; cause = cause stage past clock (Arrive k hop server verdict) }
aside stage past clock _ = record { version = 0; bucket = 0; cause = None }

-- the words of an event's line after its clock
abbrev pub words_of : What → Aside → List (List ℕ)
words_of (Publish v) a = codes "publish" ∷ decimal v.0 ∷ []
words_of (Switch m v) a = codes "switch" ∷ decimal m.0 ∷ decimal v.0 ∷ []
words_of (Steer k m) a =
    codes "steer" ∷ decimal k ∷ decimal m.0 ∷ decimal a.version ∷ decimal a.bucket ∷ []
words_of (Lose k hop) a = codes "lost" ∷ decimal k ∷ hop_word hop ∷ []
words_of (Arrive k hop server verdict) a =
    (codes "arrive" ∷ decimal k ∷ hop_word hop ∷ decimal server.0 ∷ [])
    ++ verdict_words verdict
    ++ because_words a.cause
words_of (Close server flow closed) a =
    codes "close" ∷ decimal server.0 ∷ endpoint flow.src flow.sport ∷ endpoint flow.dst flow.dport
    ∷ (if closed then codes "closed" else codes "none") ∷ []
words_of (Retire server shard at result) a =
    (codes "retire" ∷ decimal server.0 ∷ decimal shard ∷ codes "at" ∷ decimal at.0 ∷ [])
    ++ retirement_words result
words_of Sync a = codes "sync" ∷ []

-- what the line of an event says after its clock, where it comes after these events
abbrev pub event_words : Stage → List Event → ℕ → What → List (List ℕ)
event_words stage past clock what = words_of what (aside stage past clock what)

abbrev pub event_line : Stage → List Event → Event → List ℕ
event_line stage past e = line (decimal e.clock.0) (event_words stage past e.clock.0 e.what)

-- the lines of these events, whose newest is first, in the order in which they happened
abbrev pub event_lines : Stage → List Event → List ℕ
event_lines stage [] = []
event_lines stage (e ∷ past) = event_lines stage past ++ event_line stage past e

-- THE RECORDS

-- how a copy of the packet ended; a forward is not an end
abbrev pub verdict_end : ServerId → Verdict → List (List ℕ)
verdict_end server Accept = codes "accepted" ∷ decimal server.0 ∷ []
verdict_end server (Process taken) = codes "processed" ∷ decimal server.0 ∷ []
verdict_end server (Forward to) = []
verdict_end server (Reset why) = codes "reset" ∷ decimal server.0 ∷ []
verdict_end server (Drop why) = codes "dropped" ∷ decimal server.0 ∷ []

-- the end of a copy of packet k, if the event is one
abbrev pub end_words : What → ℕ → List (List ℕ)
end_words (Arrive packet hop server verdict) k =
    if packet == k then verdict_end server verdict else []
end_words (Lose packet hop) k = if packet == k then codes "lost" ∷ [] else []
end_words _ k = []

-- the ends of packet k among these events, whose newest is first, in the order in which they
-- happened
abbrev pub ends_of : List Event → ℕ → List (List ℕ)
ends_of [] k = []
ends_of (e ∷ past) k = ends_of past k ++ end_words e.what k

abbrev pub record_words : List Event → ℕ → Body → List (List ℕ)
record_words past k (Unsteered reason) = codes "unsteered" ∷ reason_word reason ∷ []
record_words past k (Steerable s) = ends_of past k

-- the lines of the records; the first has this number
abbrev pub record_lines : List Event → ℕ → List Record → List ℕ
record_lines past k [] = []
record_lines past k (r ∷ records) =
    line (codes "packet") (decimal k ∷ record_words past k r.body)
    ++ record_lines past (suc k) records

-- THE REST

abbrev pub note_line : Option ℕ → List ℕ
note_line None = []
note_line (Some k) =
    line (codes "note") (codes "record" ∷ decimal k ∷ codes "cut" ∷ codes "short" ∷ [])

abbrev pub totals_line : Totals → List ℕ
totals_line t =
    codes "total"
    ++ counted (codes "packets") t.packets
    ++ counted (codes "steered") t.steered
    ++ counted (codes "unsteered") t.unsteered
    ++ counted (codes "accepted") t.accepted
    ++ counted (codes "processed") t.processed
    ++ counted (codes "forwarded") t.forwarded
    ++ counted (codes "reset") t.reset
    ++ counted (codes "dropped") t.dropped
    ++ counted (codes "lost") t.lost
    ++ counted (codes "stray") t.stray
    ++ 10 ∷ []

-- the whole report
unfoldable pub text : History → List ℕ
text h =
    event_lines h.stage (reverse h.events)
    ++ record_lines (reverse h.events) 1 h.stage.capture.records
    ++ note_line h.stage.capture.cut
    ++ totals_line (totals_of h)
