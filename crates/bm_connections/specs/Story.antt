-- The story of one flow: its events, and those of the changes that move its bucket, each as the report
-- of the history tells it, with what its packet is (docs/FORMATS.md). A past has its newest event
-- first.
use Rattle.std.specs.Prelude.{ℕ, ◌-◌, Bool, false, ◌||◌, nat_lt, if◌then◌else◌, List, [], ◌∷◌, ◌++◌}
use Rattle.std.specs.Prelude.{Option, Some, None, reverse, codes, decimal}
use Rattle.bm_base.specs.Segments.{FIN, SYN, RST, ACK, has_flag, same_flow}
use Rattle.bm_base.specs.declared.flow.Flow.{Flow}
use Rattle.bm_base.specs.declared.flow.Segment.{Segment}
use Rattle.bm_core.specs.declared.events.Event.{Event}
use Rattle.bm_core.specs.declared.events.History.{History}
use Rattle.bm_core.specs.declared.events.Stage.{Stage}
use Rattle.bm_core.specs.declared.events.What.{What}
use Rattle.bm_core.specs.declared.events.What.TheVariants.{Publish, Switch, Steer, Lose, Arrive, Close}
use Rattle.bm_core.specs.Past.{bucket, is_of, segment_of}
use Rattle.bm_table.specs.Tables.{moves}
use Rattle.bm_trace.specs.Report.{event_line}
use Rattle.bm_trace.specs.Words.{spaced}
use Rattle.bm_connections.specs.Times.{time_text}

-- WHICH EVENTS

-- the segment of the event's packet, if it is an event of a packet
abbrev pub packet_in : Stage → What → Option Segment
packet_in stage (Steer k mux) = segment_of stage k
packet_in stage (Lose k hop) = segment_of stage k
packet_in stage (Arrive k hop server verdict) = segment_of stage k
packet_in stage _ = None

-- the event is one of a packet of the flow, or a close of the flow
abbrev pub is_of_flow : Stage → Flow → What → Bool
is_of_flow stage f (Close server flow closed) = same_flow flow f
is_of_flow stage f what = is_of (packet_in stage what) f

-- the change that makes this version moves the flow's bucket
abbrev pub moves_flow : Stage → Flow → ℕ → Bool
moves_flow stage f v = nat_lt 0 (moves stage.script.plan (bucket stage f) (v - 1) v)

-- the event is of a change that moves the flow's bucket: it is published, or a mux takes it over
abbrev pub is_of_bucket : Stage → Flow → What → Bool
is_of_bucket stage f (Publish v) = moves_flow stage f v.0
is_of_bucket stage f (Switch mux v) = moves_flow stage f v.0
is_of_bucket stage f _ = false

-- the event belongs to the flow's story
abbrev pub is_told : Stage → Flow → What → Bool
is_told stage f what = is_of_flow stage f what || is_of_bucket stage f what

-- THEIR LINES

-- the flag's word, if the segment has the flag
abbrev pub flag_text : ℕ → List ℕ → Segment → List ℕ
flag_text flag word s = if has_flag flag s then 32 ∷ word else []

-- the flags of a segment that open and end connections
abbrev pub flags_text : Segment → List ℕ
flags_text s =
    flag_text SYN (codes "SYN") s ++ flag_text FIN (codes "FIN") s
    ++ flag_text RST (codes "RST") s ++ flag_text ACK (codes "ACK") s

-- what the event's packet is: its flags, and its length in sequence numbers
abbrev pub packet_text : Option Segment → List ℕ
packet_text None = []
packet_text (Some s) =
    codes " flags" ++ flags_text s ++ spaced (codes "length" ∷ decimal s.len ∷ [])

-- the line of an event: its clock, its packet, and its line in the report
abbrev pub story_line : Option ℕ → Stage → List Event → Event → List ℕ
story_line clock stage past e =
    codes "story" ++ spaced (time_text clock e.clock.0 ∷ [])
    ++ packet_text (packet_in stage e.what)
    ++ 32 ∷ event_line stage past e

-- the lines of the flow's story among these events, in the order in which they happened
abbrev pub story_lines : Option ℕ → Stage → Flow → List Event → List ℕ
story_lines clock stage f [] = []
story_lines clock stage f (e ∷ past) =
    story_lines clock stage f past
    ++ (if is_told stage f e.what then story_line clock stage past e else [])

-- those of a history
abbrev pub story : Option ℕ → History → Flow → List ℕ
story clock h f = story_lines clock h.stage f (reverse h.events)
