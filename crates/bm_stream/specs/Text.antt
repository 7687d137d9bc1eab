-- The lines of streams: one for each Accept of a history, in their order. A past has its newest
-- event first.
use Rattle.std.specs.Prelude.{◌≡◌, ℕ, ◌+◌, ◌/◌, ◌%◌, nat_lt, List, [], ◌∷◌, ◌++◌, length, reverse}
use Rattle.std.specs.Prelude.{Bool, if◌then◌else◌, flat_map, Option, Some, None, codes, decimal}
use Rattle.std.specs.Int.{to_be_bytes, w64}
use Rattle.bm_base.specs.declared.flow.Flow.{Flow}
use Rattle.bm_base.specs.declared.flow.Segment.{Segment}
use Rattle.bm_base.specs.declared.ids.Moment.{Moment}
use Rattle.bm_base.specs.declared.ids.ServerId.{ServerId}
use Rattle.bm_core.specs.declared.events.Event.{Event}
use Rattle.bm_core.specs.declared.events.History.{History}
use Rattle.bm_core.specs.declared.events.Stage.{Stage}
use Rattle.bm_core.specs.declared.events.Verdict.TheVariants.{Accept}
use Rattle.bm_core.specs.declared.events.What.{What}
use Rattle.bm_core.specs.declared.events.What.TheVariants.{Arrive}
use Rattle.bm_core.specs.Past.{segment_of}
use Rattle.bm_hash.specs.Buckets.{fnv_1a}
use Rattle.bm_stream.specs.Accepts.{packets_of, pieces_of}
use Rattle.bm_stream.specs.Pieces.{Piece, stream, is_ended}
use Rattle.bm_trace.specs.Words.{endpoint, line}

-- WORDS

-- a digit in base 16
abbrev pub hex_digit : ℕ → ℕ
hex_digit d = if nat_lt d 10 then 48 + d else 87 + d

-- an octet in two digits
unfoldable pub hex_octet : ℕ → List ℕ
hex_octet octet = hex_digit (octet / 16) ∷ hex_digit (octet % 16) ∷ []

-- a number of 64 bits in 16 digits
unfoldable pub hex_word : ℕ → List ℕ
hex_word n = flat_map hex_octet (to_be_bytes w64 n)

abbrev pub end_word : Bool → List ℕ
end_word ended = if ended then codes "ended" else codes "open"

-- LINES

-- the line of an Accept: when, by which server, the client's and the service's endpoints, and of the
-- stream how many octets it has, their FNV-1a number and whether it has ended
unfoldable pub stream_line : Moment → ServerId → Flow → ℕ → ℕ → Bool → List ℕ
stream_line clock server flow octets hash ended =
    line (codes "stream")
    (decimal clock.0 ∷ decimal server.0 ∷ endpoint flow.src flow.sport
    ∷ endpoint flow.dst flow.dport ∷ codes "octets" ∷ decimal octets ∷ hex_word hash
    ∷ end_word ended ∷ [])

-- the same, of the stream that these pieces make
abbrev pub line_for : Moment → ServerId → Segment → List Piece → List ℕ
line_for clock server s pieces =
    stream_line clock server s.flow (length (stream pieces)) (fnv_1a (stream pieces))
    (is_ended pieces)

-- the line of an opening segment with the packets that are its pieces, if there is a segment
abbrev pub opening_line : Stage → List (List ℕ) → Moment → ServerId → List ℕ → Option Segment → List ℕ
opening_line stage packets clock server pieces None = []
opening_line stage packets clock server pieces (Some s) =
    line_for clock server s (pieces_of stage packets s.seq pieces)

-- the line of an event at this place among all events, if it is an Accept
abbrev pub line_at : Stage → List (List ℕ) → List Event → ℕ → Moment → What → List ℕ
line_at stage packets all place clock (Arrive k hop server Accept) =
    opening_line stage packets clock server (packets_of stage place all) (segment_of stage k)
line_at stage packets all place clock _ = []

-- the lines of these events among all events
abbrev pub lines_of : Stage → List (List ℕ) → List Event → List Event → List ℕ
lines_of stage packets all [] = []
lines_of stage packets all (e ∷ past) =
    lines_of stage packets all past ++ line_at stage packets all (length past) e.clock e.what

-- the lines of a history whose records have these packets
abbrev pub stream_text : History → List (List ℕ) → List ℕ
stream_text h packets = lines_of h.stage packets (reverse h.events) (reverse h.events)

-- a first part of a text was appended
pub record AppendsPart (text old new : List ℕ) : Type 0 where
  pub front : List ℕ
  pub rest : List ℕ
  pub is : text ≡ front ++ rest
  pub appended : new ≡ old ++ front
