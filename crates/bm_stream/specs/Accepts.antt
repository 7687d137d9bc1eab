-- The pieces of an Accept: what the connection received, by looking back through events. A past
-- has its newest event first, and pieces stand with the newest first too.
use Rattle.std.specs.Prelude.{ℕ, ◌+◌, ◌-◌, ◌%◌, ◌^◌, ℤ, pos, negsuc, ◌+ℤ◌, nat_lt, ◌==◌, Bool}
use Rattle.std.specs.Prelude.{true, false, if◌then◌else◌, List, [], ◌∷◌, ◌++◌, length, fold}
use Rattle.std.specs.Prelude.{Option, Some, None, option_map, slice_index_or}
use Rattle.bm_base.specs.declared.flow.Segment.{Segment}
use Rattle.bm_base.specs.declared.ids.ServerId.{ServerId}
use Rattle.bm_base.specs.declared.receive.Taken.{Taken}
use Rattle.bm_base.specs.declared.receive.Taken.TheVariants.{Advance, Ahead, Duplicate}
use Rattle.bm_base.specs.Segments.{has_flag, FIN, SYN}
use Rattle.bm_core.specs.declared.events.Event.{Event}
use Rattle.bm_core.specs.declared.events.Stage.{Stage}
use Rattle.bm_core.specs.declared.events.Verdict.{Verdict}
use Rattle.bm_core.specs.declared.events.Verdict.TheVariants.{Accept, Process}
use Rattle.bm_core.specs.declared.events.What.{What}
use Rattle.bm_core.specs.declared.events.What.TheVariants.{Arrive}
use Rattle.bm_core.specs.Past.{held, segment_of}
use Rattle.bm_seq.specs.Receivers.{distance}
use Rattle.bm_tcp.specs.Header.{count_of}
use Rattle.bm_tcp.specs.Packets.{data_in}
use Rattle.bm_stream.specs.Pieces.{Piece, kept}

-- WHICH PACKETS

-- a segment that is taken so is a piece
abbrev pub is_piece : Taken → Bool
is_piece Advance = true
is_piece Ahead = true
is_piece Duplicate = true
is_piece _ = false

-- the place of the Accept that the server holds of the segment's flow
abbrev pub held_place : Stage → List Event → ServerId → Option Segment → Option ℕ
held_place stage past server None = None
held_place stage past server (Some s) = option_map (λ h. h.place) (held stage past server s.flow)

-- the place of the Accept to which an arrival adds a piece: its own, or the one that its server
-- holds
abbrev pub accept_by : Stage → List Event → ServerId → Option Segment → Verdict → Option ℕ
accept_by stage past server s Accept = Some (length past)
accept_by stage past server s (Process taken) =
    if is_piece taken then held_place stage past server s else None
accept_by stage past server s _ = None

-- that Accept is the one at this place
abbrev pub is_at : Option ℕ → ℕ → Bool
is_at None place = false
is_at (Some at) place = at == place

-- these packets, and the event's if it is a piece of the Accept at this place
abbrev pub with_event : Stage → List Event → ℕ → What → List ℕ → List ℕ
with_event stage past place (Arrive k hop server verdict) packets =
    if is_at (accept_by stage past server (segment_of stage k) verdict) place
    then packets ++ k ∷ []
    else packets
with_event stage past place _ packets = packets

-- the packets that are pieces of the Accept at this place, in their order
abbrev pub packets_of : Stage → ℕ → List Event → List ℕ
packets_of stage place [] = []
packets_of stage place (e ∷ past) = with_event stage past place e.what (packets_of stage place past)

-- WHICH OCTETS

-- a distance of sequence numbers as a number from -2^31 to 2^31 - 1
abbrev pub signed : ℕ → ℤ
signed d = if nat_lt d (2 ^ 31) then pos d else negsuc (2 ^ 32 - 1 - d)

-- the place of a segment's first data octet, in a stream of this length whose SYN has the sequence
-- number `start`; a SYN takes one sequence number (RFC 9293, section 3.4)
abbrev pub place_of : ℕ → ℕ → Segment → ℤ
place_of start length s =
    pos length
    +ℤ signed (distance ((s.seq + count_of SYN s.flags) % 2 ^ 32) ((start + 1 + length) % 2 ^ 32))

-- how many data octets the segment states
abbrev pub stated : Segment → ℕ
stated s = s.len - count_of SYN s.flags - count_of FIN s.flags

-- the place of a FIN, after the data octets that the segment states
abbrev pub fin_of : ℤ → Segment → Option ℤ
fin_of place s = if has_flag FIN s then Some (place +ℤ pos (stated s)) else None

-- a segment and its data octets as a piece of a stream of this length
abbrev pub piece_of : ℕ → ℕ → Segment → List ℕ → Piece
piece_of start length s octets = record {
  place = place_of start length s;
  octets = octets;
  fin = fin_of (place_of start length s) s;
}

-- the pieces, and a segment's, if there is one
abbrev pub with_segment : ℕ → List Piece → Option Segment → List ℕ → List Piece
with_segment start pieces None octets = pieces
with_segment start pieces (Some s) octets = piece_of start (kept pieces).length s octets ∷ pieces

-- the pieces, and packet k's; `packets` has the packet of each record
abbrev pub with_packet : Stage → List (List ℕ) → ℕ → List Piece → ℕ → List Piece
with_packet stage packets start pieces k =
    with_segment start pieces (segment_of stage k) (data_in (slice_index_or packets (k - 1) []))

-- the pieces of these packets
abbrev pub pieces_of : Stage → List (List ℕ) → ℕ → List ℕ → List Piece
pieces_of stage packets start ks = fold (with_packet stage packets start) [] ks
