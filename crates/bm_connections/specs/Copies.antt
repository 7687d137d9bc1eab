-- Which records of a capture look like copies of the one before, as they do where packets were captured
-- at two interfaces (docs/DEFINITIONS.md). Records have the newest first.
use Rattle.std.specs.Prelude.{ℕ, ◌-◌, ◌/◌, ◌^◌, Bool, false, ◌&&◌, ◌==◌, nat_le, nat_lt, List, []}
use Rattle.std.specs.Prelude.{◌∷◌, ◌++◌, Option, Some, None, reverse, codes, decimal}
use Rattle.std.specs.Prelude.{if◌then◌else◌}
use Rattle.std.specs.Option.{option_map_or}
use Rattle.bm_base.specs.declared.capture.Capture.{Capture}
use Rattle.bm_base.specs.declared.capture.Record.{Record}
use Rattle.bm_base.specs.declared.flow.Flow.{Flow}
use Rattle.bm_base.specs.declared.flow.Segment.{Segment}
use Rattle.bm_base.specs.declared.ids.Moment.{Moment}
use Rattle.bm_core.specs.Past.{steerable}
use Rattle.bm_trace.specs.Words.{spaced}
use Rattle.bm_connections.specs.declared.copies.CopyCount.{CopyCount}
use Rattle.bm_connections.specs.Connections.{one_more}
use Rattle.bm_connections.specs.Seen.{is_packet_of}

-- the last of these records that is a packet of the flow
abbrev pub last_record : List Record → Flow → Option Record
last_record [] f = None
last_record (r ∷ records) f = if is_packet_of r f then Some r else last_record records f

-- the segment takes up sequence numbers: it has data, or is a SYN or a FIN
abbrev pub takes_numbers : Segment → Bool
takes_numbers s = nat_lt 0 s.len

-- the same sequence and acknowledgment numbers, length and flags
abbrev pub same_numbers : Segment → Segment → Bool
same_numbers a b = a.seq == b.seq && a.ack == b.ack && a.len == b.len && a.flags == b.flags

-- the record has a segment with these numbers, and comes at most a millisecond before the moment
abbrev pub is_like : Moment → Segment → Record → Bool
is_like at s before =
    option_map_or (λ t. same_numbers t s) (steerable (Some before)) false
    && nat_le (at.0 - before.moment.0) (10 ^ 6)

-- The record looks like a copy: its segment takes up sequence numbers, and the last record of its
-- flow before it is like it. A sender waits for more than a millisecond before it sends a segment
-- again. A pure acknowledgment takes up no numbers, and doesn't count: a receiver may send several
-- equal ones within a millisecond.
abbrev pub is_copy : List Record → Record → Bool
is_copy records r =
    option_map_or (λ s.
    takes_numbers s && option_map_or (is_like r.moment s) (last_record records s.flow) false)
    (steerable (Some r)) false

-- the record is steered, and its segment takes up sequence numbers
abbrev pub is_numbered : Record → Bool
is_numbered r = option_map_or takes_numbers (steerable (Some r)) false

-- how many of these records look like copies
abbrev pub copies_among : List Record → ℕ
copies_among [] = 0
copies_among (r ∷ records) = one_more (is_copy records r) (copies_among records)

-- how many of these records may look like copies
abbrev pub numbered_among : List Record → ℕ
numbered_among [] = 0
numbered_among (r ∷ records) = one_more (is_numbered r) (numbered_among records)

abbrev pub copies_after : List Record → CopyCount
copies_after records =
    record { copies = copies_among records; numbered = numbered_among records }

-- how many records of a capture look like copies, of how many that may
abbrev pub copies : Capture → CopyCount
copies capture = copies_after (reverse capture.records)

-- more than a tenth look like copies
abbrev pub are_copies : CopyCount → Bool
are_copies c = nat_lt (c.numbered / 10) c.copies

-- the line of advice on copies
abbrev pub copies_line : CopyCount → List ℕ
copies_line c =
    codes "advice copies:" ++ spaced (decimal c.copies ∷ codes "of" ∷ decimal c.numbered ∷ [])
    ++ codes " records with data, SYN or FIN look like copies of the one before; "
    ++ codes "capture on one interface, or remove them by editcap -d\n"

-- the line where more than a tenth look like copies, and otherwise nothing
abbrev pub copies_text : CopyCount → List ℕ
copies_text c = if are_copies c then copies_line c else []
