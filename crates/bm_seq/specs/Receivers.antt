-- The receiving end of a connection. Sequence numbers are modulo 2^32 (RFC 9293, section 3.4).
use Rattle.std.specs.Prelude.{ℕ, ◌+◌, ◌-◌, ◌%◌, ◌^◌, Bool, false, not, ◌&&◌, ◌||◌, ◌==◌, nat_lt}
use Rattle.std.specs.Prelude.{nat_le, if◌then◌else◌}
use Rattle.bm_base.specs.declared.flow.Segment.{Segment}
use Rattle.bm_base.specs.declared.receive.Taken.{Taken}
use Rattle.bm_base.specs.declared.receive.Taken.TheVariants.{Advance, Duplicate, Ahead, Outside}
use Rattle.bm_base.specs.declared.receive.Taken.TheVariants.{Challenge, Ended}
use Rattle.bm_base.specs.Segments.{has_flag, is_opening, FIN, RST, SYN}
use Rattle.bm_seq.specs.declared.receiver.Receiver.{Receiver}

-- how far a is after b, among the sequence numbers
unfoldable pub distance : ℕ → ℕ → ℕ
distance a b = (a + 2 ^ 32 - b) % 2 ^ 32

-- the sequence number is one of the window of this size that begins at next
abbrev pub is_in_window : ℕ → ℕ → ℕ → Bool
is_in_window next window x = nat_lt (distance x next) window

-- the test of acceptability of RFC 9293, section 3.10.7.4: the segment begins or ends in the
-- window, or both are empty and the segment begins at next
unfoldable pub acceptable : ℕ → ℕ → ℕ → ℕ → Bool
acceptable next window seq len =
    if len == 0
    then (if window == 0 then seq == next else is_in_window next window seq)
    else nat_lt 0 window
    && (is_in_window next window seq || is_in_window next window ((seq + len - 1) % 2 ^ 32))

-- the receive window of a server
abbrev pub receive_window : ℕ
receive_window = 65535

-- what the receiver makes of an RST
unfoldable pub taken_reset : Receiver → Segment → Taken
taken_reset r s =
    if nat_le receive_window (distance s.seq r.next) then Outside
    else if s.seq == r.next then Ended else Challenge

-- the next octet expected is in the segment, or the segment is empty and begins there
unfoldable pub comes_in_turn : Receiver → Segment → Bool
comes_in_turn r s = nat_lt (distance r.next s.seq) s.len || (s.len == 0 && s.seq == r.next)

-- what the receiver makes of a segment (the order of these rows is this project's own)
unfoldable pub taken : Receiver → Segment → Taken
taken r s =
    if is_opening s then (if s.seq == r.start then Duplicate else Challenge)
    else if has_flag RST s then taken_reset r s
    else if has_flag SYN s then Challenge
    else if not (acceptable r.next receive_window s.seq s.len)
    then (if nat_lt (distance r.next ((s.seq + s.len) % 2 ^ 32)) (2 ^ 31) then Duplicate
    else Outside)
    else if comes_in_turn r s then Advance else Ahead

-- the receiver after it took a segment so
unfoldable pub after_taken : Taken → Receiver → Segment → Receiver
after_taken Advance r s =
    record r { next = (s.seq + s.len) % 2 ^ 32; finished = r.finished || has_flag FIN s }
after_taken _ r s = r

-- the receiver that an accepted segment opens
unfoldable pub opened : Segment → Receiver
opened s = record { start = s.seq; next = (s.seq + s.len) % 2 ^ 32; finished = false }

-- the receiver that a segment leaves
unfoldable pub receiver_after : Receiver → Segment → Receiver
receiver_after r s = after_taken (taken r s) r s
