-- The pieces of packets.
use Rattle.std.proofs.Common.{◌≡◌, ℕ, ◌+◌, ◌-◌, ◌*◌, ◌≤◌, List, [], ◌∷◌, length, Option, Some, None}
use Rattle.std.proofs.Common.{refl, ap, subst, ◌∙◌, arith}
use Rattle.std.specs.List.{fold}
use Rattle.std.specs.Prelude.{ℤ, slice_index_or}
use Rattle.bm_base.specs.declared.flow.Segment.{Segment}
use Rattle.bm_core.specs.declared.events.Stage.{Stage}
use Rattle.bm_core.specs.Past.{segment_of}
use Rattle.bm_tcp.specs.Packets.{data_in}
use Rattle.bm_stream.specs.declared.stream.Stream.{Stream}
use Rattle.bm_stream.specs.Accepts.{place_of, fin_of, piece_of, with_segment, with_packet, pieces_of}
use Rattle.bm_stream.specs.Pieces.{Piece, kept, stream, up_to_fin, first_gap, octet_after, fin_after, window}
use Rattle.bm_stream.specs.Views.{HasTaken}
use Rattle.bm_stream.proofs.Lengths.{gap_most, length_stream, up_to_below}

longer_by : (p : Piece) (pieces : List Piece) → (kept (p ∷ pieces)).length ≤ (kept pieces).length + 65535
unfolding kept
longer_by p pieces =
    let most : ℕ = (kept pieces).length + window in
    let gap : ℕ = first_gap (octet_after p (kept pieces)) most in
    let a : up_to_fin (fin_after p (kept pieces)) gap ≤ gap = up_to_below (fin_after p (kept pieces)) gap in
    let b : gap ≤ most = gap_most (octet_after p (kept pieces)) most in
    omega arith

by_segment : (start : ℕ) (pieces : List Piece) (o : Option Segment) (octets : List ℕ)
    → (kept (with_segment start pieces o octets)).length ≤ (kept pieces).length + 65535
by_segment start pieces None octets = omega arith
by_segment start pieces (Some s) octets = longer_by (piece_of start (kept pieces).length s octets) pieces

by_packets : (stage : Stage) (packets : List (List ℕ)) (start : ℕ) (pieces : List Piece) (ks : List ℕ)
    → (kept (fold (with_packet stage packets start) pieces ks)).length ≤ (kept pieces).length + 65535 * length ks
by_packets stage packets start pieces [] = omega arith
by_packets stage packets start pieces (k ∷ ks) =
    let rest : (kept (fold (with_packet stage packets start) (with_packet stage packets start pieces k) ks)).length
    ≤ (kept (with_packet stage packets start pieces k)).length + 65535 * length ks =
    by_packets stage packets start (with_packet stage packets start pieces k) ks
    in
    let one : (kept (with_packet stage packets start pieces k)).length ≤ (kept pieces).length + 65535 =
    by_segment start pieces (segment_of stage k) (data_in (slice_index_or packets (k - 1) []))
    in
    omega arith

nothing : (kept []).length ≡ 0
unfolding kept
nothing = refl

-- the stream of this many packets isn't long
pub short : (stage : Stage) (packets : List (List ℕ)) (start : ℕ) (ks : List ℕ)
    → length (stream (pieces_of stage packets start ks)) ≤ 65535 * length ks
short stage packets start ks =
    let all : (kept (pieces_of stage packets start ks)).length ≤ (kept []).length + 65535 * length ks =
    by_packets stage packets start [] ks
    in
    let none = nothing in
    omega (arith, length_stream (pieces_of stage packets start ks))

-- the piece that was taken is the packet's
pub packet_taken : (stage : Stage) (packets : List (List ℕ)) (start : ℕ) (pieces : List Piece) (k : ℕ) (s : Segment)
    (upto : ℕ) (place : ℤ) (octets : List ℕ) (fin : Option ℤ) (t : Stream) → segment_of stage k ≡ Some s
    → upto ≡ (kept pieces).length → place ≡ place_of start upto s → octets ≡ data_in (slice_index_or packets (k - 1) [])
    → fin ≡ fin_of place s → HasTaken (record { place = place; octets = octets; fin = fin } ∷ pieces) t
    → HasTaken (with_packet stage packets start pieces k) t
packet_taken stage packets start pieces k s upto place octets fin t segment is_upto is_place is_data is_fin taken =
    let at : place ≡ place_of start (kept pieces).length s =
    is_place ∙ ap (λ (n : ℕ). place_of start n s) is_upto
    in
    let same : ◌≡◌ {A = Piece} (record { place = place; octets = octets; fin = fin })
    (piece_of start (kept pieces).length s (data_in (slice_index_or packets (k - 1) []))) =
    ap (λ (f : Option ℤ). record { place = place; octets = octets; fin = f }) is_fin
    ∙ ap (λ (d : List ℕ). record { place = place; octets = d; fin = fin_of place s }) is_data
    ∙ ap (λ (z : ℤ). record { place = z; octets = data_in (slice_index_or packets (k - 1) []); fin = fin_of z s }) at
    in
    rw segment (subst (λ (p : Piece). HasTaken (p ∷ pieces) t) same taken)
