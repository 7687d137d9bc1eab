-- The packets that a replay in progress keeps.
use Rattle.std.proofs.Common.{◌≡◌, ℕ, zero, suc, ◌+◌, ◌<◌, ◌≤◌, false, inl, inr, List, [], ◌∷◌, Option, Some, None}
use Rattle.std.proofs.Common.{is_some}
use Rattle.std.proofs.Common.{length, refl, sym, ap, subst, ◌∙◌, arith}
use Rattle.std.specs.Prelude.{nat_lt, slice_index_or}
use Rattle.std.proofs.lemmas.Bool.{cases_Bool}
use Rattle.std.proofs.lemmas.Option.{same_Some}
use Rattle.bm_base.specs.declared.capture.Record.{Record}
use Rattle.bm_base.specs.Pieces.{cleared}
use Rattle.bm_fault.specs.declared.wire.Flight.{Flight}
use Rattle.bm_fault.specs.Flying.{Flying}
use Rattle.bm_fault.specs.Wires.{first_due, first_flight, others, put_flying}
use Rattle.bm_link.specs.Fits.{IsPacketOf}
use Rattle.bm_core.specs.declared.schedule.Call.{Call as Calls}
use Rattle.bm_core.specs.declared.schedule.Call.TheVariants.{Steers}
use Rattle.bm_core.specs.declared.schedule.Due.{Due}
use Rattle.bm_replay.specs.declared.queue.Queue.{Queue}
use Rattle.bm_replay.specs.Inside.Flights.{copies_put}
use Rattle.bm_replay.specs.Inside.Packets.{AreBehind, HoldsPackets}
use Rattle.bm_replay.specs.Inside.Queues.{IsBehind}

-- COPIES UNDER WAY

put_behind : (n : ℕ) (f : Flying) → n < f.flight.packet → (flying : List Flying) → AreBehind n flying
    → AreBehind n (put_flying f flying)
put_behind n f is [] are = (is, tt)
put_behind n f is (x ∷ flying) are = elim (cases_Bool (nat_lt f.due.0 x.due.0)) [
  | inl first ↦ rw first (is, are)
  | inr later ↦ rw later (are.0, put_behind n f is flying are.1)
]

pub copies_behind : (n : ℕ) (f : Flying) → n < f.flight.packet → (copies : ℕ) (flying : List Flying)
    → AreBehind n flying → AreBehind n (copies_put copies f flying)
copies_behind n f is zero flying are = are
copies_behind n f is (suc copies) flying are =
    put_behind n f is (copies_put copies f flying) (copies_behind n f is copies flying are)

pub others_behind : (n : ℕ) (flying : List Flying) → AreBehind n flying → AreBehind n (others flying)
others_behind n [] are = tt
others_behind n (f ∷ flying) are = are.1

pub first_behind : (n : ℕ) (flying : List Flying) (flight : Flight) → AreBehind n flying
    → first_flight flying ≡ Some flight → n < flight.packet
first_behind n [] flight are is = absurd (cc)
first_behind n (f ∷ flying) flight are is = subst (λ (x : Flight). n < x.packet) (same_Some _ _ is) are.0

none_behind : (n : ℕ) (flying : List Flying) → is_some (first_due flying) ≡ false → AreBehind n flying
none_behind n [] none = tt
none_behind n (f ∷ flying) none = absurd (cc)

-- other copies are under way
pub still_held : (records : List Record) (n : ℕ) (packets : List (List ℕ)) (old flying : List Flying) (queue : Queue)
    → HoldsPackets records n packets old queue → AreBehind n flying → HoldsPackets records n packets flying queue
still_held records n packets old flying queue holds are = record {
  count = holds.count;
  each = holds.each;
  under_way = are;
  behind = holds.behind;
  within = holds.within;
}

-- THE NEXT PACKET

number_of : Calls → ℕ → ℕ
number_of (Steers k) d = k
number_of _ d = d

-- the next packet is after the first n
pub steers_behind : (n next k : ℕ) (head : Option Due) (d : Due) → IsBehind n next head → head ≡ Some d
    → d.call ≡ Steers k → (k ≡ next) × (n < k)
unfolding number_of
steers_behind n next k head d is some call =
    let at : IsBehind n next (Some d) = subst (λ (o : Option Due). IsBehind n next o) some is in
    let same : k ≡ next = ap (λ (c : Calls). number_of c 0) (sym call ∙ at.0) in
    (same, omega (arith, same, at.1))

pub behind_fewer : (n m next : ℕ) (head : Option Due) → n ≤ m → IsBehind m next head → IsBehind n next head
behind_fewer n m next None fewer is = tt
behind_fewer n m next (Some d) fewer is = (is.0, omega (arith, fewer, is.1))

-- one of the packets is steered
pub steered_packets : (records : List Record) (n : ℕ) (packets : List (List ℕ)) (flying : List Flying)
    (old queue : Queue) (d : Due) (k copies : ℕ) (f : Flying) → HoldsPackets records n packets flying old
    → old.head ≡ Some d → d.call ≡ Steers k → f.flight.packet ≡ k → IsBehind old.next queue.next queue.head
    → queue.next ≤ length records → HoldsPackets records n packets (copies_put copies f flying) queue
steered_packets records n packets flying old queue d k copies f holds some call is behind within =
    let at = steers_behind n old.next k old.head d holds.behind some call in
    record {
      count = holds.count;
      each = holds.each;
      under_way = copies_behind n f (omega (arith, at.1, is)) copies flying holds.under_way;
      behind = behind_fewer n old.next queue.next queue.head (omega (arith, at.0, at.1)) behind;
      within = within;
    }

-- PACKETS THAT WERE LET GO

length_cleared : (n : ℕ) (packets : List (List ℕ)) → length (cleared n packets) ≡ length packets
length_cleared zero packets = refl
length_cleared (suc n) [] = refl
length_cleared (suc n) (p ∷ packets) = ap suc (length_cleared n packets)

later_stays : (n i : ℕ) (packets : List (List ℕ)) → n ≤ i
    → slice_index_or (cleared n packets) i [] ≡ slice_index_or packets i []
later_stays zero i packets behind = refl
later_stays (suc n) i [] behind = refl
later_stays (suc n) zero (p ∷ packets) behind = absurd (omega (arith, behind))
later_stays (suc n) (suc i) (p ∷ packets) behind = later_stays n i packets (omega (arith, behind))

pub go : (records : List Record) (n done : ℕ) (packets : List (List ℕ)) (flying : List Flying) (queue : Queue)
    (d : Due) (k : ℕ) → HoldsPackets records n packets flying queue → queue.head ≡ Some d → d.call ≡ Steers k
    → k ≡ done + 1 → is_some (first_due flying) ≡ false
    → HoldsPackets records done (cleared done packets) flying queue
go records n done packets flying queue d k holds some call one none =
    let at = steers_behind n queue.next k queue.head d holds.behind some call in
    record {
      count = length_cleared done packets ∙ holds.count;
      each = λ i r behind is. subst (λ (l : List ℕ). IsPacketOf r.body l) (sym (later_stays done i packets behind))
          (holds.each i r (omega (arith, behind, at.1, one)) is);
      under_way = none_behind done flying none;
      behind = subst (λ (o : Option Due). IsBehind done queue.next o) (sym some)
          (call ∙ ap (λ (j : ℕ). Steers j) at.0, omega (arith, at.0, one));
      within = holds.within;
    }
