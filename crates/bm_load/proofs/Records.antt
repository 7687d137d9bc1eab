-- The records of a load, by their places.
use Rattle.std.proofs.Common.{◌≡◌, ℕ, zero, suc, ◌+◌, ◌*◌, ◌/◌, ◌%◌, ◌<◌, ◌≤◌, List, [], ◌∷◌, map, slice_get}
use Rattle.std.proofs.Common.{slice_index_or}
use Rattle.std.proofs.Common.{◌++◌, Some, inl, refl, sym, ap₂, subst, ◌∙◌, arith}
use Rattle.std.proofs.lemmas.List.FromFn.{length-map-range_with_len, map-range_with_len_more}
use Rattle.std.proofs.lemmas.Nat.{mod_below}
use Rattle.std.proofs.lemmas.Option.{same_Some}
use Rattle.std.specs.List.{AllByRecursion, range_with_len}
use Rattle.bm_base.specs.Captures.{AreRising, IsFit, IsReplayable}
use Rattle.bm_base.specs.declared.capture.Record.{Record}
use Rattle.bm_link.specs.Fits.{ArePackets, IsPacketOf}
use Rattle.bm_load.specs.Load.{load_of, load_packets, load_records, load_setting, packet_at, record_at}
use Rattle.bm_load.proofs.Reading.{reads}
use Rattle.bm_load.proofs.Rounds.{short}

rising : (n a count low high : ℕ) → low ≤ a * 1000 → (a + count) * 1000 ≤ high
    → AreRising low high (map (λ (r : Record). r.moment.0) (map (record_at n) (range_with_len a count)))
rising n a zero low high above within = tt
rising n a (suc count) low high above within =
    (above, omega arith, rising n (a + 1) count (a * 1000) high (omega arith) (omega arith))

fit : (n a count : ℕ)
    → AllByRecursion (λ r. IsFit load_setting.vips r) (map (record_at n) (range_with_len a count))
fit n a zero = tt
fit n a (suc count) = ((inl (refl, refl), short (a / n) (10000 + a % n)), fit n (a + 1) count)

pub replayable : (n : ℕ) → n ≤ 20000 → IsReplayable load_setting.vips (load_of n).capture
replayable n few = record {
  few = omega (arith, length-map-range_with_len (record_at n) 0 (4 * n), few);
  rise = rising n 0 (4 * n) 0 _ (omega arith) (omega (arith, few));
  fit = fit n 0 (4 * n);
}

-- one more record, or packet
pub map_more : {X : Type 0} (f : ℕ → X) (k : ℕ) (olds news : List X) (x : X) → news ≡ olds ++ x ∷ []
    → olds ≡ map f (range_with_len 0 k) → x ≡ f k → news ≡ map f (range_with_len 0 (k + 1))
map_more f k olds news x longer old is =
    longer ∙ ap₂ (λ xs y. xs ++ y ∷ []) old is ∙ sym (map-range_with_len_more f 0 k k (omega arith))

each_from : (n a count i : ℕ) (r : Record) → 1 ≤ n → n ≤ 20000
    → slice_get (map (record_at n) (range_with_len a count)) i ≡ Some r
    → IsPacketOf r.body (slice_index_or (map (packet_at n) (range_with_len a count)) i [])
each_from n a zero i r some few is = absurd (cc)
each_from n a (suc count) zero r some few is =
    let below : a % n < n = mod_below a n some in
    subst (λ (x : Record). IsPacketOf x.body (packet_at n a)) (same_Some (record_at n a) r is)
    (reads (a / n) (10000 + a % n) (omega (arith, below, few)))
each_from n a (suc count) (suc i) r some few is = each_from n (a + 1) count i r some few is

are_packets : (n : ℕ) → 1 ≤ n → n ≤ 20000 → ArePackets (load_records n) (load_packets n)
are_packets n some few = record {
  count = length-map-range_with_len (packet_at n) 0 (4 * n) ∙ sym (length-map-range_with_len (record_at n) 0 (4 * n));
  each = λ i r is. each_from n 0 (4 * n) i r some few is;
}

pub packets_of : (n : ℕ) (records : List Record) (packets : List (List ℕ)) → records ≡ load_records n
    → packets ≡ load_packets n → 1 ≤ n → n ≤ 20000 → ArePackets records packets
packets_of n records packets a b some few = rw (a, b) (are_packets n some few)
