-- Records that are read one after the other can be replayed.
use Rattle.std.proofs.Common.{◌≡◌, ℕ, ◌+◌, ◌≤◌, List, [], ◌∷◌, ◌++◌, map, length, Option, arith}
use Rattle.std.specs.List.{AllByRecursion}
use Rattle.std.proofs.lemmas.List.{map-append}
use Rattle.bm_base.specs.declared.capture.Record.{Record}
use Rattle.bm_base.specs.declared.capture.Vip.{Vip}
use Rattle.bm_base.specs.Captures.{AreRising, IsFit, IsReplayable}
use Rattle.bm_link.specs.Fits.{ArePackets}
use Rattle.bm_pcap.specs.declared.place.Place.{Place}
use Rattle.bm_pcap.specs.Limits.{latest, most_records}
use Rattle.bm_pcap.specs.Records.{moment_at}

abbrev pub moments : List Record → List ℕ
moments records = map (λ r. r.moment.0) records

-- the moments before the last rise too
pub rising_front : (low high m : ℕ) (xs : List ℕ) → AreRising low high (xs ++ m ∷ []) → AreRising low high xs
rising_front low high m [] rise = tt
rising_front low high m (x ∷ xs) rise = (rise.0, rise.1, rising_front x high m xs rise.2)

rising_on : (low high m n : ℕ) (xs : List ℕ) → m ≤ n → n ≤ high → AreRising low high (xs ++ m ∷ [])
    → AreRising low high ((xs ++ m ∷ []) ++ n ∷ [])
rising_on low high m n [] later few rise = (rise.0, rise.1, (later, few, tt))
rising_on low high m n (x ∷ xs) later few rise = (rise.0, rise.1, rising_on x high m n xs later few rise.2)

-- one more record, and then a moment that is no earlier
pub rising_more : (low high n : ℕ) (records : List Record) (r : Record) → r.moment.0 ≤ n → n ≤ high
    → AreRising low high (moments records ++ r.moment.0 ∷ [])
    → AreRising low high (moments (records ++ r ∷ []) ++ n ∷ [])
rising_more low high n records r later few rise =
    rw (map-append (λ (x : Record). x.moment.0) records (r ∷ []))
    (rising_on low high r.moment.0 n (moments records) later few rise)

pub fit_more : (vips : List Vip) (records : List Record) (r : Record) → AllByRecursion (λ x. IsFit vips x) records
    → IsFit vips r → AllByRecursion (λ x. IsFit vips x) (records ++ r ∷ [])
fit_more vips [] r all one = (one, tt)
fit_more vips (x ∷ records) r all one = (all.0, fit_more vips records r all.1 one)

pub moment_early : (place : Place) (time : ℕ) → place.last.0 ≤ latest → time ≤ latest
    → (moment_at place time).0 ≤ latest
moment_early place time early few = omega (arith, early, few)

pub moment_late : (place : Place) (time : ℕ) → place.last.0 ≤ (moment_at place time).0
moment_late place time = omega arith

-- what was read so far can be replayed
pub replayable_so_far : (vips : List Vip) (records : List Record) (cut : Option ℕ) (packets : List (List ℕ))
    (number last : ℕ) → length packets + 1 ≡ number → number ≤ most_records + 1 → ArePackets records packets
    → last ≤ latest → ((m : ℕ) → last ≤ m → m ≤ latest → AreRising 0 latest (moments records ++ m ∷ []))
    → AllByRecursion (λ r. IsFit vips r) records → IsReplayable vips (record { records = records; cut = cut })
replayable_so_far vips records cut packets number last count few packed early rise fit = record {
  few = omega (arith, count, few, packed.count);
  rise = rising_front 0 latest latest (moments records) (rise latest early (omega arith));
  fit = fit;
}
