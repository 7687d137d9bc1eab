use Rattle.std.proofs.Common.{◌≡◌, ◌+◌, ◌≤◌, ◌++◌, ◌∷◌, [], List, ℕ, length, None}
use Rattle.std.specs.List.{AllByRecursion}
use Rattle.bm_base.specs.Captures.{AreRising, IsFit}
use Rattle.bm_link.specs.Fits.{ArePackets}
use Rattle.bm_pcap.specs.Limits.{latest, most_octets, most_records}
use Rattle.bm_pcap.proofs.Rising.{moments}
use Rattle.bm_pcapng.specs.Began.{first_time}
use Rattle.bm_pcapng.specs.Capture.{capture, first_order}
use Rattle.bm_pcapng.specs.Reader.{StandsIn, to_come}
use Rattle.bm_pcapng.proofs.Began.{BeganAt}
use Rattle.bm_pcapng.proofs.Loop.{SoFar}
use Rattle.bm_pcapng.proofs.reader.read_ng.Given as goal

abbrev pub invariant-loop-packets : goal.invariant-loop-packets
invariant-loop-packets g l = record {
  so_far : (octets : List ℕ) → StandsIn (to_come g.S.Source.left l.fn.r) l.fn.r.order octets
      → SoFar (to_come g.S.Source.left l.r) l.r.order l.r.interfaces l.vips (capture l.vips octets) l.r.place
      l.records.items l.packets;
  began : (octets : List ℕ) → StandsIn (to_come g.S.Source.left l.fn.r) l.fn.r.order octets
      → BeganAt (to_come g.S.Source.left l.r) l.r.order l.r.interfaces l.r.place
      (first_time octets (first_order octets));
  count : length l.packets + 1 ≡ l.r.place.number;
  few : l.r.place.number ≤ most_records + 1;
  room : l.r.place.block + l.r.place.room ≤ most_octets + 1;
  packed : ArePackets l.records.items l.packets;
  rise : (m : ℕ) → l.r.place.last.0 ≤ m → m ≤ latest → AreRising 0 latest (moments l.records.items ++ m ∷ []);
  early : l.r.place.last.0 ≤ latest;
  fit : AllByRecursion (λ r. IsFit l.vips r) l.records.items;
  fresh : l.r.ended ≡ None;
  kept : g.S.Source.faults l.r.source ≡ g.S.Source.faults l.fn.r.source;
}

abbrev pub decreases-loop-packets : goal.decreases-loop-packets
decreases-loop-packets g l = l.r.place.room
