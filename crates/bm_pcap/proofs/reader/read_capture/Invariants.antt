use Rattle.std.proofs.Common.{◌≡◌, ◌+◌, ◌-◌, ◌≤◌, ◌++◌, ◌∷◌, [], List, ℕ, length, None, unwrap_or}
use Rattle.std.specs.List.{AllByRecursion}
use Rattle.bm_base.specs.Captures.{AreRising, IsFit}
use Rattle.bm_link.specs.Fits.{ArePackets}
use Rattle.bm_pcap.specs.Limits.{latest, most_records}
use Rattle.bm_pcap.proofs.Rising.{moments}
use Rattle.bm_pcap.specs.Began.{began}
use Rattle.bm_pcap.specs.Capture.{capture}
use Rattle.bm_pcap.specs.Reader.{StandsIn, to_come}
use Rattle.bm_pcap.proofs.Began.{BeganAt}
use Rattle.bm_pcap.proofs.Loop.{SoFar}
use Rattle.bm_pcap.proofs.reader.read_capture.Given as goal

abbrev pub invariant-loop-packets : goal.invariant-loop-packets
invariant-loop-packets g l = record {
  so_far : (octets : List ℕ) → StandsIn (g.S.Source.left l.fn.r.source) l.fn.r.form octets
      → SoFar (to_come g.S.Source.left l.r) l.r.form l.vips (capture l.vips octets) l.r.place l.records.items l.packets;
  began : (octets : List ℕ) → StandsIn (g.S.Source.left l.fn.r.source) l.fn.r.form octets
      → BeganAt (to_come g.S.Source.left l.r) l.r.form l.r.place (began octets);
  soon : unwrap_or l.r.place.first 0 ≤ latest;
  count : length l.packets + 1 ≡ l.r.place.number;
  few : l.r.place.number ≤ most_records + 1;
  form : l.r.form ≡ l.fn.r.form;
  packed : ArePackets l.records.items l.packets;
  rise : (m : ℕ) → l.r.place.last.0 ≤ m → m ≤ latest → AreRising 0 latest (moments l.records.items ++ m ∷ []);
  early : l.r.place.last.0 ≤ latest;
  fit : AllByRecursion (λ r. IsFit l.vips r) l.records.items;
  fresh : l.r.ended ≡ None;
  kept : g.S.Source.faults l.r.source ≡ g.S.Source.faults l.fn.r.source;
}

abbrev pub decreases-loop-packets : goal.decreases-loop-packets
decreases-loop-packets g l = most_records + 1 - l.r.place.number
