use Rattle.std.proofs.Common.{◌≡◌, ◌*◌, ◌≤◌, length, map}
use Rattle.std.specs.List.{AllByRecursion}
use Rattle.bm_base.specs.Captures.{AreRising, IsFit}
use Rattle.bm_link.specs.Fits.{ArePackets}
use Rattle.bm_table.specs.Settings.{plain_setting}
use Rattle.bm_replay_tests.proofs.stages.capture.Given as goal

abbrev pub invariant-loop-i : goal.invariant-loop-i
invariant-loop-i l =
    (length l.records.items ≡ l.i)
    × (l.next ≤ 100_000_000_000 * l.i)
    × AreRising 0 l.next (map (λ r. r.moment.0) l.records.items)
    × AllByRecursion (λ r. IsFit plain_setting.vips r) l.records.items
    × ArePackets l.records.items l.packets
