use Rattle.std.proofs.Common.{◌≡◌, ◌≤◌, take}
use Rattle.bm_check.specs.Inside.Comparing.{feeds}
use Rattle.bm_check.proofs.compare.line_feeds.Given as goal

abbrev pub invariant-loop-octet : goal.invariant-loop-octet
invariant-loop-octet l = (l.count ≡ feeds (take l.octet-index l.text)) × (l.count ≤ l.octet-index)
