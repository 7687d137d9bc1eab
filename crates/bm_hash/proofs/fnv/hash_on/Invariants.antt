use Rattle.std.proofs.Common.{◌≡◌, take}
use Rattle.std.specs.List.{fold}
use Rattle.bm_hash.specs.Buckets.{fnv_step}
use Rattle.bm_hash.proofs.fnv.hash_on.Given as goal

abbrev pub invariant-loop-octet : goal.invariant-loop-octet
invariant-loop-octet l = l.hash ≡ fold fnv_step l.fn.h (take l.octet-index l.octets)
