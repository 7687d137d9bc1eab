-- What the octets of a packet under way carry, and where they go next.
use Rattle.std.specs.Prelude.{ℕ, List, Option}
use Rattle.std.specs.Result.{result_ok}
use Rattle.bm_base.specs.declared.flow.Segment.{Segment}
use Rattle.bm_base.specs.declared.ids.ServerId.{ServerId}
use Rattle.bm_base.specs.declared.label.Tag.{Tag}
use Rattle.bm_encap.specs.Faults.{next_in}
use Rattle.bm_shard.specs.Copies.{copy_in}

-- what a server reads of the octets, if they are a copy for it
abbrev pub carried : ServerId → List ℕ → Option (Tag × Segment)
carried server octets = result_ok (copy_in server octets)

-- the tag of the next hop, if there is one
abbrev pub next_tag : List ℕ → Option Tag
next_tag octets = result_ok (next_in octets)
