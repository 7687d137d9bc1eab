-- How long a packet arrives after its bucket's move: since the bucket left the server to which the
-- copy may be passed on. This is computed by looking back through events (docs/DEFINITIONS.md). A
-- past has its newest event first.
use Rattle.std.specs.Prelude.{ℕ, ◌-◌, List, Option, Some, None}
use Rattle.std.specs.Option.{option_map_or}
use Rattle.bm_base.specs.Labels.{onward}
use Rattle.bm_base.specs.declared.label.Hop.{Hop}
use Rattle.bm_base.specs.declared.label.Label.{Label}
use Rattle.bm_core.specs.declared.events.Event.{Event}
use Rattle.bm_core.specs.declared.events.Stage.{Stage}
use Rattle.bm_core.specs.declared.events.What.{What}
use Rattle.bm_core.specs.declared.events.What.TheVariants.{Arrive}
use Rattle.bm_core.specs.Past.{label_of}

-- the stamp of the server to which a copy of this hop may be passed on by its label, or 0
abbrev pub stamp_of : Hop → Option Label → ℕ
stamp_of hop None = 0
stamp_of hop (Some l) = option_map_or (λ p. p.stamp.0) (onward l.entry hop) 0

-- how long after that move a copy of packet k comes at this clock; the clock itself if there is no
-- such server
abbrev pub wait : Stage → List Event → ℕ → Hop → ℕ → ℕ
wait stage past clock hop k = clock - stamp_of hop (label_of stage past k)

-- the same for the packet of an arrival; 0 for any other event
abbrev pub wait_of : Stage → List Event → ℕ → What → ℕ
wait_of stage past clock (Arrive k hop server verdict) = wait stage past clock hop k
wait_of stage past clock _ = 0
