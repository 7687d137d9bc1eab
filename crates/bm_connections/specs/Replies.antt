-- What servers replied to the commands `close` and `retire` (docs/DEFINITIONS.md). A past has its
-- newest event first.
use Rattle.std.specs.Prelude.{Bool, true, false, if◌then◌else◌, List, [], ◌∷◌, ◌++◌, reverse}
use Rattle.bm_core.specs.declared.events.Event.{Event}
use Rattle.bm_core.specs.declared.events.History.{History}
use Rattle.bm_core.specs.declared.events.What.{What}
use Rattle.bm_core.specs.declared.events.What.TheVariants.{Close, Retire}

-- the event is a reply
abbrev pub is_reply : What → Bool
is_reply (Close server flow closed) = true
is_reply (Retire server shard at result) = true
is_reply _ = false

-- the replies among these events, the oldest first
abbrev pub replies_in : List Event → List Event
replies_in [] = []
replies_in (e ∷ past) =
    if is_reply e.what then replies_in past ++ e ∷ [] else replies_in past

-- those of a history
abbrev pub replies : History → List Event
replies h = replies_in (reverse h.events)
