-- The cause of the event at a place of a history.
use Rattle.std.specs.Prelude.{ℕ, Bool, false, List, Option, Some, None}
use Rattle.bm_core.specs.declared.events.Cause.{Cause}
use Rattle.bm_core.specs.declared.events.Event.{Event}
use Rattle.bm_core.specs.declared.events.History.{History}
use Rattle.bm_core.specs.declared.events.Stage.{Stage}
use Rattle.bm_core.specs.declared.events.What.{What}
use Rattle.bm_core.specs.declared.events.What.TheVariants.{Arrive}
use Rattle.bm_core.specs.Causes.{cause, wants_cause}
use Rattle.bm_core.specs.Past.{owner, segment_of}
use Rattle.bm_core.specs.Runs.{event_at, past_at}

abbrev pub cause_after : Stage → List Event → Option Event → Option Cause
cause_after stage past None = None
cause_after stage past (Some e) = cause stage past e.clock.0 e.what

-- why the event is a drop, a reset or a stray, if it is one
abbrev pub cause_of : History → ℕ → Option Cause
cause_of h place = cause_after h.stage (past_at h place) (event_at h place)

-- a packet is dropped, reset or processed elsewhere
abbrev pub is_break : Stage → List Event → What → Bool
is_break stage past (Arrive packet hop server verdict) =
    wants_cause verdict (owner stage past packet) server (segment_of stage packet)
is_break stage past _ = false

abbrev pub is_break_after : Stage → List Event → Option Event → Bool
is_break_after stage past None = false
is_break_after stage past (Some e) = is_break stage past e.what

-- the event is a drop, a reset or a stray
abbrev pub is_break_at : History → ℕ → Bool
is_break_at h place = is_break_after h.stage (past_at h place) (event_at h place)
