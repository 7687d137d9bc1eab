-- Which premise is broken where a packet arrives (docs/DEFINITIONS.md). The premises are checked in
-- one order, and the first broken one is the cause.
use Rattle.std.specs.Prelude.{ℕ, ◌+◌, Bool, true, false, ◌&&◌, ◌||◌, not, ◌==◌, nat_lt, nat_le}
use Rattle.std.specs.Prelude.{if◌then◌else◌, List, [], ◌∷◌, Option, Some, None, is_some}
use Rattle.std.specs.Option.{option_map_or}
use Rattle.bm_base.specs.declared.ids.ServerId.{ServerId}
use Rattle.bm_base.specs.declared.flow.Flow.{Flow}
use Rattle.bm_base.specs.declared.flow.Segment.{Segment}
use Rattle.bm_base.specs.declared.label.Hop.{Hop}
use Rattle.bm_base.specs.declared.label.Label.{Label}
use Rattle.bm_base.specs.Labels.{onward}
use Rattle.bm_core.specs.declared.events.Why.TheVariants.{Full as FullShard, Retired}
use Rattle.bm_core.specs.declared.events.Verdict.{Verdict}
use Rattle.bm_core.specs.declared.events.Verdict.TheVariants.{Process, Reset, Drop}
use Rattle.bm_core.specs.declared.events.Cause.{Cause}
use Rattle.bm_core.specs.declared.events.Cause.TheVariants.{NeverAccepted, NotHeld, StaleMux}
use Rattle.bm_core.specs.declared.events.Cause.TheVariants.{MovedThrice, ChainLate, SynElsewhere}
use Rattle.bm_core.specs.declared.events.Cause.TheVariants.{Full, OldTable}
use Rattle.bm_core.specs.declared.events.What.{What}
use Rattle.bm_core.specs.declared.events.What.TheVariants.{Arrive}
use Rattle.bm_core.specs.declared.events.Event.{Event}
use Rattle.bm_core.specs.declared.events.Stage.{Stage}
use Rattle.bm_table.specs.Tables.{same_server, moves}
use Rattle.bm_base.specs.Segments.{is_opening}
use Rattle.bm_core.specs.Past.{segment_of, is_of, bucket, timeout, newest, label_of, Holding, held}
use Rattle.bm_core.specs.Past.{is_accept, Accepted, owner}

-- the connection that the server holds is the one of this Accept
abbrev pub is_holding : Option Holding → ℕ → Bool
is_holding holding place = option_map_or (λ h. h.place == place) holding false

-- the event is an Accept of the flow at another server, which holds the flow after all these events
abbrev pub accepts_elsewhere : Stage → List Event → What → Flow → ServerId → Bool
accepts_elsewhere stage all (Arrive k hop server verdict) f s =
    is_accept verdict && is_of (segment_of stage k) f && not (same_server server s)
    && is_some (held stage all server f)
accepts_elsewhere stage all _ f s = false

-- another server accepted the flow in the past, and holds it after all these events. Where both
-- lists are the same, this says that another server holds the flow (`laws::elsewhere`)
abbrev pub is_elsewhere : Stage → List Event → List Event → Flow → ServerId → Bool
is_elsewhere stage all [] f s = false
is_elsewhere stage all (e ∷ past) f s =
    accepts_elsewhere stage all e.what f s || is_elsewhere stage all past f s

-- there is a server to which a copy of this hop may be passed on, but the clock is past its stamp
-- by more than the timeout
abbrev pub is_late : Stage → Label → Hop → ℕ → Bool
is_late stage label hop clock =
    option_map_or (λ p. nat_lt (p.stamp.0 + timeout stage) clock) (onward label.entry hop) false

-- The first premise that is broken where a packet arrives that isn't opening. NeverAccepted: its
-- flow had no Accept before its Steer. NotHeld: the owner's server no longer holds that Accept.
-- StaleMux: its label is of an older version than the owner's. MovedThrice: between these two the
-- bucket moved at least three times. ChainLate: it is at another server, and the timeout is over
-- since the bucket left the server that it would go on to. SynElsewhere: another server holds the
-- flow.
abbrev pub first_broken : Stage → List Event → ℕ → Label → Hop → Flow → ServerId → Option Accepted
    → Option Cause
first_broken stage past clock label hop f server None = Some NeverAccepted
first_broken stage past clock label hop f server (Some a) =
    if not (is_holding (held stage past a.server f) a.place) then Some NotHeld
    else if nat_lt label.version.0 a.version then Some StaleMux
    else if nat_le 3 (moves stage.script.plan (bucket stage f) a.version label.version.0) then Some
    MovedThrice
    else if not (same_server server a.server) && is_late stage label hop clock then Some ChainLate
    else if is_elsewhere stage past past f a.server then Some SynElsewhere else None

-- the verdict is Process
abbrev pub is_process : Verdict → Bool
is_process (Process t) = true
is_process _ = false

-- the packet is reset or dropped
abbrev pub is_refusal : Verdict → Bool
is_refusal (Reset why) = true
is_refusal (Drop why) = true
is_refusal _ = false

-- the packet, which isn't opening, is reset or dropped, or it is a stray: processed without an
-- owner, or by a server other than its owner's
abbrev pub is_break : Verdict → Option Accepted → ServerId → Bool
is_break (Process t) a s = not (option_map_or (λ owner. same_server s owner.server) a false)
is_break verdict a s = is_refusal verdict

-- why an opening packet is dropped: the shard is full, or its mux had an old table
abbrev pub opening_cause : Verdict → ℕ → ℕ → Option Cause
opening_cause (Drop FullShard) v newest = Some Full
opening_cause (Drop Retired) v newest = if nat_lt v newest then Some OldTable else None
opening_cause _ v newest = None

-- the cause, from the owner, the segment and the label of the packet
abbrev pub cause_at : Stage → List Event → ℕ → Hop → ServerId → Verdict → Option Accepted
    → Option Segment → Option Label → Option Cause
cause_at stage past clock hop server verdict a (Some s) (Some label) =
    if is_opening s then opening_cause verdict label.version.0 (newest past)
    else if is_break verdict a server then first_broken stage past clock label hop s.flow server a
    else None
cause_at stage past clock hop server verdict a _ _ = None

-- the packet's line names a cause: an opening packet is reset or dropped; for others see `is_break`
abbrev pub wants_cause : Verdict → Option Accepted → ServerId → Option Segment → Bool
wants_cause verdict a server None = false
wants_cause v a server (Some s) = if is_opening s then is_refusal v else is_break v a server

-- why the packet that arrives is dropped, reset or processed elsewhere
abbrev pub cause : Stage → List Event → ℕ → What → Option Cause
cause stage past clock (Arrive k hop server verdict) =
    cause_at stage past clock hop server verdict (owner stage past k) (segment_of stage k)
    (label_of stage past k)
cause stage past clock _ = None
