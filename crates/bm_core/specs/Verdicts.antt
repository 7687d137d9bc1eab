-- What a server does with a copy of a packet (Olteanu et al., NSDI 2018, daisy chaining;
-- docs/DEFINITIONS.md): the first row of a table that applies.
use Rattle.std.specs.Prelude.{ℕ, ◌+◌, Bool, false, ◌&&◌, not, ◌==◌, nat_le, if◌then◌else◌, List}
use Rattle.std.specs.Prelude.{Option, Some, None, is_none, option_map}
use Rattle.std.specs.Option.{option_map_or}
use Rattle.bm_base.specs.declared.ids.ServerId.{ServerId}
use Rattle.bm_base.specs.declared.flow.Flow.{Flow}
use Rattle.bm_base.specs.declared.flow.Segment.{Segment}
use Rattle.bm_seq.specs.declared.receiver.Receiver.{Receiver}
use Rattle.bm_base.specs.declared.label.Label.{Label}
use Rattle.bm_base.specs.declared.label.Past.{Past}
use Rattle.bm_base.specs.declared.label.Tag.{Tag}
use Rattle.bm_base.specs.declared.label.Hop.{Hop}
use Rattle.bm_core.specs.declared.events.Why.TheVariants.{NoPrevious, ChainExpired, ChainedUnknown}
use Rattle.bm_core.specs.declared.events.Why.TheVariants.{Silent, Full, Retired}
use Rattle.bm_core.specs.declared.events.Verdict.{Verdict}
use Rattle.bm_core.specs.declared.events.Verdict.TheVariants.{Accept, Process, Forward, Reset, Drop}
use Rattle.bm_core.specs.declared.events.Local.{Local}
use Rattle.bm_core.specs.declared.events.Event.{Event}
use Rattle.bm_core.specs.declared.events.Stage.{Stage}
pub use Rattle.bm_base.specs.Labels.{onward, entry_of}
use Rattle.bm_base.specs.Segments.{is_opening, has_flag, RST}
use Rattle.bm_seq.specs.Receivers.{taken}
use Rattle.bm_core.specs.Past.{Holding, held, retired, is_full, is_direct, shard, timeout}

-- the held connection has finished, and a direct opening segment begins another
abbrev pub replaces : Option Receiver → Hop → Segment → Bool
replaces None hop s = false
replaces (Some r) hop s = r.finished && is_direct hop && is_opening s && not (s.seq == r.start)

-- the server to which the copy may be passed on, while the bucket's move is recent
abbrev pub in_time : ℕ → ℕ → Option Past → Option ServerId
in_time timeout clock None = None
in_time timeout clock (Some p) = if nat_le clock (p.stamp.0 + timeout) then Some p.server else None

-- the verdict on a segment: the first row that applies. `option_map_or f x rest` is the row where x
-- is `Some`; `rest` are the rows where it is `None`
abbrev pub verdict_of : Local → ℕ → ℕ → Hop → Option Past → Segment → Verdict
verdict_of local timeout clock hop onto s =
    if local.retired then Drop Retired
    else if replaces local.held hop s then Accept
    else option_map_or (λ r. Process (taken r s)) local.held
    (if is_direct hop && is_opening s && local.full then Drop Full
    else if is_direct hop && is_opening s then Accept
    else option_map_or (λ server. Forward server) (in_time timeout clock onto)
    (if has_flag RST s then Drop Silent
    else if is_direct hop && is_none onto then Reset NoPrevious
    else if is_none onto then Reset ChainedUnknown
    else Reset ChainExpired))

-- the verdict on a segment that carries this tag
abbrev pub verdict_on : Local → ℕ → ℕ → Tag → Segment → Verdict
verdict_on local timeout clock t s =
    verdict_of local timeout clock t.hop (onward (entry_of t) t.hop) s

-- the receiver of a holding
abbrev pub receiver_of : Option Holding → Option Receiver
receiver_of holding = option_map (λ h. h.receiver) holding

-- what the server's shard knows of the flow after these events
abbrev pub local_at : Stage → List Event → ServerId → Flow → Local
local_at stage past s f = record {
  retired = retired past s (shard stage f);
  held = receiver_of (held stage past s f);
  full = is_full stage past s (shard stage f);
}

-- the verdict on a packet that arrives after these events
abbrev pub verdict_at : Stage → List Event → ℕ → Label → Hop → ServerId → Segment → Verdict
verdict_at stage past clock label hop server s =
    verdict_of (local_at stage past server s.flow) (timeout stage) clock hop
    (onward label.entry hop) s
