-- What a call does at a shard, and what the shard replies, by what it knows of each flow.
use Rattle.std.specs.Prelude.{ℕ, Bool, List, Option, None, is_some}
use Rattle.bm_base.specs.declared.flow.Flow.{Flow}
use Rattle.bm_base.specs.declared.flow.Segment.{Segment}
use Rattle.bm_base.specs.declared.ids.Moment.{Moment}
use Rattle.bm_base.specs.declared.label.Tag.{Tag}
use Rattle.bm_core.specs.declared.events.Local.{Local}
use Rattle.bm_core.specs.declared.events.Verdict.{Verdict}
use Rattle.bm_core.specs.declared.events.Verdict.TheVariants.{Reset}
use Rattle.bm_core.specs.declared.events.What.{What}
use Rattle.bm_core.specs.declared.events.What.TheVariants.{Arrive as Arrives, Close as Closes}
use Rattle.bm_core.specs.declared.events.What.TheVariants.{Retire as Retires}
use Rattle.bm_core.specs.Books.{Turn, Took, Closed as TurnClosed, RetiredAs}
use Rattle.bm_core.specs.Verdicts.{verdict_on}
use Rattle.bm_tcp.specs.Resets.{reset_packet}
use Rattle.bm_shard.specs.declared.book.Shard.{Shard}
use Rattle.bm_shard.specs.declared.calls.ShardCall.{ShardCall}
use Rattle.bm_shard.specs.declared.calls.ShardCall.TheVariants.{Arrive, Close, Retire}
use Rattle.bm_shard.specs.declared.calls.ShardReply.{ShardReply}
use Rattle.bm_shard.specs.declared.calls.ShardReply.TheVariants.{Arrived, Closed, Retired}

-- the verdict on a segment with this tag
abbrev pub verdict_by : Shard → (Flow → Local) → Moment → Tag → Segment → Verdict
verdict_by shard knows clock tag segment =
    verdict_on (knows segment.flow) shard.timeout clock.0 tag segment

-- the flow is held
abbrev pub is_held_by : (Flow → Local) → Flow → Bool
is_held_by knows flow = is_some (knows flow).held

-- the packet that answers a segment: a reset, if that is the verdict
abbrev pub answer_for : Verdict → Segment → Option (List ℕ)
answer_for (Reset why) segment = reset_packet segment
answer_for _ segment = None

-- what happens at the call
abbrev pub what_of : Shard → (Flow → Local) → Moment → ShardCall → What
what_of shard knows clock (Arrive packet tag segment due) =
    Arrives packet tag.hop shard.server (verdict_by shard knows clock tag segment)
what_of shard knows clock (Close flow at) = Closes shard.server flow (is_held_by knows flow)
what_of shard knows clock (Retire at result) = Retires shard.server shard.number at result

-- the reply to the call
abbrev pub reply_of : Shard → (Flow → Local) → Moment → ShardCall → ShardReply
reply_of shard knows clock (Arrive packet tag segment due) =
    Arrived clock (verdict_by shard knows clock tag segment)
    (answer_for (verdict_by shard knows clock tag segment) segment)
reply_of shard knows clock (Close flow at) = Closed clock (is_held_by knows flow)
reply_of shard knows clock (Retire at result) = Retired clock

-- the call's turn
abbrev pub turn_of : Shard → (Flow → Local) → Moment → ShardCall → Turn
turn_of shard knows clock (Arrive packet tag segment due) =
    Took segment (verdict_by shard knows clock tag segment)
turn_of shard knows clock (Close flow at) = TurnClosed flow (is_held_by knows flow)
turn_of shard knows clock (Retire at result) = RetiredAs result
