-- The turns of one shard, and what they leave in it (docs/DEFINITIONS.md). A book has its newest
-- turn first.
use Rattle.std.specs.Prelude.{◌≡◌, ℕ, Bool, false, ◌&&◌, ◌||◌, ◌==◌, if◌then◌else◌, List, [], ◌∷◌}
use Rattle.std.specs.Prelude.{length, Option, Some, None, option_map}
use Rattle.bm_base.specs.declared.ids.ServerId.{ServerId}
use Rattle.bm_base.specs.declared.flow.Flow.{Flow}
use Rattle.bm_base.specs.declared.flow.Segment.{Segment}
use Rattle.bm_seq.specs.declared.receiver.Receiver.{Receiver}
use Rattle.bm_base.specs.declared.receive.Taken.{Taken}
use Rattle.bm_base.specs.declared.receive.Taken.TheVariants.{Ended}
use Rattle.bm_table.specs.declared.plan.Retirement.{Retirement}
use Rattle.bm_core.specs.declared.events.Verdict.{Verdict}
use Rattle.bm_core.specs.declared.events.Verdict.TheVariants.{Accept, Process}
use Rattle.bm_core.specs.declared.events.Local.{Local}
use Rattle.bm_core.specs.declared.events.What.{What}
use Rattle.bm_core.specs.declared.events.What.TheVariants.{Arrive, Close, Retire}
use Rattle.bm_core.specs.declared.events.Event.{Event}
use Rattle.bm_core.specs.declared.events.Stage.{Stage}
use Rattle.bm_table.specs.Tables.{same_server}
use Rattle.bm_base.specs.Segments.{same_flow}
use Rattle.bm_seq.specs.Receivers.{opened, receiver_after}
use Rattle.bm_core.specs.Past.{segment_of, shard, is_done, is_accept, ends, without}

-- what a shard was asked, and what it answered
pub data Turn : Type 0 where
  Took : Segment → Verdict → Turn
  Closed : Flow → Bool → Turn
  RetiredAs : Retirement → Turn

-- the receiver of a flow after a segment of it was processed
abbrev pub held_by_process : Taken → Segment → Option Receiver → Option Receiver
held_by_process Ended s before = None
held_by_process _ s before = option_map (λ r. receiver_after r s) before

-- the receiver of a flow after a segment of it had this verdict
abbrev pub held_by_verdict : Verdict → Segment → Option Receiver → Option Receiver
held_by_verdict Accept s before = Some (opened s)
held_by_verdict (Process t) s before = held_by_process t s before
held_by_verdict _ s before = before

-- the receiver of a flow after a turn
abbrev pub turn_held : Turn → Flow → Option Receiver → Option Receiver
turn_held (Took s verdict) f before =
    if same_flow s.flow f then held_by_verdict verdict s before else before
turn_held (Closed flow closed) f before = if same_flow flow f && closed then None else before
turn_held (RetiredAs result) f before = if is_done result then None else before

-- the receiver of a flow after these turns
abbrev pub book_held : List Turn → Flow → Option Receiver
book_held [] f = None
book_held (t ∷ book) f = turn_held t f (book_held book f)

-- the turn retires the shard
abbrev pub turn_retires : Turn → Bool
turn_retires (RetiredAs result) = is_done result
turn_retires _ = false

-- the shard is retired
abbrev pub book_retired : List Turn → Bool
book_retired [] = false
book_retired (t ∷ book) = turn_retires t || book_retired book

-- the flows that the shard holds after a turn
abbrev pub turn_flows : Turn → List Flow → List Flow
turn_flows (Took s verdict) flows =
    if is_accept verdict then s.flow ∷ without s.flow flows
    else if ends verdict then without s.flow flows else flows
turn_flows (Closed flow closed) flows = if closed then without flow flows else flows
turn_flows (RetiredAs result) flows = if is_done result then [] else flows

-- the flows that the shard holds
abbrev pub book_flows : List Turn → List Flow
book_flows [] = []
book_flows (t ∷ book) = turn_flows t (book_flows book)

-- what the shard knows of a flow after these turns
abbrev pub book_local : ℕ → List Turn → Flow → Local
book_local capacity book f =
    record {
      retired = book_retired book;
      held = book_held book f;
      full =
          length (book_flows book) == capacity;
    }

-- THE BOOK OF A SHARD IN A HISTORY

-- the turn of an arrival, if it is at the shard
abbrev pub took : Stage → Bool → ℕ → Verdict → Option Segment → Option Turn
took stage here h verdict None = None
took stage here h verdict (Some s) =
    if here && shard stage s.flow == h then Some (Took s verdict) else None

-- the turn of an event, if it is one of the server's shard
abbrev pub turn_of : Stage → What → ServerId → ℕ → Option Turn
turn_of stage (Arrive k hop server verdict) s h =
    took stage (same_server server s) h verdict (segment_of stage k)
turn_of stage (Close server flow closed) s h =
    if same_server server s && shard stage flow == h then Some (Closed flow closed) else None
turn_of stage (Retire server x at result) s h =
    if same_server server s && x == h then Some (RetiredAs result) else None
turn_of stage _ s h = None

-- the book with the turn, if there is one
abbrev pub add_turn : Option Turn → List Turn → List Turn
add_turn None book = book
add_turn (Some t) book = t ∷ book

-- the turns of a shard among these events
abbrev pub book_of : Stage → List Event → ServerId → ℕ → List Turn
book_of stage [] s h = []
book_of stage (e ∷ past) s h = add_turn (turn_of stage e.what s h) (book_of stage past s h)

-- the flow is in the list
abbrev pub is_listed : List Flow → Flow → Bool
is_listed [] f = false
is_listed (g ∷ flows) f = same_flow g f || is_listed flows f

-- no flow is twice in the list
abbrev pub AreDistinct : List Flow → Type 0
AreDistinct [] = Unit {0}
AreDistinct (f ∷ flows) = (is_listed flows f ≡ false) × AreDistinct flows
