-- The logs of a threaded run, what they merge into, when they agree, and how their clocks are
-- bounded (docs/DEFINITIONS.md). A log is what one actor recorded: the controller, a mux, or a
-- shard of a server. It has its newest event first.
use Rattle.std.specs.Prelude.{◌≡◌, ◌≤◌, ◌<◌, ◌+◌, ◌*◌, ◌^◌, ◌⊎◌, ℕ, suc, Bool, true, false}
use Rattle.std.specs.Prelude.{◌&&◌, ◌||◌, ◌==◌}
use Rattle.std.specs.Prelude.{nat_le, nat_lt, if◌then◌else◌, List, [], ◌∷◌, ◌++◌, length, reverse}
use Rattle.std.specs.Prelude.{Some, is_some, IfSome}
use Rattle.std.specs.List.{AllByRecursion}
use Rattle.bm_base.specs.declared.ids.ServerId.{ServerId}
use Rattle.bm_base.specs.declared.flow.Flow.{Flow}
use Rattle.bm_base.specs.declared.flow.Segment.{Segment}
use Rattle.bm_base.specs.declared.label.Hop.{Hop}
use Rattle.bm_base.specs.declared.label.Label.{Label}
use Rattle.bm_base.specs.Labels.{arrives_at}
use Rattle.bm_table.specs.Tables.{IsRetirement}
use Rattle.bm_core.specs.declared.events.Local.{Local}
use Rattle.bm_core.specs.declared.events.Verdict.{Verdict}
use Rattle.bm_core.specs.declared.events.What.{What}
use Rattle.bm_core.specs.declared.events.What.TheVariants.{Publish, Switch, Steer, Lose, Arrive}
use Rattle.bm_core.specs.declared.events.What.TheVariants.{Close, Retire}
use Rattle.bm_core.specs.declared.events.Event.{Event}
use Rattle.bm_core.specs.declared.events.Stage.{Stage}
use Rattle.bm_core.specs.Past.{segment_of, shard, timeout, newest, label_of, sends}
use Rattle.bm_core.specs.Verdicts.{onward, verdict_of}
use Rattle.bm_core.specs.Stages.{IsSound}
use Rattle.bm_core.specs.Books.{book_held, book_local, book_of}
use Rattle.bm_core.specs.Accounts.{count_of, steers_packet}
use Rattle.bm_core.specs.Threads.{is_publish_of}
pub use Rattle.bm_core.specs.Runs.{AtEach}
use Rattle.bm_core.specs.Runs.{Actor, same_actor, actor_of, is_by, own_clock, next_clock}
use Rattle.bm_core.specs.Runs.Actor.{Controller, MuxOf, ShardOf}

-- what one actor recorded
pub record Log : Type 0 where
  pub actor : Actor
  pub events : List Event

-- MERGED ORDER: by clock, and at one clock in the order of the logs

-- all events of the logs: the last log's first, each log's newest first
abbrev pub gathered : List Log → List Event
gathered [] = []
gathered (l ∷ logs) = gathered logs ++ l.events

-- the event put in its place by clock, newer than those of its clock
abbrev pub place_in : Event → List Event → List Event
place_in e [] = e ∷ []
place_in e (x ∷ past) = if nat_le x.clock.0 e.clock.0 then e ∷ x ∷ past else x ∷ place_in e past

-- the events by clock; those of one clock keep their order
abbrev pub by_clock : List Event → List Event
by_clock [] = []
by_clock (e ∷ events) = place_in e (by_clock events)

-- the past into which the logs merge
abbrev pub merged : List Log → List Event
merged logs = by_clock (gathered logs)

-- the events of logs that have the oldest event first, log by log
abbrev pub joined : List (List Event) → List Event
joined [] = []
joined (x ∷ logs) = x ++ joined logs

-- these are the logs of those actors, with the oldest event first
abbrev pub AreLogs : List Log → List (List Event) → Type 0
AreLogs [] [] = Unit {0}
AreLogs (l ∷ named) (x ∷ logs) = (l.events ≡ reverse x) × AreLogs named logs
AreLogs _ _ = ⊥

-- TERMS FOR LOGS

-- one of the events passes the test
abbrev pub some_event : (Event → Bool) → List Event → Bool
some_event test [] = false
some_event test (e ∷ events) = test e || some_event test events

-- the log of that actor
abbrev pub named : List Log → Actor → List Event
named [] a = []
named (l ∷ logs) a = if same_actor l.actor a then l.events else named logs a

-- that actor has a log
abbrev pub has_actor : List Log → Actor → Bool
has_actor [] a = false
has_actor (l ∷ logs) a = same_actor l.actor a || has_actor logs a

-- the packet's label, read in the log of the mux that it names
abbrev pub HasLabel : Stage → List Log → ℕ → Label → Type 0
HasLabel stage logs k label = label_of stage (named logs (MuxOf label.mux.0)) k ≡ Some label

-- the newest version that a log publishes up to this clock
abbrev pub newest_until : ℕ → List Event → ℕ
newest_until clock [] = 0
newest_until clock (e ∷ past) =
    if nat_le e.clock.0 clock then newest (e ∷ past) else newest_until clock past

-- the newest version that the controller publishes up to this clock
abbrev pub published_until : List Log → ℕ → ℕ
published_until logs clock = newest_until clock (named logs Controller)

-- what the server's shard knows of the flow after these events of its log
abbrev pub local_after : Stage → List Event → ServerId → Flow → Local
local_after stage rest server f =
    book_local stage.script.setting.capacity (book_of stage rest server (shard stage f)) f

-- the verdict that the server's shard gives after these events of its log
abbrev pub verdict_after : Stage → List Event → ServerId → ℕ → Label → Hop → Segment → Verdict
verdict_after stage rest server clock label hop s =
    verdict_of (local_after stage rest server s.flow) (timeout stage) clock hop
    (onward label.entry hop) s

-- AGREEMENT

-- the controller's log comes first
abbrev pub BeginWithController : List Log → Type 0
BeginWithController [] = Unit {0}
BeginWithController (l ∷ logs) = l.actor ≡ Controller

-- no actor has two logs
abbrev pub HaveOwnLogs : List Log → Type 0
HaveOwnLogs [] = Unit {0}
HaveOwnLogs (l ∷ logs) = (has_actor logs l.actor ≡ false) × HaveOwnLogs logs

-- the actor is a mux
abbrev pub is_mux : Actor → Bool
is_mux Controller = false
is_mux (MuxOf m) = true
is_mux (ShardOf s h) = false

-- the log in which an event is: its actor's, or for a Lose, which has no actor, a mux's
abbrev pub stands_in : Stage → What → Actor → Bool
stands_in stage (Lose k hop) a = is_mux a
stands_in stage what a = is_by (actor_of stage what) a

-- after the rest of its log, a Publish is of the next version, which the plan has
abbrev pub IsNextVersion : Stage → List Event → What → Type 0
IsNextVersion stage rest (Publish v) =
    (v.0 ≡ suc (newest rest)) × (v.0 ≤ length stage.script.plan.changes)
IsNextVersion stage rest _ = Unit {0}

-- a Switch or a Steer is of a mux that exists
abbrev pub IsOfMux : Stage → What → Type 0
IsOfMux stage (Switch m v) = m.0 < stage.script.setting.muxes
IsOfMux stage (Steer k m) = m.0 < stage.script.setting.muxes
IsOfMux stage _ = Unit {0}

-- a Switch is to version 0, or to one that was published at a lower clock
abbrev pub IsPublishedBefore : List Log → ℕ → What → Type 0
IsPublishedBefore logs clock (Switch m v) =
    (v.0 ≡ 0)
    ⊎ (some_event (λ e. is_publish_of e.what v.0 && nat_lt e.clock.0 clock) (gathered logs)
    ≡ true)
IsPublishedBefore logs clock _ = Unit {0}

-- a Steer is of a steerable record
abbrev pub IsOfRecord : Stage → What → Type 0
IsOfRecord stage (Steer k m) = is_some (segment_of stage k) ≡ true
IsOfRecord stage _ = Unit {0}

-- an Arrive has its sending at a lower clock; a Lose has one at the clock before its own
abbrev pub IsSentBefore : List Log → ℕ → What → Type 0
IsSentBefore logs clock (Arrive k hop server verdict) =
    some_event (λ e. sends e.what k hop && nat_lt e.clock.0 clock) (gathered logs) ≡ true
IsSentBefore logs clock (Lose k hop) =
    (sending : ℕ) × (clock ≡ sending + 1)
    × (some_event (λ e. sends e.what k hop && e.clock.0 == sending) (gathered logs) ≡ true)
IsSentBefore logs clock _ = Unit {0}

-- an Arrive is at the server that its packet's label gives for its hop
abbrev pub IsInPlace : Stage → List Log → What → Type 0
IsInPlace stage logs (Arrive k hop server verdict) =
    (label : Label) × HasLabel stage logs k label × (arrives_at label.entry hop ≡ Some server)
IsInPlace stage logs _ = Unit {0}

-- a shard's log replays: after the rest of it, its book gives this verdict for the packet's segment
-- and label, and says whether the flow that is closed was held
abbrev pub IsReplayed : Stage → List Log → List Event → ℕ → What → Type 0
IsReplayed stage logs rest clock (Arrive k hop server verdict) =
    (s : Segment) × (segment_of stage k ≡ Some s)
    × (label : Label) × HasLabel stage logs k label
    × (verdict ≡ verdict_after stage rest server clock label hop s)
IsReplayed stage logs rest clock (Close server flow closed) =
    closed ≡ is_some (book_held (book_of stage rest server (shard stage flow)) flow)
IsReplayed stage logs rest clock _ = Unit {0}

-- a Retire comes after its moment, with the answer that the versions published up to its clock give
abbrev pub IsJudged : Stage → List Log → ℕ → What → Type 0
IsJudged stage logs clock (Retire server h at result) =
    (at.0 < clock)
    × IsRetirement stage.script.plan (timeout stage) (published_until logs clock) server at.0 result
IsJudged stage logs clock _ = Unit {0}

-- an event of the actor's log, after the rest of that log
pub record IsEntry (stage : Stage) (logs : List Log) (a : Actor) (rest : List Event) (e : Event)
    : Type 0 where
  pub stands : stands_in stage e.what a ≡ true
  -- the clocks of the actor's own events increase
  pub own : IfSome (actor_of stage e.what)
      (λ b. IfSome (own_clock stage rest b) (λ c. c < e.clock.0))
  pub version : IsNextVersion stage rest e.what
  pub mux : IsOfMux stage e.what
  pub published : IsPublishedBefore logs e.clock.0 e.what
  pub record_of : IsOfRecord stage e.what
  pub sent : IsSentBefore logs e.clock.0 e.what
  pub place : IsInPlace stage logs e.what
  pub replayed : IsReplayed stage logs rest e.clock.0 e.what
  pub judged : IsJudged stage logs e.clock.0 e.what

-- the logs agree
pub record Agree (stage : Stage) (logs : List Log) : Type 0 where
  pub sound : IsSound stage
  pub first : BeginWithController logs
  pub actors : HaveOwnLogs logs
  -- no packet has two Steers
  pub once : (k : ℕ) → count_of (λ e. steers_packet e.what k) (gathered logs) ≤ 1
  -- each log has only entries that it may have
  pub entries : AllByRecursion (λ l. AtEach (IsEntry stage logs l.actor) l.events) logs

-- CLOCKS

-- one of these events has this clock
abbrev pub is_clock : List Event → ℕ → Bool
is_clock past c = some_event (λ e. e.clock.0 == c) past

-- the clock is at most one above the greater of two numbers: 0 or an earlier clock; and a moment of
-- the script or the capture, or an earlier clock plus a short delay
pub record IsPaced (past : List Event) (e : Event) : Type 0 where
  pub a : ℕ
  pub b : ℕ
  pub before : (a ≡ 0) ⊎ (is_clock past a ≡ true)
  pub moment : (b ≤ 45 * 10 ^ 17) ⊎ ((c : ℕ) × (is_clock past c ≡ true) × (b ≤ c + 60000000000))
  pub clock : e.clock.0 ≤ next_clock a b

-- each clock is, after those before it
abbrev pub ArePaced : List Event → Type 0
ArePaced past = AtEach IsPaced past

-- no clock of n events is higher
abbrev pub highest : ℕ → ℕ
highest n = 45 * 10 ^ 17 + n * 60000000001
