-- A connection whose premises hold throughout (docs/DEFINITIONS.md).
use Rattle.std.specs.Prelude.{◌≡◌, ◌≢◌, ℕ, ◌+◌, ◌≤◌, true, false, ◌⊎◌, List, length, Some, IfSome}
use Rattle.bm_base.specs.declared.ids.ServerId.{ServerId}
use Rattle.bm_base.specs.declared.flow.Flow.{Flow}
use Rattle.bm_base.specs.declared.flow.Segment.{Segment}
use Rattle.bm_base.specs.declared.label.Hop.TheVariants.{Direct}
use Rattle.bm_core.specs.declared.events.Verdict.{Verdict}
use Rattle.bm_core.specs.declared.events.Verdict.TheVariants.{Forward}
use Rattle.bm_core.specs.declared.events.What.{What}
use Rattle.bm_core.specs.declared.events.What.TheVariants.{Arrive, Close, Retire}
use Rattle.bm_core.specs.declared.events.Event.{Event}
use Rattle.bm_core.specs.declared.events.Stage.{Stage}
use Rattle.bm_table.specs.Tables.{moves}
use Rattle.bm_base.specs.Segments.{is_opening, has_flag, RST}
use Rattle.bm_core.specs.Past.{segment_of, bucket, shard, timeout, label_of, is_accept, is_done}
use Rattle.bm_core.specs.Past.{Accepted, accept_of}
use Rattle.bm_core.specs.Runs.{AtEach}
use Rattle.bm_core.specs.Causes.{is_process}

-- P holds at each of these events, of the events before it, its clock and what it is
abbrev pub Each : (List Event → ℕ → What → Type 0) → List Event → Type 0
Each P past = AtEach (λ before e. P before e.clock.0 e.what) past

-- an arrival of the flow: the one Accept is at its place; other packets come to that server after
-- it, and to other servers in time; their versions are no older than the accepted packet's, and
-- between them the bucket moved at most once
pub record IsPinnedArrival (stage : Stage) (f : Flow) (packet : ℕ) (a : Accepted)
    (past : List Event) (clock k : ℕ) (server : ServerId) (verdict : Verdict) : Type 0 where
  pub one : is_accept verdict ≡ true → (server ≡ a.server) × (length past ≡ a.place)
  pub in_time : k ≢ packet → server ≢ a.server
      → IfSome (label_of stage past k)
      (λ l. IfSome l.entry.prev (λ p. clock ≤ p.stamp.0 + timeout stage))
  pub after : k ≢ packet → server ≡ a.server → accept_of stage past f ≡ Some a
  pub version : k ≢ packet
      → IfSome (label_of stage past k)
      (λ l. (a.version ≤ l.version.0)
      × (moves stage.script.plan (bucket stage f) a.version l.version.0 ≤ 1))

-- the event keeps to the premises of the flow
abbrev pub IsPinnedEvent : Stage → Flow → ℕ → Accepted → List Event → ℕ → What → Type 0
IsPinnedEvent stage f packet a past clock (Arrive k hop server verdict) =
    IfSome (segment_of stage k)
    (λ s. s.flow ≡ f → IsPinnedArrival stage f packet a past clock k server verdict)
-- the server doesn't close the flow's connection, and its shard does not retire
IsPinnedEvent stage f packet a past clock (Close server flow closed) =
    closed ≡ true → server ≡ a.server → flow ≢ f
IsPinnedEvent stage f packet a past clock (Retire server h at result) =
    is_done result ≡ true → server ≡ a.server → h ≢ shard stage f
IsPinnedEvent stage f packet a past clock _ = Unit {0}

-- the packet is the only opening one of its flow, which has no RST; it has one Accept, and every
-- event keeps to the premises
pub record IsPinned (stage : Stage) (all : List Event) (packet : ℕ) : Type 0 where
  pub segment : Segment
  pub is_segment : segment_of stage packet ≡ Some segment
  pub opens : is_opening segment ≡ true
  pub only : (k : ℕ) (s : Segment) → segment_of stage k ≡ Some s → s.flow ≡ segment.flow
      → is_opening s ≡ true → k ≡ packet
  pub no_rst : (k : ℕ) (s : Segment) → segment_of stage k ≡ Some s → s.flow ≡ segment.flow
      → has_flag RST s ≡ false
  pub accept : Accepted
  pub is_accept_of : accept_of stage all segment.flow ≡ Some accept
  pub each : Each (IsPinnedEvent stage segment.flow packet accept) all

-- an arriving copy of the flow's other packets is processed by the server that accepted the flow,
-- or, if it is a direct copy, forwarded there
abbrev pub IsKeptArrival : Stage → Flow → ℕ → Accepted → List Event → ℕ → What → Type 0
IsKeptArrival stage f packet a past clock (Arrive k hop server verdict) =
    IfSome (segment_of stage k)
    (λ s. s.flow ≡ f → k ≢ packet → ((is_process verdict ≡ true) × (server ≡ a.server))
    ⊎ ((hop ≡ Direct) × (verdict ≡ Forward a.server)))
IsKeptArrival stage f packet a past clock _ = Unit {0}

-- this holds of each arriving copy of the flow's other packets
pub record IsKeptTo (stage : Stage) (all : List Event) (packet : ℕ)
    (pinned : IsPinned stage all packet) : Type 0 where
  pub each : Each (IsKeptArrival stage pinned.segment.flow packet pinned.accept) all
