-- What the laws say of the event at a place of a history: if the premises hold the owner serves,
-- and if a packet is refused or processed elsewhere there is a cause (docs/DEFINITIONS.md).
use Rattle.std.specs.Prelude.{◌≡◌, ◌≢◌, ◌==◌, ℕ, ◌+◌, ◌<◌, ◌≤◌, Bool, true, false, ◌⊎◌, List}
use Rattle.std.specs.Prelude.{Option, Some, None, IsSomeAnd, is_some}
use Rattle.bm_base.specs.declared.ids.ServerId.{ServerId}
use Rattle.bm_base.specs.declared.flow.Flow.{Flow}
use Rattle.bm_base.specs.declared.flow.Segment.{Segment}
use Rattle.bm_base.specs.declared.label.Entry.{Entry}
use Rattle.bm_base.specs.declared.label.Label.{Label}
use Rattle.bm_base.specs.declared.label.Hop.{Hop}
use Rattle.bm_base.specs.Labels.{arrives_at, hop_number, onward}
use Rattle.bm_core.specs.declared.events.Cause.TheVariants.{Full, OldTable}
use Rattle.bm_core.specs.declared.events.Why.TheVariants.{Full as FullShard, Retired}
use Rattle.bm_core.specs.declared.events.Verdict.{Verdict}
use Rattle.bm_core.specs.declared.events.Verdict.TheVariants.{Forward, Drop}
use Rattle.bm_core.specs.declared.events.What.{What}
use Rattle.bm_core.specs.declared.events.What.TheVariants.{Arrive}
use Rattle.bm_core.specs.declared.events.Event.{Event}
use Rattle.bm_core.specs.declared.events.Stage.{Stage}
use Rattle.bm_core.specs.declared.events.History.{History}
use Rattle.bm_table.specs.Tables.{moves, same_server}
use Rattle.bm_base.specs.Segments.{is_opening}
use Rattle.bm_core.specs.Past.{segment_of, bucket, timeout, label_of, held, Accepted, owner}
use Rattle.bm_core.specs.Runs.{AtEach, event_at, past_at}
use Rattle.bm_core.specs.Causes.{cause, first_broken, is_process, is_refusal, wants_cause}

-- a packet arrives that isn't opening, and no premise is broken
abbrev pub IsUnbrokenArrival : Stage → List Event → ℕ → What → Type 0
IsUnbrokenArrival stage past clock (Arrive k hop server verdict) =
    IsSomeAnd (segment_of stage k) (λ s. IsSomeAnd (label_of stage past k) (λ l.
    (is_opening s ≡ false)
    × (first_broken stage past clock l hop s.flow server (owner stage past k) ≡ None)))
IsUnbrokenArrival stage past clock _ = ⊥

-- a copy of this hop is forwarded by its label, one step nearer to the server: a copy of a later
-- hop arrives at that server
abbrev pub IsForwardedTo : Entry → Hop → Verdict → ServerId → Type 0
IsForwardedTo e hop verdict server = IsSomeAnd (onward e hop) (λ p. verdict ≡ Forward p.server)
    × ((later : Hop) × (hop_number hop < hop_number later) × (arrives_at e later ≡ Some server))

-- the arriving copy is processed by its owner's server, or at another server forwarded one step
-- nearer to it
abbrev pub IsServed : Stage → List Event → What → Type 0
IsServed stage past (Arrive k hop server verdict) = IsSomeAnd (owner stage past k) (λ a.
    ((is_process verdict ≡ true) × (server ≡ a.server))
    ⊎ ((server ≢ a.server)
    × IsSomeAnd (label_of stage past k) (λ l. IsForwardedTo l.entry hop verdict a.server)))
IsServed stage past _ = ⊥

-- an arrival whose line names a cause: a drop, a reset or a stray
abbrev pub IsBreak : Stage → List Event → What → Type 0
IsBreak stage past (Arrive k hop server verdict) =
    wants_cause verdict (owner stage past k) server (segment_of stage k) ≡ true
IsBreak stage past _ = ⊥

-- an opening packet is reset or dropped where it arrives
abbrev pub IsRefusedOpening : Stage → List Event → What → Type 0
IsRefusedOpening stage past (Arrive k hop server verdict) =
    IsSomeAnd (segment_of stage k) (λ s. is_opening s ≡ true) × (is_refusal verdict ≡ true)
IsRefusedOpening stage past _ = ⊥

-- a full shard drops the packet, or a retired one that its mux's old table led to; the cause says
-- which
abbrev pub IsRefusalNamed : Stage → List Event → ℕ → What → Type 0
IsRefusalNamed stage past clock (Arrive k hop server verdict) =
    ((verdict ≡ Drop FullShard)
    × (cause stage past clock (Arrive k hop server verdict) ≡ Some Full))
    ⊎ ((verdict ≡ Drop Retired)
    × (cause stage past clock (Arrive k hop server verdict) ≡ Some OldTable))
IsRefusalNamed stage past clock _ = ⊥

-- the server is not the owner's, the label's version is no older than the owner's, and the changes
-- between them moved the bucket at most twice, and at least as often as a copy of this hop went
-- back
abbrev pub IsAway : Stage → Hop → ServerId → Option Accepted → Option Segment → Option Label
    → Type 0
IsAway stage hop server (Some a) (Some s) (Some l) =
    let moved = moves stage.script.plan (bucket stage s.flow) a.version l.version.0 in
    (server ≢ a.server) × (a.version ≤ l.version.0) × (hop_number hop ≤ moved) × (moved ≤ 2)
IsAway stage hop server _ _ _ = ⊥

-- a copy is dropped by a retired shard of a server other than its owner's; its label is no older
-- than the owner's version, and the bucket moved since then at most twice, and at least as often as
-- the copy went back
abbrev pub IsRetiredDrop : Stage → List Event → What → Type 0
IsRetiredDrop stage past (Arrive k hop server (Drop Retired)) =
    IsAway stage hop server (owner stage past k) (segment_of stage k) (label_of stage past k)
IsRetiredDrop stage past _ = ⊥

-- there is a server to which a copy of this hop may be passed on, but the clock is past its stamp
-- by more than the timeout
abbrev pub IsStampLate : Stage → ℕ → Hop → Option Label → Type 0
IsStampLate stage clock hop None = ⊥
IsStampLate stage clock hop (Some l) =
    IsSomeAnd (onward l.entry hop) (λ p. p.stamp.0 + timeout stage < clock)

-- the same, by the packet's label
abbrev pub IsLate : Stage → List Event → ℕ → What → Type 0
IsLate stage past clock (Arrive k hop server verdict) =
    IsStampLate stage clock hop (label_of stage past k)
IsLate stage past clock _ = ⊥

-- there is an event at this place of the history, and P holds of it and of the events before it
abbrev pub At : History → ℕ → (Stage → List Event → ℕ → What → Type 0) → Type 0
At h place P = IsSomeAnd (event_at h place) (λ e. P h.stage (past_at h place) e.clock.0 e.what)

-- the event is an arrival of the packet
abbrev pub is_arrival_of : What → ℕ → Bool
is_arrival_of (Arrive k hop server verdict) packet = k == packet
is_arrival_of _ packet = false

-- a server other than this one holds the flow
abbrev pub IsHeldElsewhere : Stage → List Event → Flow → ServerId → Type 0
IsHeldElsewhere stage past f s =
    (other : ServerId) × (same_server other s ≡ false)
    × (is_some (held stage past other f) ≡ true)

-- at each of its arrivals, no premise of the packet is broken
abbrev pub IsUnbrokenPacket : Stage → List Event → ℕ → Type 0
IsUnbrokenPacket stage all packet =
    AtEach (λ past e. is_arrival_of e.what packet ≡ true
    → IsUnbrokenArrival stage past e.clock.0 e.what) all

-- each arriving copy of the packet is processed by its owner's server, or forwarded one step nearer
-- to it
abbrev pub IsServedPacket : Stage → List Event → ℕ → Type 0
IsServedPacket stage all packet =
    AtEach (λ past e. is_arrival_of e.what packet ≡ true → IsServed stage past e.what) all
