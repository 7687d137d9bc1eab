-- The packets that `laws::guaranteed` speaks of (docs/DEFINITIONS.md).
use Rattle.std.specs.Prelude.{◌≡◌, ℕ, ◌+◌, ◌≤◌, Bool, true, false, ◌&&◌, ◌||◌, List, [], ◌∷◌, Option}
use Rattle.std.specs.Prelude.{Some, IfSome, IsSomeAnd, is_some}
use Rattle.bm_base.specs.declared.flow.Flow.{Flow}
use Rattle.bm_base.specs.declared.flow.Segment.{Segment}
use Rattle.bm_base.specs.declared.ids.ServerId.{ServerId}
use Rattle.bm_base.specs.declared.label.Hop.TheVariants.{Direct}
use Rattle.bm_base.specs.Segments.{is_opening, same_flow}
use Rattle.bm_core.specs.declared.events.Event.{Event}
use Rattle.bm_core.specs.declared.events.Stage.{Stage}
use Rattle.bm_core.specs.declared.events.What.{What}
use Rattle.bm_core.specs.declared.events.What.TheVariants.{Arrive, Close}
use Rattle.bm_core.specs.Past.{bucket, ends, is_of, is_sent, label_of, owner, segment_of}
use Rattle.bm_core.specs.Threads.{record_moment}
use Rattle.bm_lifetime.specs.Lifetime.{lifetime, lifetime_of}

-- the event ends a connection of the flow: a segment ends it, or a Close closes it
abbrev pub ends_flow : Stage → What → Flow → Bool
ends_flow stage (Arrive k hop server verdict) f = ends verdict && is_of (segment_of stage k) f
ends_flow stage (Close server flow closed) f = closed && same_flow flow f
ends_flow stage _ f = false

-- a connection of the flow was ended
abbrev pub is_ended : Stage → List Event → Flow → Bool
is_ended stage [] f = false
is_ended stage (e ∷ past) f = ends_flow stage e.what f || is_ended stage past f

-- no opening packet of the flow was steered but this one
abbrev pub IsOnly : Stage → List Event → Flow → ℕ → Type 0
IsOnly stage past f opening =
    (k : ℕ) (s : Segment) → segment_of stage k ≡ Some s → s.flow ≡ f → is_opening s ≡ true
    → is_sent past k Direct ≡ true → k ≡ opening

-- the opening packets of the flow that were steered came at this moment or later, have one sequence
-- number, and were sent to one server. This holds where there is only one (`laws::opened_once`).
abbrev pub AreOpenings : Stage → List Event → Flow → ℕ → ℕ → ServerId → Type 0
AreOpenings stage past f from start home =
    (k : ℕ) (s : Segment) → segment_of stage k ≡ Some s → s.flow ≡ f → is_opening s ≡ true
    → is_sent past k Direct ≡ true
    → (from ≤ record_moment stage k) × (s.seq ≡ start)
    × IfSome (label_of stage past k) (λ l. l.entry.cur ≡ home)

-- a packet of a connection that was opened from this moment on, was accepted before the packet was
-- steered, wasn't ended, and has lived no longer than this
pub record IsYoung (stage : Stage) (past : List Event) (k from : ℕ) (life : Option ℕ) : Type 0 where
  pub segment : Segment
  pub is_segment : segment_of stage k ≡ Some segment
  pub plain : is_opening segment ≡ false
  pub accepted : is_some (owner stage past k) ≡ true
  -- the sequence number and the server of its opening packets
  pub start : ℕ
  pub home : ServerId
  pub opened : AreOpenings stage past segment.flow from start home
  pub lives : is_ended stage past segment.flow ≡ false
  pub age : IfSome life (λ most. record_moment stage k ≤ from + most)

-- such a packet arrives, whose connection has lived no longer than the script's lifetime
abbrev pub IsYoungArrival : Stage → List Event → ℕ → What → Type 0
IsYoungArrival stage past clock (Arrive k hop server verdict) =
    (from : ℕ) × IsYoung stage past k from (lifetime stage.script)
IsYoungArrival stage past clock _ = ⊥

-- the same, by the lifetime of the flow's bucket, which is as long or longer
abbrev pub IsYoungInBucket : Stage → List Event → ℕ → What → Type 0
IsYoungInBucket stage past clock (Arrive k hop server verdict) =
    IsSomeAnd (segment_of stage k)
    (λ s. (from : ℕ) × IsYoung stage past k from (lifetime_of stage.script (bucket stage s.flow)))
IsYoungInBucket stage past clock _ = ⊥
