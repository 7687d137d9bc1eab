-- What the line of a steered packet says of its ends.
use Rattle.std.specs.Prelude.{◌≡◌, ℕ, List, [], ◌∷◌, IsSomeAnd, codes, decimal}
use Rattle.std.specs.List.{flat_map}
use Rattle.bm_core.specs.declared.events.Event.{Event}
use Rattle.bm_core.specs.declared.events.Stage.{Stage}
use Rattle.bm_core.specs.Accounts.{Rules}
use Rattle.bm_core.specs.Ends.{End, AtServer, Lost, packet_ends, IsEnded, IsKept, IsSingle, IsUnlost}
use Rattle.bm_core.specs.Past.{owner}
use Rattle.bm_trace.specs.Report.{ends_of, verdict_end}

-- the words of an end
abbrev pub end_told : End → List (List ℕ)
end_told (AtServer server verdict) = verdict_end server verdict
end_told Lost = codes "lost" ∷ []

-- the packet has an end, and its line has the words of its ends, in their order, and no others
pub record IsEndedLine (F : Rules) (all : List Event) (k : ℕ) : Type 0 where
  pub ended : IsEnded F all k
  pub line : ends_of all k ≡ flat_map end_told (packet_ends all k)

-- the packet is kept, so its line, which has the words of its ends (`IsEndedLine`), says nothing but
-- `processed`, with its owner's server, and `lost`
pub record IsKeptLine (F : Rules) (stage : Stage) (all : List Event) (k : ℕ) : Type 0 where
  pub kept : IsKept F stage all k
  -- where each of its sendings has one copy and none is lost, the line says `processed` and the
  -- server
  pub alone : IsSingle F k → IsUnlost all k
      → IsSomeAnd (owner stage all k)
      (λ a. ends_of all k ≡ codes "processed" ∷ decimal a.server.0 ∷ [])
