-- How the copies of a packet end, and what the laws say of it (docs/DEFINITIONS.md). A past has its
-- newest event first.
use Rattle.std.specs.Prelude.{◌≡◌, ℕ, ◌<◌, ◌≤◌, true, ◌&&◌, not, ◌==◌, if◌then◌else◌, ◌⊎◌}
use Rattle.std.specs.Prelude.{List, [], ◌∷◌, ◌++◌, length, Option, IsSomeAnd}
use Rattle.std.specs.List.{AllByRecursion}
use Rattle.bm_base.specs.declared.ids.ServerId.{ServerId}
use Rattle.bm_base.specs.declared.label.Hop.{Hop}
use Rattle.bm_base.specs.declared.label.Hop.TheVariants.{Direct}
use Rattle.bm_base.specs.declared.fate.Fate.{Fate}
use Rattle.bm_core.specs.declared.events.Verdict.{Verdict}
use Rattle.bm_core.specs.declared.events.What.{What}
use Rattle.bm_core.specs.declared.events.What.TheVariants.{Lose, Arrive}
use Rattle.bm_core.specs.declared.events.Event.{Event}
use Rattle.bm_core.specs.declared.events.Stage.{Stage}
use Rattle.bm_core.specs.Past.{is_forward, sends, Accepted, owner}
use Rattle.bm_core.specs.Causes.{is_process}
use Rattle.bm_core.specs.Accounts.{Rules, arrives, counts, loses}

-- how a copy ends: with a server's verdict, or it is lost
pub data End : Type 0 where
  AtServer : ServerId → Verdict → End
  Lost : End

-- the end of a copy of packet k, if the event is one; a forward is not an end
abbrev pub end_in : What → ℕ → List End
end_in (Arrive packet hop server verdict) k =
    if packet == k && not (is_forward verdict) then AtServer server verdict ∷ [] else []
end_in (Lose packet hop) k = if packet == k then Lost ∷ [] else []
end_in _ k = []

-- the ends of packet k among these events, in the order in which they happened
abbrev pub packet_ends : List Event → ℕ → List End
packet_ends [] k = []
packet_ends (e ∷ past) k = packet_ends past k ++ end_in e.what k

-- the owner's server processed the copy
abbrev pub IsProcessedBy : Option Accepted → End → Type 0
IsProcessedBy owner (AtServer server verdict) =
    (is_process verdict ≡ true) × IsSomeAnd owner (λ a. server ≡ a.server)
IsProcessedBy owner Lost = ⊥

-- no Lose is of packet k
abbrev pub IsUnlost : List Event → ℕ → Type 0
IsUnlost all k = (hop : Hop) → counts all (λ what. loses what k hop) ≡ 0

-- the impairment rule gives packet k one copy at most for each hop
abbrev pub IsSingle : Rules → ℕ → Type 0
IsSingle F k = (hop : Hop) (fate : Fate) → F k hop fate → fate.copies ≤ 1

-- how packet k, which was steered, ended
pub record IsEnded (F : Rules) (all : List Event) (k : ℕ) : Type 0 where
  -- it has an end, and just one where the rule gives one copy at most for each hop
  pub some : 0 < length (packet_ends all k)
  pub one : IsSingle F k → length (packet_ends all k) ≡ 1
  -- where what its mux sent was lost, that is its one end
  pub lost : 0 < counts all (λ what. loses what k Direct) → packet_ends all k ≡ Lost ∷ []

-- how packet k ended, if its premises held at all its arrivals: no copy was dropped, reset, or
-- processed elsewhere than at its owner's server
pub record IsKept (F : Rules) (stage : Stage) (all : List Event) (k : ℕ) : Type 0 where
  pub ended : IsEnded F all k
  -- at each end its owner's server processed the copy, or the copy was lost
  pub each : AllByRecursion (λ end. IsProcessedBy (owner stage all k) end ⊎ (end ≡ Lost))
      (packet_ends all k)
  -- where no copy was lost, its owner's server processed it at each end
  pub processed : IsUnlost all k
      → AllByRecursion (λ end. IsProcessedBy (owner stage all k) end) (packet_ends all k)

-- what was lost of the sendings of packet k with this hop
pub record AreLost (F : Rules) (all : List Event) (k : ℕ) (hop : Hop) : Type 0 where
  -- no more than were sent
  pub few : counts all (λ what. loses what k hop) ≤ counts all (λ what. sends what k hop)
  -- all, where the rule gives them no copies
  pub all_lost : ((fate : Fate) → F k hop fate → fate.copies ≡ 0)
      → counts all (λ what. loses what k hop) ≡ counts all (λ what. sends what k hop)
  -- where all were lost, no copy arrived
  pub none : counts all (λ what. loses what k hop) ≡ counts all (λ what. sends what k hop)
      → counts all (λ what. arrives what k hop) ≡ 0
