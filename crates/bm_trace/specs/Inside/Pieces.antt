-- The lines of a history's events in pieces, which are written in parallel.
use Rattle.std.specs.Prelude.{◌≡◌, ℕ, ◌+◌, ◌*◌, ◌^◌, ◌<◌, ◌≤◌, List, [], ◌++◌, Option, Some, Result}
use Rattle.std.specs.Prelude.{All, IfOk, OnErr, OnOk, false, length, take, reverse, min, slice_get}
use Rattle.std.specs.Prelude.{string_bytes}
use Rattle.std.specs.Io.KnownBytes.{Appends}
use Rattle.bm_core.specs.declared.events.History.{History}
use Rattle.bm_core.specs.Runs.{IsRun}
use Rattle.bm_io.specs.declared.fault.IoFault.{IoFault}
use Rattle.bm_trace.specs.Report.{event_lines}
use Rattle.bm_state.specs.Versions.{KeepsVersions}
use Rattle.bm_trace.specs.Inside.Swept.{AreCausesOf, HasSwept}
use Rattle.bm_trace.specs.Totals.{strays}
use Rattle.bm_trace.specs.declared.beside.Piece.{Piece}
use Rattle.bm_trace.specs.declared.beside.Round.{Round}
use Rattle.bm_trace.specs.declared.swept.Sweeper.{Sweeper}

-- the lines of the first n events
abbrev pub first_lines : History → ℕ → List ℕ
first_lines h n = event_lines h.stage (reverse (take n h.events))

-- these are the lines of the events from one place to another
abbrev pub AreLines : History → ℕ → ℕ → List ℕ → Type 0
AreLines h from to lines = first_lines h from ++ lines ≡ first_lines h to

-- where the piece of this number begins, counted from a place on: there are 2 ^ 14 events in each,
-- as far as there are events
abbrev pub place_of : History → ℕ → ℕ → ℕ
place_of h from k = min (from + k * 2 ^ 14) (length h.events)

-- the pieces follow one another, from a place on
abbrev pub AreInRow : History → ℕ → List Piece → Type 0
AreInRow h from pieces =
    (k : ℕ) (p : Piece) → slice_get pieces k ≡ Some p
    → (p.from ≡ place_of h from k) × (p.to ≡ place_of h from (k + 1))

-- the piece's lines can be written
pub record CanWrite (h : History) (p : Piece) : Type 0 where
  pub order : p.from ≤ p.to
  pub there : p.to ≤ length h.events
  pub known : KeepsVersions (reverse (take p.from h.events)) p.versions
  pub causes : AreCausesOf h p.from p.to p.causes.items
  pub empty : string_bytes p.lines ≡ []

-- they were written, unless memory was refused
pub record HasWritten (h : History) (old new : Piece) : Type 0 where
  pub begins : new.from ≡ old.from
  pub ends : new.to ≡ old.to
  pub lines : new.refused ≡ false → AreLines h old.from old.to (string_bytes new.lines)

-- the lines of each of these were
pub record HaveWritten (h : History) (before now : List Piece) : Type 0 where
  pub each : (k : ℕ) (old new : Piece)
      → slice_get before k ≡ Some old → slice_get now k ≡ Some new → HasWritten h old new

-- the pieces have the events from a place on; the sweep has reached where they end
pub record HasDealt (h : History) (from : ℕ) (pieces : List Piece) (sweeper : Sweeper)
    (to : ℕ) : Type 0 where
  pub place : to ≡ place_of h from (length pieces)
  pub can : All (CanWrite h) pieces
  pub row : AreInRow h from pieces
  pub swept : HasSwept h to sweeper

-- the next pieces can be written
pub record IsRound (h : History) (round : Round) : Type 0 where
  pub from : round.from ≤ length h.events
  pub dealt : HasDealt h round.from round.pieces.items round.sweeper round.to
  pub some : 0 < length round.pieces.items
  pub spare : length round.spare.items ≡ length round.pieces.items

-- the piece of this number was written, unless memory was refused
pub record IsWritten (h : History) (from k : ℕ) (p : Piece) : Type 0 where
  pub begins : p.from ≡ place_of h from k
  pub ends : p.to ≡ place_of h from (k + 1)
  pub lines : p.refused ≡ false → AreLines h p.from p.to (string_bytes p.lines)

-- each of these was
abbrev pub AreWritten : History → ℕ → List Piece → Type 0
AreWritten h from pieces =
    (k : ℕ) (p : Piece) → slice_get pieces k ≡ Some p → IsWritten h from k p

-- the lines of the events from one place to another reached a sink
pub record PutsLines (h : History) (from to : ℕ) (before now : Option (List ℕ)) : Type 0 where
  pub sent : List ℕ
  pub appended : Appends before now sent
  pub lines : AreLines h from to sent

-- only a first part of the lines from a place on reached a sink
pub record PutsPart (h : History) (from : ℕ) (before now : Option (List ℕ)) : Type 0 where
  pub sent : List ℕ
  pub rest : List ℕ
  pub appended : Appends before now sent
  pub lines : AreLines h from (length h.events) (sent ++ rest)

-- the lines of all events reached a sink, and the result is how many strays there are in a run; or
-- a first part of these lines did
pub record HasPut (h : History) (before now : Option (List ℕ)) (result : Result ℕ IoFault) : Type
    0 where
  pub ok : OnOk result (PutsLines h 0 (length h.events) before now)
  pub counted : IfOk result (λ count. IsRun h → count ≡ strays h.stage (reverse h.events))
  pub err : OnErr result (PutsPart h 0 before now)
