-- What the route gives each packet. Only the proofs of bodies use this.
use Rattle.std.specs.Prelude.{◌≡◌, ℕ, suc, ◌<◌, List, length, slice_get, Option, Some, None}
use Rattle.std.specs.Prelude.{true, is_some}
use Rattle.bm_base.specs.declared.flow.Segment.{Segment}
use Rattle.bm_base.specs.declared.ids.MuxId.{MuxId}
use Rattle.bm_core.specs.declared.events.Stage.{Stage}
use Rattle.bm_core.specs.Accounts.{Routes}
use Rattle.bm_core.specs.Past.{segment_of}
use Rattle.bm_worker.specs.Assigned.{assigned_mux}

-- a steerable packet gets a mux that the route may answer, and no other packet gets one
abbrev pub IsGivenTo : Routes → Stage → ℕ → ℕ → Option MuxId → Type 0
IsGivenTo R stage muxes k None = segment_of stage k ≡ None
IsGivenTo R stage muxes k (Some m) =
    (m.0 < muxes) × ((s : Segment) × (segment_of stage k ≡ Some s) × R k s.flow m.0)

-- the same for each packet of these places
pub record AreGiven (R : Routes) (stage : Stage) (muxes : ℕ) (routes : List (Option MuxId)) : Type
    0 where
  pub count : length routes ≡ length stage.capture.records
  pub each : (i : ℕ) (o : Option MuxId) → slice_get routes i ≡ Some o
      → IsGivenTo R stage muxes (suc i) o

-- each steerable packet has a mux, and no other packet has one
pub record AreRouted (stage : Stage) (routes : List (Option MuxId)) : Type 0 where
  pub below : (k m : ℕ) → assigned_mux routes k ≡ Some m → m < stage.script.setting.muxes
  pub steerable : (k m : ℕ) → assigned_mux routes k ≡ Some m → is_some (segment_of stage k) ≡ true
  pub given : (k : ℕ) → is_some (segment_of stage k) ≡ true → is_some (assigned_mux routes k) ≡ true
  pub count : length routes ≡ length stage.capture.records
