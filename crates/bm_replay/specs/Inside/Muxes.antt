-- The muxes of a stage, each with its version and its table.
use Rattle.std.specs.Prelude.{◌≡◌, ℕ, zero, suc, ◌+◌, ◌*◌, List, [], ◌++◌, Option, Some, None}
use Rattle.std.specs.Prelude.{slice_get, slice_index_or}
use Rattle.bm_base.specs.declared.ids.MuxId.{MuxId}
use Rattle.bm_base.specs.declared.label.Label.{Label}
use Rattle.bm_table.specs.declared.plan.Change.{Change}
use Rattle.bm_table.specs.Entries.{IsTable}
use Rattle.bm_table.specs.Planned.{Planned}
use Rattle.bm_table.specs.Plans.{IsPlan}
use Rattle.bm_table.specs.Tables.{next_change}
use Rattle.bm_core.specs.declared.schedule.Call.TheVariants.{Switches}
use Rattle.bm_core.specs.declared.schedule.Due.{Due}
use Rattle.bm_core.specs.Schedule.{switch_due}
use Rattle.bm_replay.specs.declared.mux.Mux.{Mux}

-- the mux is there, and has the table of this version
pub record HasTable (plan : Planned) (v : ℕ) (o : Option Mux) : Type 0 where
  pub mux : Mux
  pub is_mux : o ≡ Some mux
  pub version : mux.version ≡ v
  pub table : IsTable plan v mux.table

-- the label that the mux writes on a packet of the bucket
pub record IsWritten (by : Mux) (m : MuxId) (bucket : ℕ) (l : Label) : Type 0 where
  pub mux : l.mux ≡ m
  pub version : l.version.0 ≡ by.version
  pub entry : slice_get by.table bucket ≡ Some l.entry

-- the mux after it carried out a change
pub record IsMoved (change : Change) (v : ℕ) (old : Mux) (o : Option Mux) : Type 0 where
  pub mux : Mux
  pub is_mux : o ≡ Some mux
  pub version : mux.version ≡ v
  pub table : (plan : Planned) (w : ℕ) → IsPlan plan → next_change plan w ≡ Some change
      → IsTable plan w old.table → IsTable plan (w + 1) mux.table

-- the version of a mux
abbrev pub version_in : List Mux → ℕ → ℕ
version_in muxes m = (slice_index_or muxes m (record { version = 0; table = [] })).version

-- the mux's switch to the version after v, if there is a change
abbrev pub switch_after : ℕ → ℕ → ℕ → ℕ → Option Change → Option Due
switch_after total lag m v None = None
switch_after total lag m v (Some c) =
    Some (record { moment = c.moment.0 + lag; number = v * total + m; call = Switches m (suc v) })

-- the next switch of each of the first n muxes, by their versions
abbrev pub switches_of : Planned → List ℕ → ℕ → List Mux → ℕ → List Due
switches_of plan lags total muxes zero = []
switches_of plan lags total muxes (suc m) =
    switches_of plan lags total muxes m
    ++ switch_due total (slice_index_or lags m 0) m (version_in muxes m)
    (next_change plan (version_in muxes m))
