-- The muxes of a stage.
use Rattle.std.proofs.Common.{◌≡◌, ℕ, suc, List, Option, Some, None, refl, ap, ◌∙◌}
use Rattle.std.specs.Prelude.{slice_index_or}
use Rattle.bm_table.specs.declared.plan.Change.{Change}
use Rattle.bm_table.specs.Planned.{Planned}
use Rattle.bm_table.specs.Tables.{next_change}
use Rattle.bm_core.specs.declared.schedule.Due.{Due}
use Rattle.bm_core.specs.Schedule.{least, switch_due}
use Rattle.bm_replay.specs.declared.mux.Mux.{Mux}
use Rattle.bm_replay.specs.Inside.Muxes.{switch_after, switches_of, version_in}
use Rattle.bm_replay.specs.Inside.Comings.{sooner_of}
use Rattle.bm_replay.proofs.LeastOfTwo.{least_append}

switch_least : (muxes lag m v : ℕ) (o : Option Change)
    → least (switch_due muxes lag m v o) ≡ switch_after muxes lag m v o
switch_least muxes lag m v None = refl
switch_least muxes lag m v (Some c) = refl

-- the soonest switch of one mux more
pub switches_more : (plan : Planned) (lags : List ℕ) (total : ℕ) (muxes : List Mux) (m : ℕ)
    → least (switches_of plan lags total muxes (suc m))
    ≡ sooner_of (least (switches_of plan lags total muxes m))
    (switch_after total (slice_index_or lags m 0) m (version_in muxes m) (next_change plan (version_in muxes m)))
switches_more plan lags total muxes m =
    least_append (switches_of plan lags total muxes m)
    (switch_due total (slice_index_or lags m 0) m (version_in muxes m) (next_change plan (version_in muxes m)))
    ∙ ap (λ (o : Option Due). sooner_of (least (switches_of plan lags total muxes m)) o)
    (switch_least total (slice_index_or lags m 0) m (version_in muxes m) (next_change plan (version_in muxes m)))
