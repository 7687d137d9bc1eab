use Rattle.std.proofs.Common.{◌≡◌}
use Rattle.bm_core.specs.Schedule.{least}
use Rattle.bm_replay.specs.Inside.Muxes.{switches_of}
use Rattle.bm_replay.proofs.mux.Muxes.soonest.Given as goal

abbrev pub invariant-loop-mux : goal.invariant-loop-mux
invariant-loop-mux l = l.soonest ≡ least (switches_of l.plan l.lags l.total l.self-inside.muxes.items l.mux)
