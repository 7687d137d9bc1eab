-- A worker after a loss. Only the proofs of bodies use this.
use Rattle.std.specs.Prelude.{ℕ, ◌+◌, max, [], ◌∷◌, ◌++◌}
use Rattle.bm_base.specs.declared.label.Hop.{Hop}
use Rattle.bm_core.specs.declared.events.What.TheVariants.{Lose}
use Rattle.bm_mux.specs.Steers.{at_clock}
use Rattle.bm_worker.specs.declared.worker.MuxWorker.{MuxWorker}

-- the sending at this clock was lost
abbrev pub with_loss : ℕ → Hop → ℕ → MuxWorker → MuxWorker
with_loss k hop clock w = record w {
  mux = record w.mux { log = w.mux.log ++ at_clock (clock + 1) (Lose k hop) ∷ [] };
  caller = record w.caller { latest = max w.caller.latest (clock + 1) };
}
