-- What all workers of a run share, as contracts see it, and what is true of it.
use Rattle.std.specs.Prelude.{◌≡◌, ℕ, List, length, Option, Some, is_some, true}
use denote.Param.Members.{Shared}
use Rattle.bm_base.specs.declared.fate.Fate.{Fate}
use Rattle.bm_base.specs.declared.ids.MuxId.{MuxId}
use Rattle.bm_base.specs.declared.label.Hop.{Hop}
use Rattle.bm_fault.specs.Faults.{Gives}
use Rattle.bm_link.specs.Fits.{ArePackets}
use Rattle.bm_core.specs.declared.events.Stage.{Stage}
use Rattle.bm_core.specs.Accounts.{Rules}
use Rattle.bm_core.specs.Past.{segment_of}
use Rattle.bm_core.specs.Stages.{IsSound}
use Rattle.bm_server.specs.Servings.{Serving}
use Rattle.bm_worker.specs.Assigned.{assigned_mux}
use Rattle.bm_worker.specs.WorkerNotes.{AreServersOf}

pub record Environment (F : Type 0) : Type 0 where
  pub stage : Stage
  -- the mux of each packet
  pub routes : List (Option MuxId)
  pub servers : List Serving
  -- the rule that says what becomes of each sending
  pub rule : F

-- what may be made an environment, where these are the packets' octets
pub record IsRunnable (stage : Stage) (octets : List (List ℕ)) (routes : List (Option MuxId))
    (servers : List Serving)
    : Type 0 where
  pub sound : IsSound stage
  pub packets : ArePackets stage.capture.records octets
  pub servers_are : AreServersOf stage servers
  pub count : length routes ≡ length stage.capture.records
  -- a packet that has a mux is steerable
  pub steerable : (k m : ℕ) → assigned_mux routes k ≡ Some m → is_some (segment_of stage k) ≡ true

-- what is true of each environment
pub record IsSetUp {F : Type 0} (x : Environment F) : Type 0 where
  pub sound : IsSound x.stage
  pub servers_are : AreServersOf x.stage x.servers
  pub steerable : (k m : ℕ) → assigned_mux x.routes k ≡ Some m
      → is_some (segment_of x.stage k) ≡ true

-- what a relation over the fates that the rule may give, the stage and the servers says in the
-- environment
module _ {F : Type 0} (g : Shared F (ℕ × (Hop × Unit {0})) Fate) (x : Environment F) where
  abbrev pub In : {P : Type 1} → (Rules → Stage → List Serving → P) → P
  In relation = relation (Gives g x.rule) x.stage x.servers
