-- What worker 0 keeps while it goes through the commands of a script.
use Rattle.std.specs.Prelude.{◌≡◌, ℕ, ◌+◌, ◌*◌, ◌<◌, ◌≤◌, List, [], drop, length, slice_get}
use Rattle.std.specs.Prelude.{Option, Some}
use Rattle.std.specs.Prelude.{Result, Err}
use Rattle.bm_table.specs.declared.script.Command.{Command}
use Rattle.bm_table.specs.declared.script.Command.TheVariants.{Sync}
use Rattle.bm_table.specs.Scripts.{NamesVersions}
use Rattle.bm_core.specs.declared.events.Stage.{Stage}
use Rattle.bm_server.specs.Servings.{Serving}
use Rattle.bm_publish.specs.Posts.{Posted, last_post}
use Rattle.bm_worker.specs.WorkerNotes.{HasSeats}
use Rattle.bm_worker.specs.Callers.{CallerState}
use Rattle.bm_worker.specs.declared.stop.Stop.{Stop}
use Rattle.bm_worker.specs.declared.stop.Stop.TheVariants.{Late, Memory}
use Rattle.bm_lead.specs.declared.leader.Leader.{Leader}

-- what was posted on the board is what worker 0 has published
pub record HasPosted (stage : Stage) (posted : Posted) (leader : Leader) : Type 0 where
  pub plan : posted.plan ≡ stage.script.plan
  pub count : length posted.clocks ≡ leader.published.0
  pub few : leader.published.0 ≤ length stage.script.plan.changes

-- worker 0 may go on
pub record IsReady (stage : Stage) (servers : List Serving) (posted : Posted) (leader : Leader)
    : Type 0 where
  pub next : leader.next ≤ length stage.script.commands
  -- the commands that are left name the versions that aren't published
  pub versions : NamesVersions (leader.published.0 + 1) (length stage.script.plan.changes)
      (drop leader.next stage.script.commands)
  pub posted_is : HasPosted stage posted leader
  -- the last post is no later than what worker 0 did
  pub below : last_post posted ≤ leader.caller.latest
  -- at most one call for each shard of a command
  pub tries : leader.caller.tries ≤ 64 * leader.next
  pub number : leader.caller.number ≡ 0
  pub has_seats : HasSeats servers leader.caller

-- nothing is posted, and worker 0 has a seat of every server and has done nothing
pub record Begins (stage : Stage) (servers : List Serving) (posted : Posted) (caller : CallerState)
    : Type 0 where
  pub plan : posted.plan ≡ stage.script.plan
  pub clocks : posted.clocks ≡ []
  pub number : caller.number ≡ 0
  pub has_seats : HasSeats servers caller
  pub tries : caller.tries ≡ 0
  pub latest : caller.latest ≡ 0

-- there is a command, and it is a sync
abbrev pub IsSyncCommand : Option Command → Type 0
IsSyncCommand (Some (Sync at)) = Unit {0}
IsSyncCommand _ = ⊥

-- the commands at the places from..until, which aren't syncs
pub record IsPhase (commands : List Command) («from» until : ℕ) : Type 0 where
  pub order : «from» ≤ until
  pub end : until ≤ length commands
  pub no_sync : (i : ℕ) → «from» ≤ i → i < until → IsSyncCommand (slice_get commands i) → ⊥

-- what holds unless memory was refused
abbrev pub UnlessMemory : {T : Type 0} → Result T Stop → Type 0 → Type 0
UnlessMemory (Err Memory) P = Unit {0}
UnlessMemory _ P = P

-- what holds if a moment is too large
abbrev pub OnLate : {T : Type 0} → Result T Stop → Type 0 → Type 0
OnLate (Err (Late moment clock)) P = P
OnLate _ P = Unit {0}

-- why worker 0 gave up: memory, or a moment above the most, which is at most one above this clock
abbrev pub IsStopFrom : ℕ → ℕ → Stop → Type 0
IsStopFrom most clock Memory = Unit {0}
IsStopFrom most clock (Late moment c) =
    (c.0 ≡ clock) × (most < moment.0) × (moment.0 ≤ clock + 1)
