-- What worker 0 promises of what it does (docs/DEFINITIONS.md). Lists of notes have the newest
-- first.
use Rattle.std.specs.Prelude.{◌≡◌, ℕ, false, ◌+◌, ◌*◌, ◌^◌, ◌<◌, ◌≤◌, List, [], ◌∷◌, ◌++◌, reverse}
use Rattle.std.specs.Prelude.{slice_get}
use Rattle.std.specs.List.{AllByRecursion}
use Rattle.bm_base.specs.declared.ids.Moment.{Moment}
use Rattle.bm_core.specs.declared.events.Stage.{Stage}
use Rattle.bm_core.specs.declared.events.What.{What}
use Rattle.bm_core.specs.declared.events.What.TheVariants.{Close, Retire}
use Rattle.bm_core.specs.Accounts.{is_sync}
use Rattle.bm_core.specs.Past.{newest}
use Rattle.bm_core.specs.Runs.{AtEach, next_clock}
use Rattle.bm_core.specs.Threads.{moment_at}
use Rattle.bm_merge.specs.Notes.{Note, greatest}
use Rattle.bm_merge.specs.Workers.{IsCommanded}
use Rattle.bm_server.specs.Servings.{Serving}
use Rattle.bm_publish.specs.Posts.{Posted}
use Rattle.bm_worker.specs.WorkerNotes.{GetReplies, HasServer, IsSameCaller}
use Rattle.bm_lead.specs.declared.leader.Leader.{Leader}
use Rattle.bm_lead.specs.Commands.{AreDone, IsControlStep, IsJudgedBy, control_log, posted_clocks}
use Rattle.bm_lead.specs.Commands.{syncing}
use Rattle.bm_lead.specs.Leaders.{IsReady}

-- all that worker 0 did so far: the commands before the next one, and nothing else
pub record IsLed (stage : Stage) (posted : Posted) (leader : Leader) (notes : List Note) : Type 0 where
  pub each : AtEach (IsCommanded stage) notes
  pub done : AreDone stage leader.next notes
  pub seats : AllByRecursion (λ n. n.seat ≡ 0) notes
  -- the controller's log
  pub log : reverse leader.log.items ≡ control_log stage notes
  pub steps : AtEach (IsControlStep stage) (control_log stage notes)
  pub judged : AllByRecursion
      (λ n. IsJudgedBy stage (control_log stage notes) n.event.clock.0 n.event.what) notes
  -- what was posted on the board
  pub published : newest (control_log stage notes) ≡ leader.published.0
  pub posts : posted.clocks ≡ posted_clocks (control_log stage notes)
  -- the greatest clock
  pub latest : leader.caller.latest ≡ greatest (λ n. n.event.clock.0) notes

-- a Close is at one of the servers, a Retire at a shard of one
abbrev pub IsPlaced : Stage → List Serving → What → Type 0
IsPlaced stage servers (Close server flow closed) = HasServer servers server
IsPlaced stage servers (Retire server h at result) =
    HasServer servers server × (h < stage.script.setting.shards)
IsPlaced stage servers _ = Unit {0}

-- by these notes worker 0 goes from the posts p and the state a to q and b
pub record Leads (stage : Stage) (servers : List Serving) (p q : Posted) (a b : Leader)
    (notes : List Note) : Type 0 where
  pub led : (before : List Note) → IsLed stage p a before → IsLed stage q b (notes ++ before)
  pub board : q.board ≡ p.board
  pub same : IsSameCaller a.caller b.caller
  -- its seats' calls and replies grow by exactly what it does at their shards
  pub replies : GetReplies stage servers a.caller.seats b.caller.seats notes
  pub placed : AllByRecursion (λ n. IsPlaced stage servers n.event.what) notes
  -- each clock is above all clocks before
  pub since : AllByRecursion (λ n. a.caller.latest < n.event.clock.0) notes
  pub rises : a.caller.latest ≤ b.caller.latest

-- none of them is a Sync
abbrev pub HaveNoSync : List Note → Type 0
HaveNoSync notes = AllByRecursion (λ n. is_sync n.event.what ≡ false) notes

-- worker 0 went on without a Sync, and may go on
abbrev pub HasLed : Stage → List Serving → Posted → Posted → Leader → Leader → Type 0
HasLed stage servers p q a b = IsReady stage servers q b
    × ((notes : List Note) × Leads stage servers p q a b notes × HaveNoSync notes)

-- worker 0 logged a Sync above all clocks; the greatest of these is top
pub record HasSynced (stage : Stage) (servers : List Serving) (posted : Posted) (top : ℕ)
    (a b : Leader) : Type 0 where
  pub clock : Moment
  pub is_next : clock.0 ≡ next_clock top (moment_at (slice_get stage.script.commands a.next))
  pub bound : clock.0 ≤ 9 * 10 ^ 18
  pub leads : Leads stage servers posted posted a b (syncing clock a.next ∷ [])
  pub ready : IsReady stage servers posted b
  pub latest : b.caller.latest ≡ clock.0
  pub next : b.next ≡ a.next + 1
