-- How worker 0 carries out one command. Only the proofs of bodies use this.
use Rattle.std.specs.Prelude.{◌≡◌, ℕ, suc, ◌+◌, ◌-◌, ◌<◌, ◌≤◌, max, Bool, true}
use Rattle.std.specs.Prelude.{List, [], ◌∷◌, ◌++◌, length}
use Rattle.bm_base.specs.declared.ids.Moment.{Moment}
use Rattle.bm_base.specs.declared.ids.ServerId.{ServerId}
use Rattle.bm_table.specs.declared.plan.Retirement.{Retirement}
use Rattle.bm_table.specs.declared.script.Command.{Command}
use Rattle.bm_table.specs.declared.script.Command.TheVariants.{Change, Close, Retire, Sync}
use Rattle.bm_table.specs.Tables.{IsRetirement, change_moment, is_known, next_change}
use Rattle.bm_core.specs.declared.events.Event.{Event}
use Rattle.bm_core.specs.declared.events.Stage.{Stage}
use Rattle.bm_core.specs.Past.{published_by, timeout}
use Rattle.bm_core.specs.Runs.{next_clock}
use Rattle.bm_merge.specs.Notes.{Note, greatest}
use Rattle.bm_server.specs.Servings.{Serving}
use Rattle.bm_publish.specs.Posts.{Posted}
use Rattle.bm_worker.specs.WorkerNotes.{GetReplies, IsSameCaller, HasSeats}
use Rattle.bm_worker.specs.Inside.WorkerNotes.{closing, retiring}
use Rattle.bm_worker.specs.Callers.{CallerState}
use Rattle.bm_lead.specs.declared.leader.Leader.{Leader}
use Rattle.bm_lead.specs.Commands.{control_log, posted_clocks, syncing}
use Rattle.bm_lead.specs.Inside.Commands.{publishing}

-- the shards below h of a server were asked to retire, in order, by the command i
abbrev pub AreRetirings : ℕ → ServerId → Moment → Retirement → ℕ → List Note → Type 0
AreRetirings i server at outcome h [] = h ≡ 0
AreRetirings i server at outcome h (n ∷ notes) =
    (clock : Moment) × (k : ℕ) × (h ≡ suc k) × (n ≡ retiring clock server k at outcome i 0)
    × (at.0 < clock.0) × AreRetirings i server at outcome k notes

-- the notes carry out the command i, where the controller's clock was `latest` and this many
-- versions were published
abbrev pub AreOf : Stage → ℕ → ℕ → ℕ → Command → List Note → Type 0
AreOf stage latest published i (Change v) notes =
    (clock : Moment) × (notes ≡ publishing clock v i ∷ [])
    × (clock.0 ≡ next_clock latest (change_moment (next_change stage.script.plan (v.0 - 1))))
AreOf stage latest published i (Close at server flow) notes =
    (clock : Moment) × (closed : Bool)
    × (notes ≡ closing clock server flow closed i (max at.0 latest) 0 ∷ [])
    × (max at.0 latest < clock.0)
AreOf stage latest published i (Retire at server) notes =
    (due : Moment) × (outcome : Retirement) × (due.0 ≡ max at.0 latest)
    × IsRetirement stage.script.plan (timeout stage) published server due.0 outcome
    × AreRetirings i server due outcome stage.script.setting.shards notes
AreOf stage latest published i (Sync at) notes =
    (clock : Moment) × (notes ≡ syncing clock i ∷ []) × (latest < clock.0)

-- worker 0 has its seats at the servers, and may make this many calls
pub record CanCall (servers : List Serving) (calls : ℕ) (p : CallerState) : Type 0 where
  pub has_seats : HasSeats servers p
  pub number : p.number ≡ 0
  pub few : p.tries + calls ≤ 4294967295

-- the worker's seats and clock after these notes, where at most this many are calls
pub record HasCalled (stage : Stage) (servers : List Serving) (calls : ℕ) (a b : CallerState)
    (notes : List Note) : Type 0 where
  pub replies : GetReplies stage servers a.seats b.seats notes
  pub same : IsSameCaller a b
  pub tries : b.tries ≤ a.tries + calls
  pub latest : b.latest ≡ max a.latest (greatest (λ n. n.event.clock.0) notes)

-- how many versions are published after the events
abbrev pub published_after : List Event → ℕ → ℕ
published_after [] before = before
published_after (e ∷ past) before = published_by e.what (published_after past before)

-- worker 0 and the board after these notes, before it goes to the next command
pub record HasDone (stage : Stage) (servers : List Serving) (p q : Posted) (a b : Leader)
    (notes : List Note) : Type 0 where
  pub called : HasCalled stage servers 64 a.caller b.caller notes
  pub next : b.next ≡ a.next
  pub log : b.log.items ≡ a.log.items ++ control_log stage notes
  pub posted : q ≡ record p { clocks = p.clocks ++ posted_clocks (control_log stage notes) }
  pub published : b.published.0 ≡ published_after (control_log stage notes) a.published.0

-- worker 0 carried out a command like this, from p and a to q and b
abbrev pub CarriesOut : Stage → List Serving → Posted → Posted → Leader → Leader → Command → Type 0
CarriesOut stage servers p q a b c =
    (notes : List Note) × AreOf stage a.caller.latest a.published.0 a.next c notes
    × HasDone stage servers p q a b notes

-- the script knows the server
abbrev pub IsKnown : Stage → ServerId → Type 0
IsKnown stage id =
    is_known stage.script.plan (length stage.script.plan.changes) id ≡ true
