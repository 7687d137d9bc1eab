-- What the contracts of private calls and the proofs of bodies use in addition to WorkerNotes.
use Rattle.std.specs.Prelude.{ℕ, Bool}
use Rattle.bm_base.specs.declared.fate.Fate.{Fate}
use Rattle.bm_base.specs.declared.flow.Flow.{Flow}
use Rattle.bm_base.specs.declared.ids.Moment.{Moment}
use Rattle.bm_base.specs.declared.ids.ServerId.{ServerId}
use Rattle.bm_base.specs.declared.label.Hop.{Hop}
use Rattle.bm_table.specs.declared.plan.Retirement.{Retirement}
use Rattle.bm_core.specs.declared.events.Verdict.{Verdict}
use Rattle.bm_core.specs.declared.events.What.TheVariants.{Arrive, Close, Lose, Retire}
use Rattle.bm_merge.specs.Notes.{Note}
use Rattle.bm_worker.specs.WorkerNotes.{note_at, no_fate}

-- a copy of the packet arrives, and this fate is drawn for what it sends
abbrev pub arrival : Moment → ℕ → Hop → ServerId → Verdict → Fate → ℕ → ℕ → Note
arrival clock k hop server verdict fate due seat =
    note_at clock (Arrive k hop server verdict) fate 0 due seat

-- the copies of a sending are lost
abbrev pub loss : ℕ → ℕ → Hop → ℕ → Note
loss clock k hop seat = note_at (record { 0 = clock }) (Lose k hop) no_fate 0 0 seat

-- a server ends a connection, by the command of this number
abbrev pub closing : Moment → ServerId → Flow → Bool → ℕ → ℕ → ℕ → Note
closing clock server flow closed command at seat =
    note_at clock (Close server flow closed) no_fate command at seat

-- a shard is asked to retire, by the command of this number
abbrev pub retiring : Moment → ServerId → ℕ → Moment → Retirement → ℕ → ℕ → Note
retiring clock server shard at outcome command seat =
    note_at clock (Retire server shard at outcome) no_fate command at.0 seat
