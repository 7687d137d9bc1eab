-- What the contracts of private calls and the proofs of bodies use in addition to Commands.
use Rattle.std.specs.Prelude.{ℕ}
use Rattle.bm_base.specs.declared.ids.Moment.{Moment}
use Rattle.bm_base.specs.declared.ids.Version.{Version}
use Rattle.bm_core.specs.declared.events.What.TheVariants.{Publish}
use Rattle.bm_merge.specs.Notes.{Note}
use Rattle.bm_worker.specs.WorkerNotes.{note_at, no_fate}

-- a version is published, by the command of this number
abbrev pub publishing : Moment → Version → ℕ → Note
publishing clock version command = note_at clock (Publish version) no_fate command 0 0
