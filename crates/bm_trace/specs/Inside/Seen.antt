-- What an event does to a held flow.
use Rattle.std.specs.Prelude.{◌≡◌, ℕ, Option, Some, None, option_map}
use Rattle.bm_base.specs.declared.flow.Flow.{Flow}
use Rattle.bm_base.specs.declared.ids.ServerId.{ServerId}
use Rattle.bm_base.specs.declared.receive.Taken.TheVariants.{Ended}
use Rattle.bm_core.specs.declared.events.Stage.{Stage}
use Rattle.bm_core.specs.declared.events.Verdict.{Verdict}
use Rattle.bm_core.specs.declared.events.Verdict.TheVariants.{Accept, Process}
use Rattle.bm_core.specs.declared.events.What.{What}
use Rattle.bm_core.specs.Past.{Holding, held_after}
use Rattle.bm_trace.specs.declared.held.Effect.{Effect}
use Rattle.bm_trace.specs.declared.held.Effect.TheVariants.{Opens, Ends, Keeps}

abbrev pub verdict_effect : Verdict → Effect
verdict_effect Accept = Opens
verdict_effect (Process Ended) = Ends
verdict_effect _ = Keeps

-- the place of what is held after an event with this effect at a place
abbrev pub place_after : Effect → ℕ → Option Holding → Option ℕ
place_after Opens place before = Some place
place_after Ends place before = None
place_after Keeps place before = option_map (λ h. h.place) before

-- the event has this effect on the flow at the server
pub record HasEffect (stage : Stage) (what : What) (s : ServerId) (f : Flow) (effect : Effect) :
    Type 0 where
  pub place : (place : ℕ) (before : Option Holding)
      → option_map (λ h. h.place) (held_after stage place what s f before)
      ≡ place_after effect place before
