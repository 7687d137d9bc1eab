-- What is kept of tallies when one event has been recorded in part.
use Rattle.std.specs.Prelude.{◌≡◌, ℕ, List}
use Rattle.bm_base.specs.declared.label.Hop.{Hop}
use Rattle.bm_core.specs.declared.events.Event.{Event}
use Rattle.bm_core.specs.Accounts.{arrives, counts}
use Rattle.bm_core.specs.Past.{sends}
use Rattle.bm_state.specs.declared.tallies.Tallies.{Tallies}
use Rattle.bm_state.specs.Tallies.{tally_in}

-- the sendings are those of one list of events, and the arrivals those of another
pub record AreTallied (sent came : List Event) (t : Tallies) : Type 0 where
  pub sendings_of_each : (k : ℕ) (hop : Hop)
      → (tally_in t k hop).sendings ≡ counts sent (λ what. sends what k hop)
  pub arrivals_of_each : (k : ℕ) (hop : Hop)
      → (tally_in t k hop).arrivals ≡ counts came (λ what. arrives what k hop)
