-- What is kept of how often packets were sent, and of how many copies of them arrived.
use Rattle.std.specs.Prelude.{◌≡◌, ℕ, List, slice_index_or}
use Rattle.bm_base.specs.declared.label.Hop.{Hop}
use Rattle.bm_base.specs.declared.label.Hop.TheVariants.{Direct, Chained, Twice}
use Rattle.bm_core.specs.declared.events.Event.{Event}
use Rattle.bm_core.specs.Accounts.{arrives, counts}
use Rattle.bm_core.specs.Past.{sends}
use Rattle.bm_state.specs.declared.tallies.Tallies.{Tallies}
use Rattle.bm_state.specs.declared.tallies.Tally.{Tally}

-- how often these events send the packet with this hop, and how many copies of it arrive
abbrev pub tally_of : List Event → ℕ → Hop → Tally
tally_of past k hop = record {
  sendings = counts past (λ what. sends what k hop);
  arrivals = counts past (λ what. arrives what k hop);
}

abbrev pub unsent : Tally
unsent = record { sendings = 0; arrivals = 0 }

-- what is kept of packets that make this hop
abbrev pub with_hop : Tallies → Hop → List Tally
with_hop t Direct = t.direct.items
with_hop t Chained = t.chained.items
with_hop t Twice = t.twice.items

abbrev pub tally_in : Tallies → ℕ → Hop → Tally
tally_in t k hop = slice_index_or (with_hop t hop) k unsent

-- this is kept after these events
pub record KeepsTallies (past : List Event) (t : Tallies) : Type 0 where
  pub tally_of_each : (k : ℕ) (hop : Hop) → tally_in t k hop ≡ tally_of past k hop
