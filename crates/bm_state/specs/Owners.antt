-- What is kept of owners.
use Rattle.std.specs.Prelude.{◌≡◌, ℕ, suc, List, length, Option, None, option_map, slice_index_or}
use Rattle.std.specs.HashMap as table
use Rattle.bm_base.specs.declared.flow.Flow.{Flow}
use Rattle.bm_core.specs.declared.events.Event.{Event}
use Rattle.bm_core.specs.declared.events.Stage.{Stage}
use Rattle.bm_core.specs.Past.{Accepted, accept_of, owner}
use Rattle.bm_state.specs.contracts.flow_key.FlowKeyPartialEq.TheImpl as flow_eq
use Rattle.bm_state.specs.declared.owners.Accepts.{Accepts}
use Rattle.bm_state.specs.declared.owners.Owner.{Owner}
use Rattle.bm_state.specs.declared.owners.Owners.{Owners}
use Rattle.bm_state.specs.FlowKeys.{key_of}

-- the Accept, as the definitions name it
abbrev pub as_accepted : Owner → Accepted
as_accepted o = record { server = o.server; version = o.version; place = o.place }

-- what is kept of the flow
abbrev pub accept_in : Accepts → Flow → Option Owner
accept_in a f = table.get (flow_eq.ghosts).eq a.accepts (key_of f)

-- what is kept of the packet
abbrev pub owner_in : Owners → ℕ → Option Owner
owner_in o k = slice_index_or o.owners.items k None

-- this is kept after these events
pub record KeepsOwners (stage : Stage) (past : List Event) (o : Owners) : Type 0 where
  pub count : length o.owners.items ≡ suc (length stage.capture.records)
  pub accept_of_each : (f : Flow)
      → option_map as_accepted (accept_in o.accepts f) ≡ accept_of stage past f
  pub owner_of_each : (k : ℕ) → option_map as_accepted (owner_in o k) ≡ owner stage past k
