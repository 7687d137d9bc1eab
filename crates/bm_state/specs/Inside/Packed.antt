-- What is kept of a packet in little memory, as options.
use Rattle.std.specs.Prelude.{Option, Some, None}
use Rattle.bm_state.specs.declared.labels.Kept.{Kept}
use Rattle.bm_state.specs.declared.labels.Kept.TheVariants.{Unsteered, Steered}
use Rattle.bm_state.specs.declared.labels.Steering.{Steering}
use Rattle.bm_state.specs.declared.owners.Owned.{Owned}
use Rattle.bm_state.specs.declared.owners.Owned.TheVariants.{Nobodys, By}
use Rattle.bm_state.specs.declared.owners.Owner.{Owner}

abbrev pub steering_of : Kept → Option Steering
steering_of Unsteered = None
steering_of (Steered mux version) = Some (record { mux = mux; version = version })

abbrev pub owner_of : Owned → Option Owner
owner_of Nobodys = None
owner_of (By server version place) =
    Some (record { server = server; version = version; place = place })
