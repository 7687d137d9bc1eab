-- Only the contracts of private calls and the proofs of bodies use these.
pub mod Carriers
pub mod Comings
pub mod Flights
pub mod Muxes
pub mod Packets
pub mod Players
pub mod Playing
pub mod Queues
pub mod Shards
pub mod Slots
