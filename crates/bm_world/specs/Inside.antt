-- Only the contracts of private calls and the proofs of bodies use these.
pub mod RunStates
pub mod GivenUp
pub mod Going
pub mod HandedBack
pub mod Returned
pub mod Left
pub mod Logged
pub mod Routed
pub mod Running
pub mod Served
pub mod Shards
