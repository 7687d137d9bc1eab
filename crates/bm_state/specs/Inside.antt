-- Only the contracts of private calls and the proofs of bodies use these.
pub mod HolderLists
pub mod Packed
pub mod Moves
pub mod Owners
pub mod Tallies
pub mod Losses
pub mod Retirements
