-- Only the contracts of private calls and the proofs of bodies use these.
pub mod Commands
pub mod Steps
