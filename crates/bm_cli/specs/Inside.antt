-- Only the contracts of private calls and the proofs of bodies use these.
pub mod Captures
pub mod Scripts
pub mod Fronts
pub mod Traces
