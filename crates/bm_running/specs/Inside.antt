-- Only the contracts of private calls and the proofs of bodies use these.
pub mod Shards
pub mod Leaves
pub mod Known
