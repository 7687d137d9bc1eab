-- Only the contracts of private calls and the proofs of bodies use these.
pub mod Causes
pub mod Options
pub mod Parts
pub mod Places
pub mod Reader
