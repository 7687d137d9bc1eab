-- Only the contracts of private calls and the proofs of bodies use these.
pub mod Reading
pub mod Taking
pub mod Comparing
pub mod Orders
pub mod Copies
pub mod Checking
