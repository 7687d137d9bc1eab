-- Only the contracts of private calls and the proofs of bodies use these.
pub mod Found
pub mod Keeping
pub mod Keys
pub mod Latest
pub mod Lines
pub mod Places
pub mod Positions
