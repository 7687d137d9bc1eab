-- Only the contracts of private calls and the proofs of bodies use these.
pub mod Rows
pub mod Ends
pub mod Outcomes
pub mod Servers
pub mod Changes
pub mod Lifetime
pub mod Replays
pub mod Findings
