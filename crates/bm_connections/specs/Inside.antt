-- Only the contracts of private calls and the proofs of bodies use these.
pub mod Closed
pub mod Copies
pub mod Counters
pub mod FlowSets
pub mod Held
pub mod Loads
pub mod Marks
pub mod Needs
pub mod OpenEnds
pub mod Owned
pub mod Packets
pub mod Resets
pub mod Rows
pub mod Stamps
pub mod Stories
