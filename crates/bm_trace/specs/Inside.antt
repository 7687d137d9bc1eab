-- Only the contracts of private calls and the proofs of bodies use these.
pub mod Counts
pub mod EndTables
pub mod Ends
pub mod Known
pub mod Parts
pub mod Pieces
pub mod Reading
pub mod Rests
pub mod Seen
pub mod Swept
