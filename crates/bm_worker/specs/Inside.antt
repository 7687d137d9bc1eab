-- Only the contracts of private calls and the proofs of bodies use these.
pub mod Answers
pub mod Batches
pub mod Pending
pub mod WorkerNotes
pub mod Lost
pub mod Sendings
