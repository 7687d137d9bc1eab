pub mod Turns
pub mod Makes
pub mod Finishes
