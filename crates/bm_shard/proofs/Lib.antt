pub mod Copies
pub mod Counting
pub mod Keeping
pub mod Meaning
