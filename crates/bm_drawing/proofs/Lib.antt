pub mod Rests
pub mod Lines
pub mod Decades
