pub mod Steers
pub mod Muxes
pub mod Inside
