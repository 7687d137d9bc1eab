pub mod Links
pub mod Classes
pub mod Fits
