pub mod Fitting
pub mod Arriving
pub mod Serving
pub mod Prefixes
pub mod Leaving
