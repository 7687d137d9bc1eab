pub mod Kept
pub mod Tags
pub mod Batches
pub mod NamedServers
