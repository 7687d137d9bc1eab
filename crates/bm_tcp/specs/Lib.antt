pub mod Header
pub mod Packets
pub mod Resets
