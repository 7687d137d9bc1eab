pub mod Fields
pub mod Header
pub mod Checksum
pub mod Inside
