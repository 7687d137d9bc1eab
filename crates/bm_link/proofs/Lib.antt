pub mod Tags
pub mod Services
