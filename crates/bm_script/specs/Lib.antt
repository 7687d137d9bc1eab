pub mod Commands
pub mod Faults
pub mod Keys
pub mod Placed
pub mod Scripts
pub mod Values
pub mod Verbs
pub mod Inside
