pub mod Lifetime
pub mod Young
pub mod Worth
pub mod Inside
