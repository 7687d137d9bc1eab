pub mod Commands
pub mod Controlled
pub mod Membership
pub mod Racks
pub mod Views
pub mod Inside
