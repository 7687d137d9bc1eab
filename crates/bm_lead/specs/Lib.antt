pub mod Commands
pub mod Leaders
pub mod Leads
pub mod Inside
