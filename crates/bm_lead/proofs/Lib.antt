pub mod Calling
pub mod Scripted
pub mod Steps
pub mod Leading
pub mod Going
pub mod Stopping
pub mod Ending
