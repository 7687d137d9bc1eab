pub mod Sums
pub mod Entries
pub mod Steps
pub mod Changes
pub mod Seats
pub mod ReplyLemmas
pub mod Places
