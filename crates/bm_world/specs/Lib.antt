pub mod Seats
pub mod Inside
