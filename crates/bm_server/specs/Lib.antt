pub mod Servings
pub mod Seats
pub mod Copies
pub mod Books
pub mod Inside
