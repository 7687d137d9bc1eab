pub mod Posts
pub mod Inside
