pub mod Sittings
pub mod Seen
pub mod Replies
pub mod Views
pub mod Inside
